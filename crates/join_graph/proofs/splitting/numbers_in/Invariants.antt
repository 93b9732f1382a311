use Rattle.std.proofs.Common.{◌≡◌, ◌++◌, drop}
use Rattle.join_graph.specs.Conjuncts.{numbers_where}
use Rattle.join_graph.specs.Naming.{is_same_part}
use Rattle.join_graph.proofs.splitting.numbers_in.Given as goal

abbrev pub invariant-loop-i : goal.invariant-loop-i
invariant-loop-i l = l.numbers ++ numbers_where (is_same_part l.part) l.i (drop l.i l.parts) ≡ numbers_where (is_same_part l.part) 0 l.parts
