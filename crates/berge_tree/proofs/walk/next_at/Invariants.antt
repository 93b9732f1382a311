use Rattle.std.proofs.Common.{◌≡◌, drop}
use Rattle.std.specs.Prelude.{filter}
use Rattle.berge_tree.specs.Walk.{is_column_below}
use Rattle.berge_tree.proofs.walk.next_at.Given as goal

abbrev pub invariant-loop-i : goal.invariant-loop-i
invariant-loop-i l = filter (is_column_below l.entry l.above) (drop l.i l.columns) ≡ filter (is_column_below l.entry l.above) (drop l.from l.columns)
