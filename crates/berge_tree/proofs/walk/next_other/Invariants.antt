use Rattle.std.proofs.Common.{◌≡◌, drop}
use Rattle.std.specs.Prelude.{filter}
use Rattle.berge_tree.specs.Walk.{is_other_of_class}
use Rattle.berge_tree.proofs.walk.next_other.Given as goal

abbrev pub invariant-loop-i : goal.invariant-loop-i
invariant-loop-i l = filter (is_other_of_class l.column_above) (drop l.i l.columns) ≡ filter (is_other_of_class l.column_above) (drop l.from l.columns)
