use Rattle.std.proofs.Common.{◌≡◌, ℕ, None}
use Rattle.bound_fold.specs.Lists.{list_of}
use Rattle.key_bounds.specs.InSets.{bounds_with_carried}
use Rattle.key_bounds.proofs.Made.{HasRowsTo}
use Rattle.key_bounds.proofs.in_sets.with_rows.Given as goal

abbrev pub invariant-loop-entry : goal.invariant-loop-entry
invariant-loop-entry l = HasRowsTo (bounds_with_carried l.keys l.subset) l.entry l.made × ((entry column : ℕ) → list_of l.made entry column ≡ None)
