use Rattle.std.proofs.Common.{◌≡◌, ℕ, None}
use Rattle.bound_fold.specs.Lists.{list_of}
use Rattle.join_steps.specs.Lists.{lists_of}
use Rattle.planning.specs.ListsSoFar.{HasRows}
use Rattle.planning.proofs.rows.row_bounds.Given as goal

abbrev pub invariant-lists : goal.invariant-lists
invariant-lists l = record {
  rows : HasRows (lists_of l.lists) l.entry l.known;
  no_lists : (entry column : ℕ) → list_of l.known entry column ≡ None;
}
