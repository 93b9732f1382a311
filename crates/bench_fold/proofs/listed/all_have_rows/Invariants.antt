use Rattle.std.proofs.Common.{◌≡◌, ℕ, ◌<◌, true}
use Rattle.std.specs.Prelude.{IsSome}
use Rattle.entry_sets.specs.Sets.{has_entry}
use Rattle.bound_fold.specs.Lists.{row_bound_of}
use Rattle.bench_fold.proofs.listed.all_have_rows.Given as goal

abbrev pub invariant-loop-entry : goal.invariant-loop-entry
invariant-loop-entry l = (k : ℕ) → k < l.entry → has_entry l.subset k ≡ true → IsSome (row_bound_of l.lists k)
