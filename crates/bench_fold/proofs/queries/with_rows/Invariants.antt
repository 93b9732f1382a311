use Rattle.std.proofs.Common.{◌≡◌, ℕ, None}
use Rattle.bound_fold.specs.Lists.{list_of}
use Rattle.bench_fold.proofs.queries.with_rows.Given as goal

abbrev pub invariant-loop-count : goal.invariant-loop-count
invariant-loop-count l = (entry column : ℕ) → list_of l.lists entry column ≡ None
