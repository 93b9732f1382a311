-- Which calls of a store or a sink in memory fail.
use Rattle.std.specs.Prelude.{ℕ, Bool, true, false, List, Result, Ok, Err, nat_eq}
use Rattle.std.specs.List.{list_any}
use Rattle.base_io.specs.declared.errors.StoreError.{StoreError}
use Rattle.base_io.specs.declared.errors.StoreError.TheVariants as store

-- whether the list `fail_at` has this call. Calls are numbered from 1
abbrev pub is_failing_call : ℕ → List ℕ → Bool
is_failing_call call fail_at = list_any (λ listed. nat_eq listed call) fail_at

-- whether the call failed. A call for an absent file doesn't count as failed
abbrev pub has_failed : Result ℕ StoreError → Bool
has_failed (Ok count) = false
has_failed (Err store.Missing) = false
has_failed (Err store.Failed) = true
