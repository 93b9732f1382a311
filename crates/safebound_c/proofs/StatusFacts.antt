-- If the status is 0, the call did what it was asked for.
use Rattle.std.proofs.Common.{◌≡◌, ℕ, sym, ◌∙◌, subst, arith}
use Rattle.std.specs.Prelude.{IfOk, Result, Ok, Err, OnErr, OnOk}
use Rattle.safebound_lists.specs.declared.refusal.Refusal.{Refusal}
use Rattle.safebound_lists.specs.declared.refusal.Refusal.TheVariants as refusal
use Rattle.safebound_c.specs.Status.{detail_of, status_of, status_of_refusal}

refusal_status_is_not_0 : (why : Refusal) → status_of_refusal why ≡ 0 → ⊥
refusal_status_is_not_0 (refusal.Room needed) h = omega arith
refusal_status_is_not_0 refusal.NoMemory h = omega arith
refusal_status_is_not_0 (refusal.Budget least) h = omega arith
refusal_status_is_not_0 refusal.PastBits h = omega arith
refusal_status_is_not_0 (refusal.Work needed) h = omega arith
refusal_status_is_not_0 (refusal.Keys count) h = omega arith
refusal_status_is_not_0 (refusal.Accuracy given) h = omega arith
refusal_status_is_not_0 (refusal.Run place) h = omega arith
refusal_status_is_not_0 (refusal.OtherRun place) h = omega arith
refusal_status_is_not_0 (refusal.Sum sum) h = omega arith
refusal_status_is_not_0 (refusal.Entries count) h = omega arith
refusal_status_is_not_0 (refusal.Rows place) h = omega arith
refusal_status_is_not_0 (refusal.Equalities count) h = omega arith
refusal_status_is_not_0 (refusal.Equality place) h = omega arith
refusal_status_is_not_0 (refusal.List place) h = omega arith
refusal_status_is_not_0 (refusal.MissingList place) h = omega arith
refusal_status_is_not_0 (refusal.Bounds count) h = omega arith
refusal_status_is_not_0 (refusal.GivenBudget given) h = omega arith
refusal_status_is_not_0 (refusal.Levels count) h = omega arith
refusal_status_is_not_0 (refusal.Level place) h = omega arith
refusal_status_is_not_0 (refusal.Joins count) h = omega arith
refusal_status_is_not_0 (refusal.Join place) h = omega arith
refusal_status_is_not_0 (refusal.Set given) h = omega arith
refusal_status_is_not_0 (refusal.JoinKind given) h = omega arith

pub done_from_status : (P : Type 0) (answer : Result ℕ Refusal) (status : ℕ) → status ≡ status_of answer → status ≡ 0 → OnOk answer P → P
done_from_status P (Ok count) status is zero h = h
done_from_status P (Err why) status is zero h = absurd (refusal_status_is_not_0 why (sym is ∙ zero))

pub buffer_is_unchanged : (P : Type 0) (answer : Result ℕ Refusal) → P → OnErr answer P
buffer_is_unchanged P (Ok count) held = tt
buffer_is_unchanged P (Err why) held = held

pub done_for_number_in_detail : (P : ℕ → Type 0) (answer : Result ℕ Refusal) (status told old : ℕ) → status ≡ status_of answer → told ≡ detail_of answer old → status ≡ 0 → IfOk answer P → P told
done_for_number_in_detail P (Ok count) status told old is tells zero h = subst P (sym tells) h
done_for_number_in_detail P (Err why) status told old is tells zero h = absurd (refusal_status_is_not_0 why (sym is ∙ zero))
