-- Which status a call returns for each answer, and which number it writes to `*detail`. An answer is a number or a refusal.
use Rattle.std.specs.Prelude.{◌≡◌, ℕ, List, Result, Ok, Err, IfErr, IfOk, OnErr}
use Rattle.safebound_lists.specs.declared.refusal.Refusal.{Refusal}
use Rattle.safebound_lists.specs.declared.refusal.Refusal.TheVariants as refusal

-- the call did what it was asked for
abbrev pub ok_status : ℕ
ok_status = 0

abbrev pub status_of_refusal : Refusal → ℕ
status_of_refusal (refusal.Room needed) = 1
status_of_refusal refusal.NoMemory = 2
status_of_refusal (refusal.Budget least) = 3
status_of_refusal refusal.PastBits = 4
status_of_refusal (refusal.Work needed) = 5
status_of_refusal (refusal.Keys count) = 16
status_of_refusal (refusal.Accuracy given) = 17
status_of_refusal (refusal.Run place) = 18
status_of_refusal (refusal.OtherRun place) = 19
status_of_refusal (refusal.Sum sum) = 20
status_of_refusal (refusal.Entries count) = 21
status_of_refusal (refusal.Rows place) = 22
status_of_refusal (refusal.Equalities count) = 23
status_of_refusal (refusal.Equality place) = 24
status_of_refusal (refusal.List place) = 25
status_of_refusal (refusal.MissingList place) = 26
status_of_refusal (refusal.Bounds count) = 27
status_of_refusal (refusal.GivenBudget given) = 28
status_of_refusal (refusal.Levels count) = 29
status_of_refusal (refusal.Level place) = 30
status_of_refusal (refusal.Joins count) = 31
status_of_refusal (refusal.Join place) = 32
status_of_refusal (refusal.Set given) = 33
status_of_refusal (refusal.JoinKind given) = 34

-- the number in `*detail` after a refusal. A refusal without a number leaves the old number there
abbrev pub detail_of_refusal : Refusal → ℕ → ℕ
detail_of_refusal (refusal.Room needed) old = needed
detail_of_refusal refusal.NoMemory old = old
detail_of_refusal (refusal.Budget least) old = least
detail_of_refusal refusal.PastBits old = old
detail_of_refusal (refusal.Work needed) old = needed
detail_of_refusal (refusal.Keys count) old = count
detail_of_refusal (refusal.Accuracy given) old = given
detail_of_refusal (refusal.Run place) old = place
detail_of_refusal (refusal.OtherRun place) old = place
detail_of_refusal (refusal.Sum sum) old = sum
detail_of_refusal (refusal.Entries count) old = count
detail_of_refusal (refusal.Rows place) old = place
detail_of_refusal (refusal.Equalities count) old = count
detail_of_refusal (refusal.Equality place) old = place
detail_of_refusal (refusal.List place) old = place
detail_of_refusal (refusal.MissingList place) old = place
detail_of_refusal (refusal.Bounds count) old = count
detail_of_refusal (refusal.GivenBudget given) old = given
detail_of_refusal (refusal.Levels count) old = count
detail_of_refusal (refusal.Level place) old = place
detail_of_refusal (refusal.Joins count) old = count
detail_of_refusal (refusal.Join place) old = place
detail_of_refusal (refusal.Set given) old = given
detail_of_refusal (refusal.JoinKind given) old = given

-- An answer is a number or a refusal. The number is how many elements were written, or the number that the call computes.
abbrev pub status_of : Result ℕ Refusal → ℕ
status_of (Ok count) = ok_status
status_of (Err why) = status_of_refusal why

abbrev pub detail_of : Result ℕ Refusal → ℕ → ℕ
detail_of (Ok count) old = count
detail_of (Err why) old = detail_of_refusal why old

-- The status and `after` tell the call's answer. `before` and `after` are the values of `*detail` before and after the call. If the answer is a
-- number, `Done` holds for this number. If it is a refusal, its cause holds, and the elements of the caller's buffer are unchanged (`old` and `new`).
pub record TellsAnswer {A : Type 0} (Done : ℕ → Type 0) (Cause : Refusal → Type 0) (old new : List A) (before status after : ℕ) : Type 0 where
  pub answer : Result ℕ Refusal
  pub told : status ≡ status_of answer
  pub detail : after ≡ detail_of answer before
  pub done : IfOk answer Done
  pub refused : IfErr answer Cause
  pub kept : OnErr answer (new ≡ old)
