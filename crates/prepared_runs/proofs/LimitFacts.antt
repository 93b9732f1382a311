-- A limit of memory lets a plan through if the plan's bytes are within the limit, and refuses it otherwise.
use Rattle.std.proofs.Common.{◌≡◌, ◌≤◌, ℕ, Bool, true, false, Option, None, Some, Result, Ok, Err, refl, ap, ◌∙◌, arith}
use Rattle.std.specs.Prelude.{nat_le, if◌then◌else◌, IfOk}
use Rattle.std.proofs.lemmas.Bool.Decides.{nat_tests}
use Rattle.outcomes.specs.Reads.{MissesNothing, StopsBy}
use Rattle.outcomes.specs.declared.failure.Failure.TheVariants as failure
use Rattle.outcomes.specs.declared.refusal.Refusal.{Refusal}
use Rattle.outcomes.specs.declared.refusal.Refusal.TheVariants as refusal
use Rattle.prepared_runs.specs.Limits.{IsWithinLimit, limit_test, within_limit}

-- ---- a value that is let through or refused by a test

tested : {A : Type 0} → Bool → ℕ → A → Result A Refusal
tested test bytes x = if test then Ok x else Err (refusal.MemoryLimit bytes)

test_ok : {A : Type 0} (test : Bool) (bytes : ℕ) (x y : A) → tested test bytes x ≡ Ok y → (test ≡ true) × (x ≡ y)
unfolding tested
test_ok true bytes x y e = (refl, cc)
test_ok false bytes x y e = absurd (cc)

test_so : {A : Type 0} (P : A → Type 0) (test : Bool) (bytes : ℕ) (x : A) → (test ≡ true → P x) → IfOk (tested test bytes x) P
unfolding tested
test_so P true bytes x h = h refl
test_so P false bytes x h = tt

test_kept : {A : Type 0} (test : Bool) (bytes : ℕ) (x : A) → tested {A = Unit {0}} test bytes tt ≡ Ok tt → tested test bytes x ≡ Ok x
unfolding tested
test_kept true bytes x e = refl
test_kept false bytes x e = absurd (cc)

test_stops : {A : Type 0} (test : Bool) (bytes : ℕ) (x : A) (r : Refusal) → tested {A = Unit {0}} test bytes tt ≡ Err r → StopsBy (tested test bytes x) (failure.Refused r)
unfolding tested
test_stops true bytes x r e = absurd (cc)
test_stops false bytes x r e =
    let same : refusal.MemoryLimit bytes ≡ r = cc in (
      ap (λ (q : Refusal). Err q) same,
      (λ file h. let no : refusal.MemoryLimit bytes ≡ refusal.Missing file = same ∙ h in cc),
      (λ h. let no : refusal.MemoryLimit bytes ≡ refusal.Usage = same ∙ h in cc),
    )

test_misses : {A : Type 0} (test : Bool) (bytes : ℕ) (x : A) → MissesNothing (tested test bytes x)
unfolding tested
test_misses true bytes x file e = cc
test_misses false bytes x file e = cc

most_if : (most n : ℕ) → nat_le n most ≡ true → n ≤ most
most_if most n is = grind (arith, nat_tests)

-- ---- a value that is let through or refused by a limit, if there is one

module _ {A : Type 0} where
  pub within_ok : (limit : Option ℕ) (bytes : ℕ) (x y : A) → within_limit limit bytes x ≡ Ok y → (x ≡ y) × IsWithinLimit limit bytes
  unfolding tested
  within_ok None bytes x y e = (cc, tt)
  within_ok (Some limit) bytes x y e = let its = test_ok (nat_le bytes limit) bytes x y e in (its.1, most_if limit bytes its.0)

  pub within_so : (P : A → Type 0) (limit : Option ℕ) (bytes : ℕ) (x : A) → (IsWithinLimit limit bytes → P x) → IfOk (within_limit limit bytes x) P
  unfolding tested
  within_so P None bytes x h = h tt
  within_so P (Some limit) bytes x h = test_so P (nat_le bytes limit) bytes x (λ is. h (most_if limit bytes is))

  pub kept : (limit : Option ℕ) (bytes : ℕ) (x : A) → limit_test limit bytes ≡ Ok tt → within_limit limit bytes x ≡ Ok x
  unfolding tested
  kept None bytes x e = refl
  kept (Some limit) bytes x e = test_kept (nat_le bytes limit) bytes x e

  pub stops : (limit : Option ℕ) (bytes : ℕ) (x : A) (r : Refusal) → limit_test limit bytes ≡ Err r → StopsBy (within_limit limit bytes x) (failure.Refused r)
  unfolding tested
  stops None bytes x r e = absurd (cc)
  stops (Some limit) bytes x r e = test_stops (nat_le bytes limit) bytes x r e

  pub within_misses : (limit : Option ℕ) (bytes : ℕ) (x : A) → MissesNothing (within_limit limit bytes x)
  unfolding tested
  within_misses None bytes x file e = cc
  within_misses (Some limit) bytes x file e = test_misses (nat_le bytes limit) bytes x file e
