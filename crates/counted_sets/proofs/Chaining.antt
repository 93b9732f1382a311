-- `last_before` gives the last use with a key among the first n uses. These lemmas say that this use has the key, and that no later use of the first
-- n has it.
use Rattle.std.proofs.Common.{◌≡◌, ℕ, zero, suc, ◌<◌, ◌≤◌, refl, ap, sym, ◌∙◌, arith, inl, inr}
use Rattle.std.proofs.lemmas.Bool.{cases_eq, eq-eqb, ne_eqb}
use Rattle.counted_sets.specs.UseChains.{last_before}

last_here : (key_of : ℕ → ℕ) (key n : ℕ) → key_of n ≡ key → last_before key_of key (suc n) ≡ suc n
last_here key_of key n is = rw (eq-eqb (key_of n) key is) refl

last_other : (key_of : ℕ → ℕ) (key n : ℕ) → (key_of n ≡ key → ⊥) → last_before key_of key (suc n) ≡ last_before key_of key n
last_other key_of key n apart = rw (ne_eqb (key_of n) key apart) refl

pub last_at_most : (key_of : ℕ → ℕ) (key n : ℕ) → last_before key_of key n ≤ n
last_at_most key_of key zero = omega arith
last_at_most key_of key (suc n) = elim (cases_eq (key_of n) key) [
  | inl is ↦ omega (arith, last_here key_of key n is)
  | inr apart ↦ omega (arith, last_other key_of key n apart, last_at_most key_of key n)
]

pub last_has_key : (key_of : ℕ → ℕ) (key n k : ℕ) → last_before key_of key n ≡ suc k → key_of k ≡ key
last_has_key key_of key zero k is = absurd (omega (arith, is))
last_has_key key_of key (suc n) k is = elim (cases_eq (key_of n) key) [
  | inl here ↦ (let same : n ≡ k = omega (arith, last_here key_of key n here, is) in ap key_of (sym same) ∙ here)
  | inr apart ↦ last_has_key key_of key n k (sym (last_other key_of key n apart) ∙ is)
]

pub none_after : (key_of : ℕ → ℕ) (key n p : ℕ) → last_before key_of key n ≤ p → p < n → key_of p ≡ key → ⊥
none_after key_of key zero p from below is = omega arith
none_after key_of key (suc n) p from below is = elim (cases_eq (key_of n) key) [
  | inl here ↦ omega (arith, last_here key_of key n here)
  | inr apart ↦ elim (cases_eq p n) [
    | inl same ↦ apart (ap key_of (sym same) ∙ is)
    | inr before ↦ none_after key_of key n p (omega (arith, last_other key_of key n apart)) (omega arith) is
  ]
]
