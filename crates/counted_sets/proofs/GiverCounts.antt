-- `giver_count` is the number of uses of kept items that give a slot. These lemmas say how it changes when an item is removed.
use Rattle.std.proofs.Common.{◌≡◌, ℕ, zero, suc, ◌+◌, ◌<◌, ◌≤◌, Bool, true, false, List, length, get_or, set, refl, ap, sym, ◌∙◌, subst, arith, inl, inr}
use Rattle.std.specs.Prelude.{◌==◌, ◌&&◌, if◌then◌else◌}
use Rattle.std.specs.List.{Contains}
use Rattle.std.proofs.lemmas.Bool.{cases_eq, cases_Bool, eq-eqb, ne_eqb}
use Rattle.std.proofs.lemmas.List.{get_or_default, get_or-set_same, get_or-set_other}
use Rattle.std.proofs.Math.Bool.{and-false}
use Rattle.counted_sets.specs.declared.uses.Use.{Use}
use Rattle.counted_sets.specs.UseChains.{last_before}
use Rattle.counted_sets.specs.Sets.{IsGiven, marked}
use Rattle.counted_sets.specs.Counts.{item_at, giver_count, use_at}
use Rattle.counted_sets.proofs.Chaining.{last_at_most, none_after}

pub giver_count-one : (is_kept : ℕ → Bool) (uses : List Use) (slot n : ℕ) → is_kept (item_at uses n) ≡ true → (use_at uses n).gives ≡ slot → giver_count is_kept uses slot (suc n) ≡ 1 + giver_count is_kept uses slot n
giver_count-one is_kept uses slot n stands gives = rw (stands, eq-eqb (use_at uses n).gives slot gives) refl

pub giver_count-gone : (is_kept : ℕ → Bool) (uses : List Use) (slot n : ℕ) → is_kept (item_at uses n) ≡ false → giver_count is_kept uses slot (suc n) ≡ giver_count is_kept uses slot n
giver_count-gone is_kept uses slot n gone = rw gone (omega arith)

pub giver_count-other : (is_kept : ℕ → Bool) (uses : List Use) (slot n : ℕ) → ((use_at uses n).gives ≡ slot → ⊥) → giver_count is_kept uses slot (suc n) ≡ giver_count is_kept uses slot n
giver_count-other is_kept uses slot n apart = rw (ne_eqb (use_at uses n).gives slot apart, and-false (is_kept (item_at uses n))) (omega arith)

pub giver_count-within : (is_kept : ℕ → Bool) (uses : List Use) (slot n : ℕ) → giver_count is_kept uses slot n ≤ n
giver_count-within is_kept uses slot zero = omega arith
giver_count-within is_kept uses slot (suc n) = elim (cases_Bool (is_kept (item_at uses n))) [
  | inr gone ↦ omega (arith, giver_count-gone is_kept uses slot n gone, giver_count-within is_kept uses slot n)
  | inl stands ↦ elim (cases_eq (use_at uses n).gives slot) [
    | inl gives ↦ omega (arith, giver_count-one is_kept uses slot n stands gives, giver_count-within is_kept uses slot n)
    | inr apart ↦ omega (arith, giver_count-other is_kept uses slot n apart, giver_count-within is_kept uses slot n)
  ]
]

abbrev pub Supplies : (ℕ → Bool) → List Use → ℕ → ℕ → Type 0
Supplies is_kept uses slot n = (k : ℕ) × (k < n) × (is_kept (item_at uses k) ≡ true) × ((use_at uses k).gives ≡ slot)

supplies_later : (is_kept : ℕ → Bool) (uses : List Use) (slot n : ℕ) → Supplies is_kept uses slot n → Supplies is_kept uses slot (suc n)
supplies_later is_kept uses slot n found = (found.0, omega (arith, found.1), found.2, found.3)

pub supply_place : (is_kept : ℕ → Bool) (uses : List Use) (slot n : ℕ) → 0 < giver_count is_kept uses slot n → Supplies is_kept uses slot n
supply_place is_kept uses slot zero is_positive = absurd (omega arith)
supply_place is_kept uses slot (suc n) is_positive = elim (cases_Bool (is_kept (item_at uses n))) [
  | inr gone ↦ supplies_later is_kept uses slot n (supply_place is_kept uses slot n (omega (arith, giver_count-gone is_kept uses slot n gone)))
  | inl stands ↦ elim (cases_eq (use_at uses n).gives slot) [
    | inl gives ↦ (n, omega arith, stands, gives)
    | inr apart ↦ supplies_later is_kept uses slot n (supply_place is_kept uses slot n (omega (arith, giver_count-other is_kept uses slot n apart)))
  ]
]

giver_count-grows : (is_kept : ℕ → Bool) (uses : List Use) (slot n : ℕ) → giver_count is_kept uses slot n ≤ giver_count is_kept uses slot (suc n)
giver_count-grows is_kept uses slot n = elim (cases_Bool (is_kept (item_at uses n))) [
  | inr gone ↦ omega (arith, giver_count-gone is_kept uses slot n gone)
  | inl stands ↦ elim (cases_eq (use_at uses n).gives slot) [
    | inl gives ↦ omega (arith, giver_count-one is_kept uses slot n stands gives)
    | inr apart ↦ omega (arith, giver_count-other is_kept uses slot n apart)
  ]
]

pub place_supply : (is_kept : ℕ → Bool) (uses : List Use) (slot n k : ℕ) → k < n → is_kept (item_at uses k) ≡ true → (use_at uses k).gives ≡ slot → 0 < giver_count is_kept uses slot n
place_supply is_kept uses slot zero k h stands gives = absurd (omega arith)
place_supply is_kept uses slot (suc n) k h stands gives = elim (cases_eq k n) [
  | inl same ↦ omega (arith, giver_count-one is_kept uses slot n (subst (λ j. is_kept (item_at uses j) ≡ true) same stands) (subst (λ j. (use_at uses j).gives ≡ slot) same gives))
  | inr before ↦ omega (arith, place_supply is_kept uses slot n k (omega arith) stands gives, giver_count-grows is_kept uses slot n)
]

use_is : (uses : List Use) (has : Use) (k : ℕ) → k < length uses → get_or uses k has ≡ has → use_at uses k ≡ has
use_is uses has k h is = get_or_default uses k (record { item = 0; gives = 0; needs = 0 }) has h ∙ is

pub place_of : (uses : List Use) (has : Use) → Contains uses has → (k : ℕ) × (k < length uses) × (use_at uses k ≡ has)
place_of uses has in_uses = (in_uses.0, in_uses.1, use_is uses has in_uses.0 in_uses.1 in_uses.2)

pub stands_there : (uses : List Use) (k : ℕ) → k < length uses → Contains uses (use_at uses k)
stands_there uses k h = (k, h, get_or_default uses k (use_at uses k) (record { item = 0; gives = 0; needs = 0 }) h)

pub giver_count-given : (is_kept : ℕ → Bool) (uses : List Use) (slot : ℕ) → 0 < giver_count is_kept uses slot (length uses) → IsGiven uses is_kept slot
giver_count-given is_kept uses slot is_positive =
    let found : Supplies is_kept uses slot (length uses) = supply_place is_kept uses slot (length uses) is_positive in
    (use_at uses found.0, stands_there uses found.0 found.1, found.2, found.3)

pub given-giver_count : (is_kept : ℕ → Bool) (uses : List Use) (slot : ℕ) → IsGiven uses is_kept slot → 0 < giver_count is_kept uses slot (length uses)
given-giver_count is_kept uses slot given =
    let place : (k : ℕ) × (k < length uses) × (use_at uses k ≡ given.0) = place_of uses given.0 given.1 in
    place_supply is_kept uses slot (length uses) place.0 place.1 (ap (λ (u : Use). is_kept u.item) place.2 ∙ given.2) (ap (λ (u : Use). u.gives) place.2 ∙ given.3)

pub giver_count-gap : (uses : List Use) (slot item n r : ℕ) → r ≤ n → ((p : ℕ) → r ≤ p → p < n → item_at uses p ≡ item → ⊥) → giver_count (λ i. i == item) uses slot n ≡ giver_count (λ i. i == item) uses slot r
giver_count-gap uses slot item zero r within none = let same : 0 ≡ r = omega arith in ap (giver_count (λ i. i == item) uses slot) same
giver_count-gap uses slot item (suc n) r within none = elim (cases_eq r (suc n)) [
  | inl same ↦ ap (giver_count (λ i. i == item) uses slot) (sym same)
  | inr before ↦ giver_count-gone (λ i. i == item) uses slot n (ne_eqb (item_at uses n) item (none n (omega arith) (omega arith)))
      ∙ giver_count-gap uses slot item n r (omega arith) (λ p from below. none p from (omega arith))
]

pub giver_count-last : (uses : List Use) (slot item n : ℕ) → giver_count (λ i. i == item) uses slot n ≡ giver_count (λ i. i == item) uses slot (last_before (item_at uses) item n)
giver_count-last uses slot item n = giver_count-gap uses slot item n (last_before (item_at uses) item n) (last_at_most (item_at uses) item n) (λ p from below is. none_after (item_at uses) item n p from below is)

set_other : (marks : List Bool) (item i : ℕ) → (i ≡ item → ⊥) → marked (set marks item false) i ≡ marked marks i
set_other marks item i apart = get_or-set_other marks item i false false apart

-- the number that one use adds to the slot's count
abbrev count_of_use : Bool → List Use → ℕ → ℕ → ℕ
count_of_use kept uses slot n = if kept && ((use_at uses n).gives == slot) then 1 else 0

pub giver_count-set : (uses : List Use) (marks : List Bool) (slot item n : ℕ) → item < length marks → marked marks item ≡ true
    → giver_count (marked marks) uses slot n ≡ giver_count (marked (set marks item false)) uses slot n + giver_count (λ i. i == item) uses slot n
giver_count-set uses marks slot item zero within stands = refl
giver_count-set uses marks slot item (suc n) within stands =
    let so_far : giver_count (marked marks) uses slot n ≡ giver_count (marked (set marks item false)) uses slot n + giver_count (λ i. i == item) uses slot n = giver_count-set uses marks slot item n within stands in
    elim (cases_eq (item_at uses n) item) [
      | inl same ↦ elim (cases_eq (use_at uses n).gives slot) [
        | inl gives ↦ omega (
          arith,
          so_far,
          giver_count-one (marked marks) uses slot n (ap (marked marks) same ∙ stands) gives,
          giver_count-gone (marked (set marks item false)) uses slot n (ap (marked (set marks item false)) same ∙ get_or-set_same marks item false false within),
          giver_count-one (λ i. i == item) uses slot n (eq-eqb (item_at uses n) item same) gives,
        )
        | inr apart ↦ omega (arith, so_far, giver_count-other (marked marks) uses slot n apart, giver_count-other (marked (set marks item false)) uses slot n apart, giver_count-other (λ i. i == item) uses slot n apart)
      ]
      | inr other ↦ (let alike : count_of_use (marked marks (item_at uses n)) uses slot n ≡ count_of_use (marked (set marks item false) (item_at uses n)) uses slot n =
          ap (λ b. count_of_use b uses slot n) (sym (set_other marks item (item_at uses n) other)) in
          omega (arith, so_far, alike, giver_count-gone (λ i. i == item) uses slot n (ne_eqb (item_at uses n) item other)))
    ]
