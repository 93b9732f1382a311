-- The ways through all entries are the orders.
use Rattle.std.proofs.Common.{◌≡◌, ℕ, ◌-◌, ◌^◌, ◌<◌, false, eqb, List, [], ◌∷◌, length, ap, sym, ◌∙◌, arith, inl, inr}
use Rattle.std.specs.Int.{bit_at}
use Rattle.std.specs.List.{AllByRecursion, IsDistinct}
use Rattle.std.proofs.lemmas.Nat.Bits.{bit_at_ones}
use Rattle.std.proofs.lemmas.Bool.{cases_eq, eqb-false, ne_eqb}
use Rattle.std.proofs.lemmas.Map.Keys.{IsDistinct-head, IsDistinct-tail, IsDistinct-cons}
use Rattle.std.proofs.lemmas.Nat.{pow_pos}
use Rattle.order_search.specs.Orders.{}
use Rattle.plans.specs.LeftDeep.{IsOrder}
use Rattle.order_search.specs.Ways.{IsWay}
use Rattle.order_search.proofs.Bits.{set_is_empty, size_below, size-none, size-whole, size-without}
use Rattle.entry_sets.proofs.Bits.{bit_without_other, bit_without_same, entry_below}

all_weaker : (P Q : ℕ → Type 0) → ((x : ℕ) → P x → Q x) → (xs : List ℕ) → AllByRecursion P xs → AllByRecursion Q xs
all_weaker P Q so [] all = tt
all_weaker P Q so (x ∷ xs) all = (so x all.0, all_weaker P Q so xs all.1)

all_both : (P Q : ℕ → Type 0) → (xs : List ℕ) → AllByRecursion P xs → AllByRecursion Q xs → AllByRecursion (λ x. P x × Q x) xs
all_both P Q [] p q = tt
all_both P Q (x ∷ xs) p q = ((p.0, q.0), all_both P Q xs p.1 q.1)

pub way_within : (set : ℕ) (xs : List ℕ) → IsWay set xs → AllByRecursion (λ x. bit_at set x ≡ 1) xs
way_within set [] way = tt
way_within set (x ∷ xs) way = (
  way.0,
  all_weaker (λ y. bit_at (set - 2 ^ x) y ≡ 1) (λ y. bit_at set y ≡ 1) (λ y has. elim (cases_eq y x) [
    | inl same ↦ ap (bit_at set) same ∙ way.0
    | inr apart ↦ sym (bit_without_other x set y way.0 apart) ∙ has
  ]) xs (way_within (set - 2 ^ x) xs way.1),
)

none_distinct : IsDistinct eqb []
unfolding IsDistinct
none_distinct = tt

way_distinct : (set : ℕ) (xs : List ℕ) → IsWay set xs → IsDistinct eqb xs
way_distinct set [] way = none_distinct
way_distinct set (x ∷ xs) way = IsDistinct-cons eqb x xs
    (all_weaker (λ y. bit_at (set - 2 ^ x) y ≡ 1) (λ y. eqb x y ≡ false)
    (λ y has. ne_eqb x y (λ same. absurd (omega (arith, has, bit_without_same x set way.0, ap (bit_at (set - 2 ^ x)) same))))
    xs (way_within (set - 2 ^ x) xs way.1))
    (way_distinct (set - 2 ^ x) xs way.1)

length-way : (n set : ℕ) (xs : List ℕ) → set < 2 ^ n → IsWay set xs → length xs ≡ size_below n set
length-way n set [] fits way = sym (ap (size_below n) way ∙ size-none n)
length-way n set (x ∷ xs) fits way =
    omega (arith, size-without n x set (entry_below n set x fits way.0) way.0, length-way n (set - 2 ^ x) xs (omega arith) way.1)

way_from : (n set : ℕ) (xs : List ℕ) → set < 2 ^ n → IsDistinct eqb xs → AllByRecursion (λ x. bit_at set x ≡ 1) xs → length xs ≡ size_below n set → IsWay set xs
way_from n set [] fits apart within all = set_is_empty n set fits (sym all)
way_from n set (x ∷ xs) fits apart within all = (
  within.0,
  way_from n (set - 2 ^ x) xs (omega arith) (IsDistinct-tail eqb x xs apart)
      (all_weaker (λ y. (eqb x y ≡ false) × (bit_at set y ≡ 1)) (λ y. bit_at (set - 2 ^ x) y ≡ 1)
      (λ y so. bit_without_other x set y within.0 (λ same. eqb-false x y so.0 (sym same)) ∙ so.1) xs
      (all_both (λ y. eqb x y ≡ false) (λ y. bit_at set y ≡ 1) xs (IsDistinct-head eqb x xs apart) within.1))
      (omega (arith, size-without n x set (entry_below n set x fits within.0) within.0, all)),
)

pub order_from_way : (n : ℕ) (xs : List ℕ) → IsWay (2 ^ n - 1) xs → IsOrder n xs
order_from_way n xs way =
    let fits : 2 ^ n - 1 < 2 ^ n = omega (arith, pow_pos n) in
    record {
      entries = all_weaker (λ y. bit_at (2 ^ n - 1) y ≡ 1) (λ y. y < n) (λ y has. entry_below n (2 ^ n - 1) y fits has) xs (way_within (2 ^ n - 1) xs way);
      once = way_distinct (2 ^ n - 1) xs way;
      all = length-way n (2 ^ n - 1) xs fits way ∙ size-whole n;
    }

pub way_from_order : (n : ℕ) (xs : List ℕ) → IsOrder n xs → IsWay (2 ^ n - 1) xs
way_from_order n xs order =
    let fits : 2 ^ n - 1 < 2 ^ n = omega (arith, pow_pos n) in
    way_from n (2 ^ n - 1) xs fits order.once
    (all_weaker (λ y. y < n) (λ y. bit_at (2 ^ n - 1) y ≡ 1) (λ y below. bit_at_ones n y below) xs order.entries)
    (order.all ∙ sym (size-whole n))
