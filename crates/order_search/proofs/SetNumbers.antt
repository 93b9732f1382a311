-- A set is given as a number. Bit i of the number is 1 exactly if entry i is in the set.
use Rattle.std.proofs.Common.{◌≡◌, ℕ, zero, suc, ◌+◌, ◌-◌, ◌^◌, ◌<◌, false, eqb, List, [], ◌∷◌, length, refl, ap, sym, ◌∙◌, subst, get_or, arith, inl, inr}
use Rattle.std.specs.Int.{bit_at}
use Rattle.std.specs.List.{AllByRecursion, Contains, IsDistinct}
use Rattle.std.proofs.lemmas.Bool.{cases_eq, eqb-false}
use Rattle.std.proofs.lemmas.Map.Keys.{IsDistinct-head, IsDistinct-tail}
use Rattle.std.proofs.lemmas.Nat.Bits.{bit_at-zero}
use Rattle.entry_sets.specs.Sets.{set_of}
use Rattle.order_search.specs.Ways.{IsWay}
use Rattle.entry_sets.proofs.Bits.{bit_without_other, bit_added}
use Rattle.order_search.proofs.WholeWays.{way_within}

no_bit_of_others : (set entry : ℕ) (xs : List ℕ) → IsWay set xs → AllByRecursion (λ x. eqb entry x ≡ false) xs → bit_at set entry ≡ 0
no_bit_of_others set entry [] way apart = ap (λ n. bit_at n entry) way ∙ bit_at-zero entry
no_bit_of_others set entry (x ∷ xs) way apart =
    sym (bit_without_other x set entry way.0 (eqb-false entry x apart.0)) ∙ no_bit_of_others (set - 2 ^ x) entry xs way.1 apart.1

way_of_set : (xs : List ℕ) → IsDistinct eqb xs → IsWay (set_of xs) xs
way_of_set [] apart = refl
way_of_set (x ∷ xs) apart =
    let behind : IsWay (set_of xs) xs = way_of_set xs (IsDistinct-tail eqb x xs apart) in
    let rest : set_of xs ≡ 2 ^ x + set_of xs - 2 ^ x = omega arith in
    (bit_added x (set_of xs) (no_bit_of_others (set_of xs) x xs behind (IsDistinct-head eqb x xs apart)), subst (λ k. IsWay k xs) rest behind)

on_way : (set entry : ℕ) (xs : List ℕ) → IsWay set xs → bit_at set entry ≡ 1 → Contains xs entry
on_way set entry [] way has = absurd (omega (arith, has, ap (λ n. bit_at n entry) way, bit_at-zero entry))
on_way set entry (x ∷ xs) way has = elim (cases_eq entry x) [
  | inl same ↦ (0, omega arith, sym same)
  | inr apart ↦ (let later : Contains xs entry = on_way (set - 2 ^ x) entry xs way.1 (bit_without_other x set entry way.0 apart ∙ has) in
      (suc later.0, omega (arith, later.1), later.2))
]

at_place : (P : ℕ → Type 0) (xs : List ℕ) (x k : ℕ) → AllByRecursion P xs → k < length xs → get_or xs k x ≡ x → P x
at_place P [] x k all h is = absurd (omega arith)
at_place P (y ∷ ys) x zero all h is = subst P is all.0
at_place P (y ∷ ys) x (suc k) all h is = at_place P ys x k all.1 (omega arith) is

pub has_bits : (xs : List ℕ) (entry : ℕ) → IsDistinct eqb xs → bit_at (set_of xs) entry ≡ 1 → Contains xs entry
has_bits xs entry apart has = on_way (set_of xs) entry xs (way_of_set xs apart) has

pub has_no_others : (xs : List ℕ) (entry : ℕ) → IsDistinct eqb xs → Contains xs entry → bit_at (set_of xs) entry ≡ 1
has_no_others xs entry apart is_in =
    at_place (λ x. bit_at (set_of xs) x ≡ 1) xs entry is_in.0 (way_within (set_of xs) xs (way_of_set xs apart)) is_in.1 is_in.2
