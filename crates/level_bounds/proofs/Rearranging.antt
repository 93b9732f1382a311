-- Lists of different elements that have the same members are rearrangements of one another.
use Rattle.std.proofs.Common.{◌≡◌, ◌≢◌, ℕ, ◌<◌, Bool, false, List, [], ◌∷◌, length, get_or, map, refl, sym, ◌∙◌, subst, arith, inl, inr}
use Rattle.std.specs.Prelude.{Decides, IsPermutation, AllPairs, bytes_eq, remove}
use Rattle.std.specs.List.{Contains, IsDistinct}
use Rattle.std.proofs.lemmas.Bool.{cases_Bool, false≢true}
use Rattle.std.proofs.lemmas.List.{get_or-map, length-map}
use Rattle.std.proofs.lemmas.List.Elements.{Contains-get_or}
use Rattle.std.proofs.lemmas.List.Sorted.{IsPermutation-refl, IsPermutation-sym, IsPermutation-cons, IsPermutation-trans, IsPermutation-remove, Contains-permutation}
use Rattle.std.proofs.lemmas.Map.Keys.{IsDistinct-head, IsDistinct-tail, IsDistinct-IsPermutation}
use Rattle.std.proofs.lemmas.Map.Made.{IsDistinct-from_AllPairs}
use Rattle.std.proofs.lemmas.Slice.Eq.{bytes_eq-Decides}
use Rattle.entry_sets.proofs.Listing.{in_front_or_rest, in_front, in_rest, not_in_empty}
use Rattle.level_bounds.proofs.Lists.{at_member}

module _ {X : Type 0} (eq : X → X → Bool) (decides_equality : (a b : X) → Decides (eq a b) (a ≡ b)) where
  eq_symmetric : (a b : X) → eq a b ≡ eq b a
  eq_symmetric a b = elim (cases_Bool (eq a b)) [
    | inl t ↦ t ∙ sym ((decides_equality b a).1 (sym ((decides_equality a b).0 t)))
    | inr n ↦ elim (cases_Bool (eq b a)) [
      | inl t ↦ absurd (false≢true (sym n ∙ (decides_equality a b).1 (sym ((decides_equality b a).0 t))))
      | inr m ↦ n ∙ sym m
    ]
  ]

  pub not_in_rest : (x : X) (xs : List X) → IsDistinct eq (x ∷ xs) → Contains xs x → ⊥
  not_in_rest x xs d k = false≢true (sym (at_member (λ y. eq x y ≡ false) xs (IsDistinct-head eq x xs d) x k) ∙ (decides_equality x x).1 refl)

  pub permutation_of_same_members : (xs ys : List X) → IsDistinct eq xs → IsDistinct eq ys → ((x : X) → Contains xs x → Contains ys x) → ((x : X) → Contains ys x → Contains xs x)
      → IsPermutation xs ys
  permutation_of_same_members [] [] d e into back = IsPermutation-refl []
  permutation_of_same_members [] (y ∷ ys) d e into back = absurd (not_in_empty y (back y (in_front y ys y refl)))
  permutation_of_same_members (x ∷ xs) ys d e into back =
      let there : Contains ys x = into x (in_front x xs x refl) in
      let others : List X = remove ys there.0 in
      let taken : IsPermutation ys (x ∷ others) = IsPermutation-remove ys there.0 x there.1 (sym there.2) in
      let apart : IsDistinct eq (x ∷ others) = IsDistinct-IsPermutation eq eq_symmetric ys (x ∷ others) taken e in
      IsPermutation-trans (x ∷ xs) (x ∷ others) ys
      (IsPermutation-cons x xs others (permutation_of_same_members xs others (IsDistinct-tail eq x xs d) (IsDistinct-tail eq x others apart)
      (λ y k. elim (in_front_or_rest x others y (Contains-permutation ys (x ∷ others) y taken (into y (in_rest x xs y k)))) [
        | inl rest ↦ rest
        | inr is ↦ absurd (not_in_rest x xs d (subst (Contains xs) is k))
      ])
      (λ y k. elim (in_front_or_rest x xs y (back y (Contains-permutation (x ∷ others) ys y (IsPermutation-sym ys (x ∷ others) taken) (in_rest x others y k)))) [
        | inl rest ↦ rest
        | inr is ↦ absurd (not_in_rest x others apart (subst (Contains others) is k))
      ])))
      (IsPermutation-sym ys (x ∷ others) taken)

-- ---- lists of choices

pub map_keeps_different : {Y : Type 0} (g : List ℕ → Y) (cs : List (List ℕ)) → ((c d : List ℕ) → Contains cs c → Contains cs d → g c ≡ g d → c ≡ d) → AllPairs ◌≢◌ cs → AllPairs ◌≢◌ (map g cs)
map_keeps_different g cs tells differ i j d less within same =
    let j_in : j < length cs = omega (arith, within, length-map cs g) in
    let i_in : i < length cs = omega arith in
    differ i j [] less j_in
    (tells (get_or cs i []) (get_or cs j []) (Contains-get_or cs i [] i_in) (Contains-get_or cs j [] j_in)
    (sym (get_or-map g cs i [] d i_in) ∙ same ∙ get_or-map g cs j [] d j_in))

pub choices_permuted : (cs ds : List (List ℕ)) → AllPairs ◌≢◌ cs → AllPairs ◌≢◌ ds → ((c : List ℕ) → Contains cs c → Contains ds c) → ((c : List ℕ) → Contains ds c → Contains cs c) → IsPermutation cs ds
choices_permuted cs ds d e =
    permutation_of_same_members bytes_eq bytes_eq-Decides cs ds (IsDistinct-from_AllPairs bytes_eq-Decides cs d) (IsDistinct-from_AllPairs bytes_eq-Decides ds e)
