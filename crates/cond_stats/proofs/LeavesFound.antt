-- The cuts of a column are found from its sorted rows. If numbers compare as the values do, they tell where the leaves begin among these rows.
use Rattle.std.proofs.Common.{◌≡◌, ℕ, zero, suc, ◌+◌, ◌*◌, ◌/◌, ◌<◌, ◌≤◌, Bool, cond, not, eqb, ltb, leb, List, [], ◌∷◌, map, length, get_or, refl, ap, sym, ◌∙◌, subst, arith, inl, inr}
use Rattle.std.specs.List.{range_with_len}
use Rattle.std.proofs.Math.Nat.{mul-le-mul_left}
use Rattle.std.proofs.lemmas.Bool.{cases_lt, lt-ltb, le-ltb, le-leb, lt-leb, leb-true}
use Rattle.std.proofs.lemmas.List.{get_or-map, get_or_past, length-map}
use Rattle.std.proofs.lemmas.List.FromFn.{get_or-map-range_with_len, length-range_with_len}
use Rattle.std.proofs.lemmas.List.Sorted.{sum_by-IsPermutation}
use Rattle.degree_sequences.proofs.Indices.{sum_by-places}
use Rattle.cond_stats.specs.Leaves.{cuts, in_order, leaf_of}
use Rattle.cond_stats.specs.Order.{AreInValueOrder}
use Rattle.cond_stats.specs.Runs.{AreStarts, IsLeafStart}
use Rattle.cond_stats.proofs.InOrderFacts.{value_at, as_many_places, value_has_degree, number_at}
use Rattle.cond_stats.proofs.LastPlaces.{last_place-below}
use Rattle.cond_stats.proofs.Nodes.{div-mono}
use Rattle.cond_stats.proofs.Ranges.{leaf-below}
use Rattle.cond_stats.proofs.Sorting.{rises_from_places, each_has_degree, in_order_is}
use Rattle.cond_stats.proofs.WindowKeys.{degree-map}

-- the cut of leaf i is the value of the row at this index, among n sorted rows
abbrev pub cut_place : ℕ → ℕ → ℕ
cut_place n i = n * i / 32

pub cut_place-within : (n i : ℕ) → 0 < n → i < 32 → cut_place n i < n
cut_place-within n i some h = (let row : n * i ≤ n * 31 = mul-le-mul_left n (omega arith) in omega (arith, row))

pub cut_place-mono : (n i j : ℕ) → i ≤ j → cut_place n i ≤ cut_place n j
cut_place-mono n i j h = div-mono (n * i) (n * j) 32 (omega arith) (mul-le-mul_left n h)

pub cuts-from : (at_most : ℕ → ℕ → Bool) (column values : List ℕ) → 0 < length column → values ≡ in_order at_most column
    → cuts at_most column ≡ map (λ i. get_or values (cut_place (length column) i) 0) (range_with_len 0 32)
unfolding cuts
cuts-from at_most [] values some is = absurd (omega arith)
cuts-from at_most (v ∷ vs) values some is = ap (λ (s : List ℕ). map (λ i. get_or s (cut_place (length (v ∷ vs)) i) 0) (range_with_len 0 32)) (sym is)

pub no_cuts : (at_most : ℕ → ℕ → Bool) (column : List ℕ) → length column ≤ 0 → cuts at_most column ≡ []
unfolding cuts
no_cuts at_most [] none = refl
no_cuts at_most (v ∷ vs) none = absurd (omega arith)

not_leb : (a b : ℕ) → not (leb a b) ≡ ltb b a
not_leb a b = elim (cases_lt b a) [
  | inl h ↦ ap not (lt-leb a b h) ∙ sym (lt-ltb b a h)
  | inr h ↦ ap not (le-leb a b h) ∙ sym (le-ltb b a h)
]

module _ {at_most : ℕ → ℕ → Bool} {column numbers places : List ℕ} (order : AreInValueOrder at_most column numbers places) where
  pub values_in_order : map (λ p. get_or column p 0) places ≡ in_order at_most column
  values_in_order =
      let values : List ℕ = map (λ p. get_or column p 0) places in
      in_order_is order.number at_most column column values order.tells (each_has_degree column)
      (λ a. degree-map (λ p. get_or column p 0) a places
      ∙ sum_by-IsPermutation (λ p. cond (eqb (get_or column p 0) a) 1 0) (range_with_len 0 (length column)) places order.moved
      ∙ sym (sum_by-places (λ y. cond (eqb y a) 1 0) column))
      (rises_from_places order.number values
      (λ i j low within.
      (let room : j < length places = omega (arith, within, length-map places (λ p. get_or column p 0)) in
      let at : (k : ℕ) → k < length places → order.number (get_or values k 0) ≡ get_or numbers k 0 =
      λ k h. ap order.number (get_or-map (λ p. get_or column p 0) places k 0 0 h) ∙ sym (number_at order k h) in
      omega (arith, at i (omega arith), at j room, order.ascend i j 0 low (long j room)))))
    where
      long : (j : ℕ) → j < length places → j < length numbers
      long j h = subst (λ s. j < length s) (sym order.numbers_are) (omega (arith, h, length-map places (λ place. order.number (get_or column place 0))))

  pub cuts_in_order : 0 < length column → cuts at_most column ≡ map (λ i. value_at column places (cut_place (length column) i)) (range_with_len 0 32)
  cuts_in_order some =
      cuts-from at_most column (map (λ p. get_or column p 0) places) some values_in_order ∙ along 32 0 (omega arith)
    where
      along : (n a : ℕ) → a + n ≤ 32 → map (λ i. get_or (map (λ p. get_or column p 0) places) (cut_place (length column) i) 0) (range_with_len a n)
          ≡ map (λ i. value_at column places (cut_place (length column) i)) (range_with_len a n)
      along zero a h = refl
      along (suc n) a h =
          let here : get_or (map (λ p. get_or column p 0) places) (cut_place (length column) a) 0 ≡ value_at column places (cut_place (length column) a) =
          get_or-map (λ p. get_or column p 0) places (cut_place (length column) a) 0 0 (omega (arith, as_many_places order, cut_place-within (length column) a some (omega arith))) in
          rw (here, along n (a + 1) (omega arith)) refl

  pub cut_in_order : (i : ℕ) → i < 32 → 0 < length column → get_or (cuts at_most column) i 0 ≡ value_at column places (cut_place (length column) i)
  cut_in_order i h some = ap (λ s. get_or s i 0) (cuts_in_order some)
      ∙ get_or-map-range_with_len (λ i. value_at column places (cut_place (length column) i)) 0 32 i i 0 h (omega arith)

  pub length-cuts_in_order : 0 < length column → length (cuts at_most column) ≡ 32
  length-cuts_in_order some = ap length (cuts_in_order some) ∙ length-map (range_with_len 0 32) (λ i. value_at column places (cut_place (length column) i)) ∙ length-range_with_len 0 32

  pub leaf_by_number : (k leaf : ℕ) → k < length places → 0 < leaf → leaf < 32
      → ltb (leaf_of at_most column (value_at column places k)) leaf ≡ ltb (get_or numbers k 0) (get_or numbers (cut_place (length places) leaf) 0)
  leaf_by_number k leaf within some high =
      let n : ℕ = length column in
      let many : 0 < n = omega (arith, as_many_places order) in
      let v : ℕ = value_at column places k in
      let p : ℕ → Bool = λ cut. at_most cut v in
      let at : (i : ℕ) → i < 32 → p (get_or (cuts at_most column) i 0) ≡ leb (get_or numbers (cut_place n i) 0) (get_or numbers k 0) = λ i h.
      (let place : cut_place n i < length places = omega (arith, as_many_places order, cut_place-within n i many h) in
      ap p (cut_in_order i h many)
      ∙ order.tells.order (value_at column places (cut_place n i)) v (value_has_degree order (cut_place n i) place) (value_has_degree order k within)
      ∙ ap (λ m. leb m (order.number v)) (sym (number_at order (cut_place n i) place)) ∙ ap (leb (get_or numbers (cut_place n i) 0)) (sym (number_at order k within))) in
      last_place-below p (cuts at_most column) leaf some (omega (arith, high, length-cuts_in_order many))
      (λ i from to passes.
      (let i_low : i < 32 = omega (arith, to, length-cuts_in_order many) in
      let upper : get_or numbers (cut_place n i) 0 ≤ get_or numbers k 0 = leb-true (get_or numbers (cut_place n i) 0) (get_or numbers k 0) (sym (at i i_low) ∙ passes) in
      let rise : get_or numbers (cut_place n leaf) 0 ≤ get_or numbers (cut_place n i) 0 =
      order.ascend (cut_place n leaf) (cut_place n i) 0 (cut_place-mono n leaf i from) (long (cut_place n i) (omega (arith, as_many_places order, cut_place-within n i many i_low))) in
      at leaf high ∙ le-leb (get_or numbers (cut_place n leaf) 0) (get_or numbers k 0) (omega (arith, upper, rise))))
      ∙ ap not (at leaf high)
      ∙ not_leb (get_or numbers (cut_place n leaf) 0) (get_or numbers k 0)
      ∙ ap (λ m. ltb (get_or numbers k 0) (get_or numbers (cut_place m leaf) 0)) (sym (as_many_places order))
    where
      long : (j : ℕ) → j < length places → j < length numbers
      long j h = subst (λ s. j < length s) (sym order.numbers_are) (omega (arith, h, length-map places (λ place. order.number (get_or column place 0))))

  pub starts_found : (starts : List ℕ) → length numbers ≡ length places → length starts ≡ 33 → ((leaf : ℕ) → leaf < 33 → IsLeafStart numbers leaf (get_or starts leaf 0))
      → AreStarts at_most column places starts
  starts_found starts lengths long each = record {
    length_is = long;
    within = λ leaf. elim (cases_lt leaf 33) [
      | inl h ↦ omega (arith, (each leaf h).within, lengths)
      | inr h ↦ omega (arith, get_or_past starts leaf 0 (omega arith))
    ];
    tell = λ leaf k low within. tells leaf k low within;
  }
    where
      tells : (leaf k : ℕ) → leaf ≤ 32 → k < length places → ltb (leaf_of at_most column (value_at column places k)) leaf ≡ ltb k (get_or starts leaf 0)
      tells leaf k low within = elim (cases_lt 0 leaf) [
        | inl some ↦ elim (cases_lt leaf 32) [
          | inl high ↦ leaf_by_number k leaf within some high
              ∙ ap (λ m. ltb (get_or numbers k 0) (get_or numbers (cut_place m leaf) 0)) (sym lengths)
              ∙ (each leaf (omega arith)).between k some high (omega (arith, lengths))
          | inr high ↦ (let all : leaf ≡ 32 = omega arith in
              let end : get_or starts leaf 0 ≡ length numbers = (each leaf (omega arith)).last all in
              lt-ltb (leaf_of at_most column (value_at column places k)) leaf (omega (arith, all, leaf-below at_most column (λ cut. at_most cut (value_at column places k))))
              ∙ sym (lt-ltb k (get_or starts leaf 0) (omega (arith, end, lengths))))
        ]
        | inr none ↦ (let first : leaf ≡ 0 = omega arith in
            let start : get_or starts leaf 0 ≡ 0 = (each leaf (omega arith)).first first in
            le-ltb (leaf_of at_most column (value_at column places k)) leaf (omega arith)
            ∙ sym (le-ltb k (get_or starts leaf 0) (omega (arith, start))))
      ]
