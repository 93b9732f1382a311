-- The code sorts the cells of a column, and the cuts (the values at which leaves begin) ascend.
use Rattle.std.proofs.Common.{◌≡◌, ◌≢◌, ℕ, zero, suc, ◌<◌, ◌≤◌, Bool, true, false, List, [], ◌∷◌, length, map, get_or, refl, ap, sym, ◌∙◌, arith}
use Rattle.std.specs.List.{AllByRecursion, range_with_len}
use Rattle.std.specs.Ordering.{is_eq, is_le, ordering_reverse}
use Rattle.std.specs.declared.cmp.Ordering.{Ordering}
use Rattle.std.specs.declared.cmp.Ordering.TheVariants.{Less, Equal, Greater}
use Rattle.std.specs.Str.{IsUtf8}
use Rattle.std.proofs.lemmas.Bool.{cond_both, false≢true}
use Rattle.std.proofs.lemmas.List.FromFn.{get_or-map-range_with_len}
use Rattle.csv_tables.specs.Values as values
use Rattle.csv_tables.specs.Values.{Value, value_cmp}
use Rattle.csv_tables.proofs.OrderFacts.{order_of_texts}
use Rattle.cond_stats.specs.Columns.{value_le}
use Rattle.cond_stats.specs.Leaves.{cuts, in_order, put_in_order}
use Rattle.cond_stats.proofs.LeavesFound.{cut_place, cut_place-mono, cut_place-within, cuts-from}
use Rattle.cond_stats.proofs.Ranges.{value_le-trans}
use Rattle.filtered_lists.proofs.Ordered.{value_cmp-reverse}
use Rattle.relabelling_laws.proofs.Ordered.{length-in_order}
use Rattle.stats_file.specs.Rules.{datum_cmp}
use Rattle.table_stats.proofs.EqualValues.{equal_itself}
use Rattle.stats_file_of_query.specs.Data.{datum_of}

-- ---- the order of values is total

le_either : (o : Ordering) → is_le o ≡ false → is_le (ordering_reverse o) ≡ true
le_either Less h = absurd (false≢true (sym h))
le_either Equal h = refl
le_either Greater h = refl

pub other_way : (a b : Value) → value_le a b ≡ false → value_le b a ≡ true
other_way a b h = ap is_le (value_cmp-reverse b a) ∙ le_either (value_cmp a b) h

eq_le : (o : Ordering) → is_eq o ≡ true → is_le o ≡ true
eq_le Less h = absurd (false≢true h)
eq_le Equal h = refl
eq_le Greater h = absurd (false≢true h)

pub le_itself : (a : Value) → value_le a a ≡ true
le_itself a = eq_le (value_cmp a a) (equal_itself a)

-- ---- the elements of a sorted list

module _ (value : ℕ → Value) where
  abbrev at_most : ℕ → ℕ → Bool
  at_most a b = value_le (value a) (value b)

  abbrev pub Ascends : List ℕ → Type 0
  Ascends [] = Unit {0}
  Ascends (x ∷ xs) = AllByRecursion (λ y. at_most x y ≡ true) xs × Ascends xs

  all_above : (x y : ℕ) (xs : List ℕ) → at_most x y ≡ true → AllByRecursion (λ z. at_most y z ≡ true) xs → AllByRecursion (λ z. at_most x z ≡ true) xs
  all_above x y [] h all = tt
  all_above x y (z ∷ xs) h all = (value_le-trans (value x) (value y) (value z) h all.0, all_above x y xs h all.1)

  all_put : (x v : ℕ) (xs : List ℕ) → at_most x v ≡ true → AllByRecursion (λ z. at_most x z ≡ true) xs → AllByRecursion (λ z. at_most x z ≡ true) (put_in_order at_most v xs)
  all_put x v [] h all = (h, tt)
  all_put x v (w ∷ xs) h all = cond_both (at_most v w) (v ∷ (w ∷ xs)) (w ∷ put_in_order at_most v xs) (AllByRecursion (λ z. at_most x z ≡ true))
      (λ e. (h, all)) (λ e. (all.0, all_put x v xs h all.1))

  ascends_put : (v : ℕ) (xs : List ℕ) → Ascends xs → Ascends (put_in_order at_most v xs)
  ascends_put v [] sorted = (tt, tt)
  ascends_put v (w ∷ xs) sorted = cond_both (at_most v w) (v ∷ (w ∷ xs)) (w ∷ put_in_order at_most v xs) Ascends
      (λ e. ((e, all_above v w xs e sorted.0), sorted))
      (λ e. (all_put w v xs (other_way (value v) (value w) e) sorted.0, ascends_put v xs sorted.1))

  pub ascends : (xs : List ℕ) → Ascends (in_order at_most xs)
  ascends [] = tt
  ascends (v ∷ xs) = ascends_put v (in_order at_most xs) (ascends xs)

  each_at : (x : ℕ) (xs : List ℕ) → AllByRecursion (λ z. at_most x z ≡ true) xs → (j : ℕ) → j < length xs → at_most x (get_or xs j 0) ≡ true
  each_at x [] all j low = absurd (omega (arith, low))
  each_at x (y ∷ xs) all zero low = all.0
  each_at x (y ∷ xs) all (suc j) low = each_at x xs all.1 j (omega (arith, low))

  pub at_positions : (xs : List ℕ) → Ascends xs → (i j : ℕ) → i ≤ j → j < length xs → at_most (get_or xs i 0) (get_or xs j 0) ≡ true
  at_positions [] sorted i j before low = absurd (omega (arith, low))
  at_positions (x ∷ xs) sorted zero zero before low = le_itself (value x)
  at_positions (x ∷ xs) sorted zero (suc j) before low = each_at x xs sorted.0 j (omega (arith, low))
  at_positions (x ∷ xs) sorted (suc i) zero before low = absurd (omega (arith, before))
  at_positions (x ∷ xs) sorted (suc i) (suc j) before low = at_positions xs sorted.1 i j (omega (arith, before)) (omega (arith, low))

  -- ---- cuts ascend

  pub cuts_ascend : (column : List ℕ) → 0 < length column → (i j : ℕ) → i < j → j < 32 → at_most (get_or (cuts at_most column) i 0) (get_or (cuts at_most column) j 0) ≡ true
  cuts_ascend column some i j before low =
      let ordered : List ℕ = in_order at_most column in
      let n : ℕ = length column in
      let made : ℕ → ℕ = λ i. get_or ordered (cut_place n i) 0 in
      let are : cuts at_most column ≡ map made (range_with_len 0 32) = cuts-from at_most column ordered some refl in
      let at : (i : ℕ) → i < 32 → get_or (cuts at_most column) i 0 ≡ made i =
      λ i low. ap (λ (s : List ℕ). get_or s i 0) are ∙ get_or-map-range_with_len made 0 32 i i 0 low (omega arith) in
      ap (λ (c : ℕ). at_most c (get_or (cuts at_most column) j 0)) (at i (omega (arith, before, low)))
      ∙ ap (λ (c : ℕ). at_most (made i) c) (at j low)
      ∙ at_positions ordered (ascends column) (cut_place n i) (cut_place n j) (cut_place-mono n i j (omega (arith, before)))
      (omega (arith, length-in_order at_most column, cut_place-within n j some low))

-- ---- the order of values in a file is the order of the column's values

le_not_greater : (o : Ordering) → is_le o ≡ true → o ≢ Greater
le_not_greater Less h e = cc
le_not_greater Equal h e = cc
le_not_greater Greater h e = absurd (false≢true h)

abbrev pub IsText : Value → Type 0
IsText (values.Int number) = Unit {0}
IsText (values.Text text) = IsUtf8 text

pub not_above : (a b : Value) → IsText a → IsText b → value_le a b ≡ true → datum_cmp (datum_of a) (datum_of b) ≢ Greater
not_above (values.Int a) (values.Int b) ta tb h = le_not_greater (value_cmp (values.Int a) (values.Int b)) h
not_above (values.Int a) (values.Text b) ta tb h = λ e. cc
not_above (values.Text a) (values.Int b) ta tb h = absurd (false≢true h)
not_above (values.Text a) (values.Text b) ta tb h =
    let same = order_of_texts a b ta tb in
    λ e. le_not_greater (value_cmp (values.Text a) (values.Text b)) h (sym same ∙ e)
