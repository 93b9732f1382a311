-- The statistics keep one list for each frequent value, and these values are different. For any value the statistics give the list that cond_stats
-- makes of the rows.
use Rattle.std.proofs.Common.{◌≡◌, ℕ, ◌≤◌, Bool, true, false, eqb, List, [], ◌∷◌, map, length, take, Option, None, Some, refl, ap, sym, ◌∙◌, inl, inr}
use Rattle.std.specs.Prelude.{find}
use Rattle.std.specs.List.{AllByRecursion, IsDistinct, list_any, zip}
use Rattle.std.specs.Option.{option_map_or}
use Rattle.std.proofs.lemmas.Bool.{cases_Bool, cond_both, eq-eqb, eqb-true, eqb-false, ne_eqb, false≢true}
use Rattle.std.proofs.lemmas.List.{take_all}
use Rattle.std.proofs.lemmas.Map.Keys.{IsDistinct-cons, IsDistinct-head, IsDistinct-tail}
use Rattle.std.proofs.lemmas.Slice.Zip.{firsts-zip}
use Rattle.std.proofs.Math.Bool.{or-true}
use Rattle.degree_sequences.proofs.Counting.{IsDistinct-different}
use Rattle.degree_sequences.proofs.ProductDominates.{IsDistinct-first}
use Rattle.degree_sequences.specs.Degrees.{different}
use Rattle.schema_types.specs.declared.types.Kind.{Kind}
use Rattle.cond_stats.specs.Frequency.{by_frequency, comes_before, frequent}
use Rattle.cond_stats.specs.Leaves.{put_in_order, in_order}
use Rattle.cond_stats.specs.Lists.{compressed_degrees, is_frequent, keys_with, list_of_value, rest}
use Rattle.cond_stats.specs.Rows.{filter_values}
use Rattle.cond_stats.proofs.ValueLists.{list_of_frequent_value, list_without_cell, list_of_other_value}
use Rattle.cond_stats.proofs.Sorting.{all-put, all-in_order}
use Rattle.column_stats.specs.declared.stats.FrequentList.{FrequentList}
use Rattle.column_stats.specs.Stats.{frequent_list, frequent_lists, list_for_value, stats_of}

-- ---- the values are different

IsDistinct-put : (le : ℕ → ℕ → Bool) (a : ℕ) (bs : List ℕ) → AllByRecursion (λ y. eqb a y ≡ false) bs → IsDistinct eqb bs → IsDistinct eqb (put_in_order le a bs)
IsDistinct-put le a [] new apart = IsDistinct-cons eqb a [] tt apart
IsDistinct-put le a (b ∷ bs) new apart = cond_both (le a b) (a ∷ (b ∷ bs)) (b ∷ put_in_order le a bs) (IsDistinct eqb)
    (λ e. IsDistinct-cons eqb a (b ∷ bs) new apart)
    (λ e. IsDistinct-cons eqb b (put_in_order le a bs)
    (all-put (λ y. eqb b y ≡ false) le a bs (ne_eqb b a (λ same. eqb-false a b new.0 (sym same))) (IsDistinct-head eqb b bs apart))
    (IsDistinct-put le a bs new.1 (IsDistinct-tail eqb b bs apart)))

IsDistinct-in_order : (le : ℕ → ℕ → Bool) (A : List ℕ) → IsDistinct eqb A → IsDistinct eqb (in_order le A)
IsDistinct-in_order le [] apart = apart
IsDistinct-in_order le (a ∷ A) apart = IsDistinct-put le a (in_order le A)
    (all-in_order (λ y. eqb a y ≡ false) le A (IsDistinct-head eqb a A apart))
    (IsDistinct-in_order le A (IsDistinct-tail eqb a A apart))

pub IsDistinct-frequent : (column : List ℕ) → IsDistinct eqb (frequent column)
IsDistinct-frequent column = IsDistinct-first 32 (by_frequency column) (IsDistinct-in_order (comes_before column) (different column) (IsDistinct-different column))

pub values-of_lists : (k : ℕ) (rows : List (ℕ × ℕ)) (values : List ℕ) → map (λ (found : FrequentList). found.cell) (map (frequent_list k rows) values) ≡ values
values-of_lists k rows [] = refl
values-of_lists k rows (v ∷ vs) = ap (λ s. v ∷ s) (values-of_lists k rows vs)

-- ---- the list that is found for a value

module _ (k : ℕ) (rows : List (ℕ × ℕ)) (v : ℕ) (other : List ℕ) where
  abbrev answer_of : List ℕ → List ℕ
  answer_of values = option_map_or (λ (found : FrequentList). found.list) (find (λ (found : FrequentList). eqb found.cell v) (map (frequent_list k rows) values)) other

  found_list : (values : List ℕ) → list_any (λ w. eqb w v) values ≡ true → answer_of values ≡ compressed_degrees k (keys_with v rows)
  found_list [] h = absurd (false≢true h)
  found_list (w ∷ ws) h = elim (cases_Bool (eqb w v)) [
    | inl e ↦ rw e (ap (λ x. compressed_degrees k (keys_with x rows)) (eqb-true w v e))
    | inr e ↦ (let there : list_any (λ x. eqb x v) ws ≡ true = rw e at h in rw e (found_list ws there))
  ]

  rest_if_missing : (values : List ℕ) → list_any (λ w. eqb w v) values ≡ false → answer_of values ≡ other
  rest_if_missing [] h = refl
  rest_if_missing (w ∷ ws) h = elim (cases_Bool (eqb w v)) [
    | inl e ↦ absurd (false≢true (sym (rw e at h)))
    | inr e ↦ (let there : list_any (λ x. eqb x v) ws ≡ false = rw e at h in rw e (rest_if_missing ws there))
  ]

pub value_is : (texts : List (List ℕ)) (kind : Kind) (k : ℕ) (rows : List (ℕ × ℕ)) (cell : Option ℕ) → list_for_value (stats_of texts kind k rows) cell ≡ list_of_value k rows cell
value_is texts kind k rows None = sym (list_without_cell k rows)
value_is texts kind k rows (Some v) = elim (cases_Bool (is_frequent rows v)) [
  | inl e ↦ found_list k rows v (rest k rows) (frequent (filter_values rows)) e ∙ sym (list_of_frequent_value k rows v e)
  | inr e ↦ rest_if_missing k rows v (rest k rows) (frequent (filter_values rows)) e ∙ sym (list_of_other_value k rows v e)
]

-- ---- how the lists are gathered

abbrev pub on_demand : ℕ → List (ℕ × ℕ) → ℕ → FrequentList
on_demand k rows v = record { cell = v; list = list_of_value k rows (Some v) }

same_lists : (k : ℕ) (rows : List (ℕ × ℕ)) (values : List ℕ) → AllByRecursion (λ v. is_frequent rows v ≡ true) values
    → map (on_demand k rows) values ≡ map (frequent_list k rows) values
same_lists k rows [] h = refl
same_lists k rows (v ∷ vs) h = rw (list_of_frequent_value k rows v h.0, same_lists k rows vs h.1) refl

each_is_among : (values : List ℕ) → AllByRecursion (λ w. list_any (λ x. eqb x w) values ≡ true) values
each_is_among values = each values (λ w h. h)
  where
    each : (vs : List ℕ) → ((w : ℕ) → list_any (λ x. eqb x w) vs ≡ true → list_any (λ x. eqb x w) values ≡ true) → AllByRecursion (λ w. list_any (λ x. eqb x w) values ≡ true) vs
    each [] inside = tt
    each (w ∷ ws) inside = (inside w (rw (eq-eqb w w refl) refl), each ws (λ x h. inside x (rw h (or-true (eqb w x)))))

pub gathered_lists : (k : ℕ) (rows : List (ℕ × ℕ))
    → map (on_demand k rows) (frequent (filter_values rows)) ≡ frequent_lists k rows
gathered_lists k rows = same_lists k rows (frequent (filter_values rows)) (each_is_among (frequent (filter_values rows)))

pub all_lists : (k : ℕ) (column joined items : List ℕ) (i : ℕ) → length joined ≡ length column → length items ≤ i → items ≡ frequent column
    → map (on_demand k (zip column joined)) (take i items) ≡ frequent_lists k (zip column joined)
all_lists k column joined items i same past are =
    ap (map (on_demand k (zip column joined))) (take_all i items past ∙ are ∙ ap frequent (sym (firsts-zip column joined same))) ∙ gathered_lists k (zip column joined)
