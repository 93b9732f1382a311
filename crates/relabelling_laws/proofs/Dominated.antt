-- A list that dominates keys also dominates other keys, if these are equal for the same pairs of rows.
use Rattle.std.proofs.Common.{◌≡◌, ◌↔◌, ℕ, ◌≤◌, Bool, true, cond, eqb, List, [], ◌∷◌, map, length, refl, ap, sym, ◌∙◌, subst, arith, inl, inr}
use Rattle.std.specs.List.{AllByRecursion, Contains, IsDistinct, count_by, filter}
use Rattle.std.proofs.lemmas.Bool.{cases_Bool, eqb-true, eqb-false}
use Rattle.std.proofs.lemmas.List.{map-id}
use Rattle.std.proofs.lemmas.List.Sums.{length-filter}
use Rattle.std.proofs.lemmas.Map.Made.{Contains-tail}
use Rattle.degree_lists.proofs.OneMoreKey.{is_in-filtered}
use Rattle.degree_sequences.specs.Degrees.{degree_list, different}
use Rattle.degree_sequences.specs.Domination.{DominatesKeys}
use Rattle.degree_sequences.proofs.Counting.{is_in, IsDistinct-different, IsDistinct-filter, count_by-is_in, is_in-different}
use Rattle.degree_sequences.proofs.RunningSums.{running_sum-mono}
use Rattle.degree_lists.proofs.TallyFacts.{not_in_filter}
use Rattle.relabelling_laws.specs.Relabelling.{AreEqualAlike, IsOneToOne}
use Rattle.relabelling_laws.proofs.Columns.{degree_list_unchanged, from_filter, from_map, column_contains_each, equality_is_kept}
use Rattle.relabelling_laws.proofs.Mapped.{All-different, count-mapped, different-mapped, map-mapped}

keys_picked : (ℕ → ℕ) → List ℕ → List ℕ → List ℕ
keys_picked f keys picked = filter (λ key. is_in picked (f key)) (different keys)

source_found : (f : ℕ → ℕ) (keys picked : List ℕ) (key : ℕ) → is_in (different keys) key ≡ true
    → is_in picked (f key) ≡ is_in (keys_picked f keys picked) key
unfolding keys_picked
source_found f keys picked key stands = elim (cases_Bool (is_in picked (f key))) [
  | inl e ↦ e ∙ sym (is_in-filtered (λ key. is_in picked (f key)) (different keys) key e ∙ stands)
  | inr e ↦ e ∙ sym (not_in_filter (λ key. is_in picked (f key)) (different keys) key e)
]

sources_distinct : (f : ℕ → ℕ) (keys picked : List ℕ) → IsDistinct eqb (keys_picked f keys picked)
unfolding keys_picked
sources_distinct f keys picked = IsDistinct-filter (λ key. is_in picked (f key)) (different keys) (IsDistinct-different keys)

sources_at_most_picked : (f : ℕ → ℕ) (keys picked : List ℕ) → IsOneToOne f keys → length (keys_picked f keys picked) ≤ length picked
unfolding keys_picked
sources_at_most_picked f keys picked one =
    let every : AllByRecursion (Contains keys) keys = column_contains_each keys in
    let images : count_by (is_in picked) (different (map f keys)) ≡ count_by (λ key. is_in picked (f key)) (different keys) =
    ap (count_by (is_in picked)) (different-mapped (Contains keys) f (equality_is_kept f keys one) keys every)
    ∙ count-mapped (Contains keys) f (λ key. is_in picked (f key)) (is_in picked) (λ key has. refl) (different keys) (All-different (Contains keys) keys every) in
    omega (
      arith,
      images,
      length-filter (λ key. is_in picked (f key)) (different keys),
      count_by-is_in (different (map f keys)) (IsDistinct-different (map f keys)) picked,
    )

pub still_dominates : (s : List ℕ) (f : ℕ → ℕ) (keys : List ℕ) → IsOneToOne f keys → DominatesKeys s keys → DominatesKeys s (map f keys)
still_dominates s f keys one dominates picked apart =
    let found : List ℕ = keys_picked f keys picked in
    let as_many : count_by (is_in picked) (map f keys) ≡ count_by (is_in found) keys =
    count-mapped (λ key. is_in (different keys) key ≡ true) f (is_in found) (is_in picked) (source_found f keys picked) keys
    (is_in-different keys) in
    omega (
      arith,
      as_many,
      dominates found (sources_distinct f keys picked),
      running_sum-mono s (length found) (length picked) (sources_at_most_picked f keys picked one),
    )

first_other : (ℕ → ℕ) → (ℕ → ℕ) → List ℕ → ℕ → ℕ
first_other key other [] n = 0
first_other key other (row ∷ rows) n = cond (eqb (key row) n) (other row) (first_other key other rows n)

module _ (key other_key : ℕ → ℕ) (rows : List ℕ) (equal_alike : AreEqualAlike key other_key rows) where
  first_is : (part : List ℕ) → AllByRecursion (Contains rows) part → (i : ℕ) → Contains part i → Contains rows i
      → first_other key other_key part (key i) ≡ other_key i
  unfolding first_other
  first_is [] all i has there = absurd (omega (arith, has.1))
  first_is (row ∷ part) all i has there = elim (cases_Bool (eqb (key row) (key i))) [
    | inl e ↦ rw e ((equal_alike row i all.0 there).0 (eqb-true (key row) (key i) e))
    | inr e ↦ rw e (first_is part all.1 i (Contains-tail row part i (λ same. eqb-false (key row) (key i) e (ap key same)) has) there)
  ]

  new_key : ℕ → ℕ
  new_key n = first_other key other_key rows n

  new_key_is : (i : ℕ) → Contains rows i → new_key (key i) ≡ other_key i
  unfolding new_key
  new_key_is i has = first_is rows (column_contains_each rows) i has has

  all_relabelled : map new_key (map key rows) ≡ map other_key rows
  all_relabelled = map-mapped (Contains rows) key other_key new_key new_key_is rows (column_contains_each rows)

  relabelled_one_to_one : IsOneToOne new_key (map key rows)
  relabelled_one_to_one n m has_n has_m same =
      let at = from_map key rows n has_n in
      let to = from_map key rows m has_m in
      at.2 ∙ (equal_alike at.0 to.0 at.1 to.1).1 (sym (new_key_is at.0 at.1) ∙ ap new_key (sym at.2) ∙ same ∙ ap new_key to.2
      ∙ new_key_is to.0 to.1) ∙ sym to.2

  pub dominates_other : (s : List ℕ) → DominatesKeys s (map key rows) → DominatesKeys s (map other_key rows)
  dominates_other s dominates = subst (DominatesKeys s) all_relabelled (still_dominates s new_key (map key rows) relabelled_one_to_one dominates)

  pub same_degrees : degree_list (map key rows) ≡ degree_list (map other_key rows)
  same_degrees = sym (degree_list_unchanged new_key (map key rows) relabelled_one_to_one) ∙ ap degree_list all_relabelled

equal_alike_symmetric : (key other : ℕ → ℕ) (rows : List ℕ) → AreEqualAlike key other rows → AreEqualAlike other key rows
equal_alike_symmetric key other rows alike i j hi hj = ((alike i j hi hj).1, (alike i j hi hj).0)

pub rows_dominated : (s : List ℕ) (key other : ℕ → ℕ) (rows : List ℕ) → AreEqualAlike key other rows
    → DominatesKeys s (map key rows) ↔ DominatesKeys s (map other rows)
rows_dominated s key other rows alike = (dominates_other key other rows alike s, dominates_other other key rows (equal_alike_symmetric key other rows alike) s)

pub passing_dominated : (s : List ℕ) (key other : ℕ → ℕ) (rows : List ℕ) (passes : ℕ → Bool) → AreEqualAlike key other rows
    → DominatesKeys s (map key (filter passes rows)) ↔ DominatesKeys s (map other (filter passes rows))
passing_dominated s key other rows passes alike = rows_dominated s key other (filter passes rows)
    (λ i j hi hj. alike i j (from_filter passes rows i hi) (from_filter passes rows j hj))

pub keys_dominated : (s : List ℕ) (f : ℕ → ℕ) (keys : List ℕ) → IsOneToOne f keys → DominatesKeys s (map f keys) ↔ DominatesKeys s keys
keys_dominated s f keys one =
    (λ dominates. subst (DominatesKeys s) (map-id keys) (dominates_other f (λ key. key) keys (λ i j hi hj. (one i j hi hj, ap f)) s dominates), still_dominates s f keys one)
