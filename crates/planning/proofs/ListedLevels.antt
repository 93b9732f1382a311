-- The choices of a level over lists of scanned rows are different, and their rows are listed. The rows of a choice have the same key across each
-- equality.
use Rattle.std.proofs.Common.{◌≡◌, ℕ, ◌<◌, ◌≤◌, Bool, true, eqb, List, [], ◌∷◌, length, map, get_or, ap, sym, subst, arith, inl, inr}
use Rattle.std.specs.Prelude.{◌≢◌, AllPairs}
use Rattle.std.specs.List.{AllByRecursion, Contains, filter}
use Rattle.std.proofs.lemmas.Bool.{and_parts, cases_Bool, eqb-true, false≢true}
use Rattle.std.proofs.lemmas.List.{get_or-map, length-map}
use Rattle.std.proofs.lemmas.List.Kept.{AllPairs-filter}
use Rattle.entry_sets.specs.Sets.{entries_of_set}
use Rattle.query_types.specs.declared.types.Query.{Query}
use Rattle.join_graph.specs.Conjuncts.{equalities_of}
use Rattle.tree_bounds.specs.Scans.{SatisfiesScanned, scanned}
use Rattle.tree_bounds.specs.SetBounds.{SetHasLists, bound_of_set}
use Rattle.tree_bounds.specs.Tables.{ChoicesAreDifferent, SetDominates}
use Rattle.tree_bounds.specs.TreeBounds.{EntryBounds}
use Rattle.tree_bounds.proofs.Scanned.{scanned_within}
use Rattle.sql_meaning.specs.Answers.{conjuncts_of}
use Rattle.sql_meaning.specs.Choices.{IsChoiceOf}
use Rattle.sql_meaning.specs.Levels.{all_pass, level_over, row_in}
use Rattle.sql_meaning.specs.Tables.{Tables, row_counts}
use Rattle.level_bounds.specs.Keys.{JoinsEqualKeys, Keys}
use Rattle.level_bounds.specs.Orders.{IsOrderOfSet}
use Rattle.level_bounds.specs.Scans.{equalities_in, level_over_entries, query_scan}
use Rattle.level_bounds.proofs.Choosing.{set_entry_in_order}
use Rattle.level_bounds.proofs.Lists.{from_members, at_member, from_filter, from_map, in_map, test_of_member, is_in}
use Rattle.level_bounds.proofs.NeverUnder.{level_choices_differ, level_choices_satisfy}
use Rattle.level_bounds.proofs.Reordering.{is_level_choice}
use Rattle.join_steps.specs.Lists.{list_at, AreOfScans}
use Rattle.reduced_scans.proofs.Bridge.{has, has-contains}
use Rattle.reduced_scans.proofs.FamilyRows.{family_level}

pass_at : (test : ℕ → ℕ → Bool) (rows : ℕ → ℕ) (order choice : List ℕ) → IsChoiceOf rows order choice → all_pass test order choice ≡ true
    → (entry : ℕ) → is_in order entry ≡ true → test entry (row_in order choice entry) ≡ true
pass_at test rows [] choice is all entry here = absurd (false≢true here)
pass_at test rows (e ∷ order) [] is all entry here = absurd is
pass_at test rows (e ∷ order) (row ∷ choice) is all entry here =
    let parts : (test e row ≡ true) × (all_pass test order choice ≡ true) = and_parts (test e row) (all_pass test order choice) all in
    elim (cases_Bool (eqb entry e)) [
      | inl t ↦ rw t (subst (λ (k : ℕ). test k row ≡ true) (sym (eqb-true entry e t)) parts.0)
      | inr n ↦ (let rest : is_in order entry ≡ true = rw n at here in rw n (pass_at test rows order choice is.1 parts.1 entry rest))
    ]

-- ---- a property of each two elements, before and after a function is mapped over them

module _ {Y : Type 0} (R : Y → Y → Type 0) (f : List ℕ → Y) (xs : List (List ℕ)) where
  pairs_unmapped : AllPairs R (map f xs) → AllPairs (λ a b. R (f a) (f b)) xs
  pairs_unmapped all i j d less within =
      let j_in : j < length (map f xs) = omega (arith, within, length-map xs f) in
      let i_in : i < length xs = omega arith in
      subst (λ (y : Y). R (f (get_or xs i d)) y) (get_or-map f xs j d (f d) within)
      (subst (λ (x : Y). R x (get_or (map f xs) j (f d))) (get_or-map f xs i d (f d) i_in) (all i j (f d) less j_in))

  pairs_mapped : AllPairs (λ a b. R (f a) (f b)) xs → AllPairs R (map f xs)
  pairs_mapped all i j y less within =
      let j_in : j < length xs = omega (arith, within, length-map xs f) in
      let i_in : i < length xs = omega arith in
      subst (λ (z : Y). R (get_or (map f xs) i y) z) (sym (get_or-map f xs j [] y j_in))
      (subst (λ (z : Y). R z (f (get_or xs j []))) (sym (get_or-map f xs i [] y i_in)) (all i j [] less j_in))

-- ---- choices of a level over lists of scanned rows

module _ (query : Query) (tables : Tables) (lists : List (List ℕ)) (are : AreOfScans query tables lists) (subset : ℕ) (order : List ℕ) (o : IsOrderOfSet (entries_of_set subset) order) where
  abbrev listed : ℕ → ℕ → Bool
  listed entry row = has row (list_at lists entry)

  abbrev kept : List (List ℕ)
  kept = filter (all_pass listed order) (level_over_entries query tables order)

  abbrev set : List ℕ
  set = entries_of_set subset

  row_listed : (choice : List ℕ) → Contains kept choice → (entry : ℕ) → Contains set entry → Contains (list_at lists entry) (row_in order choice entry)
  row_listed choice k entry here =
      let parts : Contains (level_over_entries query tables order) choice × (all_pass listed order choice ≡ true) = from_filter (all_pass listed order) (level_over_entries query tables order) choice k in
      has-contains (row_in order choice entry) (list_at lists entry)
      (pass_at listed (row_counts tables) order choice (is_level_choice (conjuncts_of query tables) (row_counts tables) order choice parts.0).chosen parts.1 entry
      (test_of_member order entry (set_entry_in_order set order o entry here)))

  kept_differ : ChoicesAreDifferent set (map (row_in order) kept)
  kept_differ =
      let apart : (ℕ → ℕ) → (ℕ → ℕ) → Type 0 = λ x y. map x set ≢ map y set in
      pairs_mapped apart (row_in order) kept
      (AllPairs-filter (λ a b. apart (row_in order a) (row_in order b)) (all_pass listed order) (level_over_entries query tables order)
      (pairs_unmapped apart (row_in order) (level_over_entries query tables order) (level_choices_differ query tables subset order o)))

  module _ (key : Keys) (joins : AllByRecursion (JoinsEqualKeys tables key) (equalities_in query subset)) where
    kept_satisfies : AllByRecursion (SatisfiesScanned (list_at lists) key set (equalities_in query subset)) (map (row_in order) kept)
    kept_satisfies =
        from_members (SatisfiesScanned (list_at lists) key set (equalities_in query subset)) (map (row_in order) kept) (λ f k.
        let from : (choice : List ℕ) × Contains kept choice × (f ≡ row_in order choice) = from_map (row_in order) kept f k in
        subst (SatisfiesScanned (list_at lists) key set (equalities_in query subset)) (sym from.2) (one from.0 from.1))
      where
        one : (choice : List ℕ) → Contains kept choice → SatisfiesScanned (list_at lists) key set (equalities_in query subset) (row_in order choice)
        one choice k = record {
          rows = from_members (λ entry. Contains (list_at lists entry) (row_in order choice entry)) set (row_listed choice k);
          equal =
              (at_member (SatisfiesScanned (query_scan query tables) key set (equalities_in query subset)) (map (row_in order) (level_over_entries query tables order))
              (level_choices_satisfy query tables key subset order joins o) (row_in order choice)
              (in_map (row_in order) (level_over_entries query tables order) choice (from_filter (all_pass listed order) (level_over_entries query tables order) choice k).0)).equal;
        }

    pub level_within : (b : EntryBounds) → SetHasLists b (equalities_of query) subset → SetDominates b (scanned (list_at lists) key) (equalities_of query) subset
        → length (level_over (conjuncts_of query tables) (list_at lists) order) ≤ bound_of_set b (equalities_of query) subset
    level_within b have dominates =
        omega (
          arith,
          ap (λ (s : List (List ℕ)). length s) (family_level query tables lists are order),
          length-map kept (row_in order),
          scanned_within b (list_at lists) key (equalities_of query) subset have dominates (map (row_in order) kept) kept_satisfies kept_differ,
        )
