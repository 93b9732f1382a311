-- A choice of a level over all entries has scanned rows that match each other. So its rows are in the reduced scans.
use Rattle.std.proofs.Common.{◌≡◌, ℕ, ◌<◌, true, false, not, ◌||◌, eqb, List, [], ◌∷◌, length, get_or, map, ap, sym, ◌∙◌, subst, arith, inl, inr}
use Rattle.std.specs.Prelude.{All, Some}
use Rattle.std.specs.List.{AllByRecursion, Contains, list_all, range_with_len}
use Rattle.std.proofs.lemmas.Bool.{and_parts, eqb-true, false≢true, or_cases}
use Rattle.std.proofs.lemmas.List.Elements.{All-contains}
use Rattle.std.proofs.lemmas.List.FromFn.{get_or-map-range_with_len, length-map-range_with_len}
use Rattle.query_types.specs.declared.types.Cond.{Cond}
use Rattle.query_types.specs.declared.types.Query.{Query}
use Rattle.query_types.specs.Named.{NamesItsEntries, entries_named}
use Rattle.join_graph.specs.Conjuncts.{equalities_of, equality_of}
use Rattle.sql_meaning.specs.Answers.{conjunct_of, conjuncts_of, entries_of}
use Rattle.sql_meaning.specs.Conditions.{cond_holds}
use Rattle.sql_meaning.specs.Levels.{DependsOnNamed, Conjunct, is_own_conjunct, names_only, row_in}
use Rattle.sql_meaning.specs.Tables.{Tables, row_counts}
use Rattle.sql_meaning.proofs.LevelFacts.{names_at}
use Rattle.level_bounds.specs.Keys.{are_equal_at}
use Rattle.level_bounds.specs.Orders.{IsOrderOfSet}
use Rattle.level_bounds.specs.Scans.{level_over_entries, query_scan}
use Rattle.level_bounds.proofs.Choosing.{choice_row, set_entry_in_order}
use Rattle.level_bounds.proofs.EqualityFacts.{equality_holds}
use Rattle.level_bounds.proofs.Lists.{all_true, at_member, from_filter_map, in_filter, in_map, in_range, test_of_member, is_in, true_for_all}
use Rattle.level_bounds.proofs.Reordering.{is_level_choice}
use Rattle.join_steps.specs.Lists.{list_at, scans_of}
use Rattle.reduced_scans.specs.Scans.{AreReducedScans, SatisfiesEqualities}
use Rattle.reduced_scans.proofs.Matches.{match_stays}
use Rattle.join_steps.proofs.WholeScans.{scans_of_length, scans_of_at}
use Rattle.level_bounds.proofs.Scanning.{implied, implies}
use Rattle.reduced_scans.proofs.QueryScans.{name_entries}

module _ (query : Query) (tables : Tables) (asks : AllByRecursion DependsOnNamed (conjuncts_of query tables)) (named : NamesItsEntries query) (order : List ℕ) (o : IsOrderOfSet (entries_of query) order)
    (choice : List ℕ) (k : Contains (level_over_entries query tables order) choice) where
  abbrev row_of : ℕ → ℕ
  row_of = row_in order choice

  abbrev all_rows : List ℕ
  all_rows = map row_of (entries_of query)

  placed : (entry : ℕ) → entry < length query.from → Contains order entry
  placed entry entry_in_range = set_entry_in_order (entries_of query) order o entry (in_range 0 (length query.from) entry (omega arith) (omega arith))

  cond_true : (cond : Cond) → Contains query.conjuncts cond → cond_holds tables row_of cond ≡ true
  cond_true cond there =
      implied (names_only (conjunct_of tables cond) order) (cond_holds tables row_of cond)
      (all_true (λ (c : Conjunct). not (names_only c order) || c.holds row_of) (conjuncts_of query tables) (is_level_choice (conjuncts_of query tables) (row_counts tables) order choice k).holds (conjunct_of tables cond)
      (in_map (conjunct_of tables) query.conjuncts cond there))
      (true_for_all (is_in order) (entries_named cond) (λ x at. test_of_member order x (placed x (All-contains (λ entry. entry < length query.from) (entries_named cond) x
      (All-contains (λ cond. All (λ entry. entry < length query.from) (entries_named cond)) query.conjuncts cond named there) at))))

  holds_all : (c : Conjunct) → Contains (conjuncts_of query tables) c → names_only c order ≡ true → c.holds row_of ≡ true
  holds_all c there names =
      implied (names_only c order) (c.holds row_of)
      (all_true (λ (c : Conjunct). not (names_only c order) || c.holds row_of) (conjuncts_of query tables) (is_level_choice (conjuncts_of query tables) (row_counts tables) order choice k).holds c there) names

  row_scanned : (entry : ℕ) → entry < length query.from → Contains (query_scan query tables entry) (row_of entry)
  row_scanned entry entry_in_range =
      in_filter (λ row. list_all (λ (c : Conjunct). not (is_own_conjunct c entry) || c.holds (λ e. row)) (conjuncts_of query tables)) (range_with_len 0 (row_counts tables entry)) (row_of entry)
      (in_range 0 (row_counts tables entry) (row_of entry) (omega arith)
      (omega (arith, choice_row (row_counts tables) order choice (is_level_choice (conjuncts_of query tables) (row_counts tables) order choice k).chosen entry (test_of_member order entry (placed entry entry_in_range)))))
      (true_for_all (λ (c : Conjunct). not (is_own_conjunct c entry) || c.holds (λ e. row_of entry)) (conjuncts_of query tables)
      (λ c there. implies (is_own_conjunct c entry) (c.holds (λ e. row_of entry)) (λ just. passes c there just)))
    where
      passes : (c : Conjunct) → Contains (conjuncts_of query tables) c → is_own_conjunct c entry ≡ true → c.holds (λ e. row_of entry) ≡ true
      passes c there just =
          let alone : names_only c (entry ∷ []) ≡ true = (and_parts (names_only c (entry ∷ [])) (not (names_only c [])) just).0 in
          let only : (x : ℕ) → is_in c.entries x ≡ true → entry ≡ x = λ x here. elim (or_cases (eqb x entry) false (names_at c.entries (entry ∷ []) alone x here)) [
            | inl hit ↦ sym (eqb-true x entry hit)
            | inr never ↦ absurd (false≢true never)
          ] in
          at_member DependsOnNamed (conjuncts_of query tables) asks c there (λ e. row_of entry) row_of (λ x here. ap row_of (only x here))
          ∙ holds_all c there (true_for_all (is_in order) c.entries (λ x at. subst (λ y. is_in order y ≡ true) (only x (test_of_member c.entries x at)) (test_of_member order entry (placed entry entry_in_range))))

  row_there : (entry : ℕ) → entry < length query.from → get_or all_rows entry 0 ≡ row_of entry
  row_there entry entry_in_range = get_or-map-range_with_len row_of 0 (length query.from) entry entry 0 entry_in_range (omega arith)

  is_match : SatisfiesEqualities query tables all_rows
  is_match = record {
    count = length-map-range_with_len row_of 0 (length query.from) ∙ sym (scans_of_length query tables);
    scanned = λ entry below. (let entry_in_range : entry < length query.from = omega (arith, scans_of_length query tables) in
        subst (λ l. Contains l (get_or all_rows entry 0)) (sym (scans_of_at query tables entry entry_in_range)) (subst (Contains (query_scan query tables entry)) (sym (row_there entry entry_in_range)) (row_scanned entry entry_in_range)));
    satisfied = λ e has. (let found : (cond : Cond) × Contains query.conjuncts cond × (equality_of cond ≡ Some e) = from_filter_map equality_of query.conjuncts e has in
        let names : (e.left.entry < length (scans_of query tables)) × (e.right.entry < length (scans_of query tables)) = name_entries query tables named e has in
        let left : get_or all_rows e.left.entry 0 ≡ row_of e.left.entry = row_there e.left.entry (omega (arith, names.0, scans_of_length query tables)) in
        let right : get_or all_rows e.right.entry 0 ≡ row_of e.right.entry = row_there e.right.entry (omega (arith, names.1, scans_of_length query tables)) in
        ap (λ row. are_equal_at tables e row (get_or all_rows e.right.entry 0)) left ∙ ap (are_equal_at tables e (row_of e.left.entry)) right
        ∙ sym (equality_holds tables row_of found.0 e found.2) ∙ cond_true found.0 found.1);
  }

  pub rows_stay : (reduced : List (List ℕ)) → AreReducedScans query tables reduced → (entry : ℕ) → entry < length query.from → Contains (list_at reduced entry) (row_of entry)
  rows_stay reduced are entry entry_in_range =
      subst (Contains (list_at reduced entry)) (row_there entry entry_in_range)
      (match_stays (scans_of query tables) (equalities_of query) (are_equal_at tables) reduced all_rows (name_entries query tables named) are is_match entry (omega (arith, scans_of_length query tables)))
