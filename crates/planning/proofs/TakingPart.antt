-- In the lists of a consistent family each row has a match across each equality of its entry. So, if equalities close no cycle, each row takes part
-- in a choice for all entries connected with its own.
use Rattle.std.proofs.Common.{◌≡◌, ℕ, true, false, not, ◌||◌, eqb, List, [], ◌∷◌, length, refl, ap, sym, ◌∙◌, subst, inl, inr, Some}
use Rattle.std.specs.List.{Contains, list_all, range_with_len}
use Rattle.std.proofs.lemmas.Bool.{and_from, cases_lt, eqb-true, false≢true, or_cases}
use Rattle.berge_tree.specs.declared.edges.Edge.{Edge}
use Rattle.berge_tree.specs.Equalities.{ClosesNoCycle}
use Rattle.entry_sets.specs.Naming.{are_within}
use Rattle.query_types.specs.declared.types.Cond.{Cond}
use Rattle.query_types.specs.declared.types.Query.{Query}
use Rattle.query_types.specs.Named.{entries_named}
use Rattle.join_graph.specs.Conjuncts.{equalities_of, equality_of}
use Rattle.join_graph.specs.Kept.{AreConnected}
use Rattle.sql_meaning.specs.Answers.{conjunct_of, conjuncts_of}
use Rattle.sql_meaning.specs.Conditions.{cond_holds}
use Rattle.sql_meaning.specs.Levels.{DependsOnNamed, Conjunct, is_own_conjunct}
use Rattle.sql_meaning.specs.Tables.{Tables, row_counts}
use Rattle.sql_meaning.proofs.AskFacts.{depend_on_named}
use Rattle.sql_meaning.proofs.LevelFacts.{is_in, names_at}
use Rattle.level_bounds.specs.Keys.{are_equal_at}
use Rattle.level_bounds.specs.Scans.{query_scan}
use Rattle.level_bounds.proofs.EqualityFacts.{equality_holds, equality_names}
use Rattle.level_bounds.proofs.Lists.{all_true, at_member, from_filter, in_filter_map, in_map, test_of_member}
use Rattle.join_steps.specs.Lists.{list_at, scans_of}
use Rattle.reduced_scans.specs.Scans.{AreConsistentScans}
use Rattle.reduced_scans.proofs.Members.{in_cases, not_in_none}
use Rattle.join_steps.proofs.WholeScans.{scans_of_at, scans_of_past_end}
use Rattle.level_bounds.proofs.Scanning.{implied}
use Rattle.set_bounds.proofs.Forests.{onto}
use Rattle.planning.specs.TakingPart.{JoinsByEqualitiesAlone, TakesPart}
use Rattle.planning.proofs.Components.{ends_in_one_component, component, connected_same}
use Rattle.planning.proofs.Extending.{Extends, rest_in_onto, extended, still_connected}

not_none : (named : List ℕ) (x : ℕ) → Contains named x → not (are_within named []) ≡ true
not_none [] x has = absurd (not_in_none x has)
not_none (y ∷ named) x has = refl

module _ (query : Query) (tables : Tables) (family : List (List ℕ)) (are : AreConsistentScans query tables family) where
  scanned : (entry row : ℕ) → Contains (list_at family entry) row → Contains (query_scan query tables entry) row
  scanned entry row row_listed =
      let there : Contains (list_at (scans_of query tables) entry) row = are.is_family.scanned entry row row_listed in
      elim (cases_lt entry (length query.from)) [
        | inl entry_in_range ↦ subst (λ (l : List ℕ). Contains l row) (scans_of_at query tables entry entry_in_range) there
        | inr past ↦ absurd (not_in_none row (subst (λ (l : List ℕ). Contains l row) (scans_of_past_end query tables entry past) there))
      ]

  module _ (entry row : ℕ) (e : Extends (are_equal_at tables) family (onto [] (equalities_of query)) entry row) where
    abbrev es : List Edge
    es = onto [] (equalities_of query)

    connected_to : (other : ℕ) → AreConnected (equalities_of query) entry other → component es other ≡ component es entry
    connected_to other connected = connected_same es entry other (still_connected (equalities_of query) entry other connected)

    equality_met : (cond : Cond) (other : ℕ) (edge : Edge) → Contains query.conjuncts cond → equality_of cond ≡ Some edge → Contains (entries_named cond) other
        → component es other ≡ component es entry → cond_holds tables e.row_of cond ≡ true
    equality_met cond other edge there is named same =
        let in_edges : Contains es edge = rest_in_onto [] (equalities_of query) edge (in_filter_map equality_of query.conjuncts cond edge there is) in
        let sides : Contains (edge.left.entry ∷ edge.right.entry ∷ []) other = subst (λ (l : List ℕ). Contains l other) (equality_names cond edge is) named in
        equality_holds tables e.row_of cond edge is
        ∙ e.holds edge in_edges (elim (in_cases other edge.left.entry (edge.right.entry ∷ []) sides) [
          | inl left ↦ ap (component es) left ∙ same
          | inr more ↦ elim (in_cases other edge.right.entry [] more) [
            | inl right ↦ ends_in_one_component es edge in_edges ∙ ap (component es) right ∙ same
            | inr never ↦ absurd (not_in_none other never)
          ]
        ])

    own_met : (cond : Cond) (other : ℕ) → Contains query.conjuncts cond → are_within (entries_named cond) (other ∷ []) ≡ true → Contains (entries_named cond) other
        → component es other ≡ component es entry → cond_holds tables e.row_of cond ≡ true
    own_met cond other there alone named same =
        let c : Conjunct = conjunct_of tables cond in
        let in_conjuncts : Contains (conjuncts_of query tables) c = in_map (conjunct_of tables) query.conjuncts cond there in
        let just : is_own_conjunct c other ≡ true = and_from (are_within (entries_named cond) (other ∷ [])) (not (are_within (entries_named cond) [])) alone (not_none (entries_named cond) other named) in
        let row_scanned : Contains (query_scan query tables other) (e.row_of other) = scanned other (e.row_of other) (e.listed other same) in
        at_member DependsOnNamed (conjuncts_of query tables) (depend_on_named tables query.conjuncts) c in_conjuncts e.row_of (λ x. e.row_of other) (λ x here. ap e.row_of (only x here))
        ∙ implied (is_own_conjunct c other) (c.holds (λ x. e.row_of other))
        (all_true (λ (k : Conjunct). not (is_own_conjunct k other) || k.holds (λ x. e.row_of other)) (conjuncts_of query tables)
        (from_filter (λ n. list_all (λ (k : Conjunct). not (is_own_conjunct k other) || k.holds (λ x. n)) (conjuncts_of query tables)) (range_with_len 0 (row_counts tables other)) (e.row_of other) row_scanned).1
        c in_conjuncts) just
      where
        only : (x : ℕ) → is_in (entries_named cond) x ≡ true → x ≡ other
        only x here = elim (or_cases (eqb x other) false (names_at (entries_named cond) (other ∷ []) alone x here)) [
          | inl hit ↦ eqb-true x other hit
          | inr never ↦ absurd (false≢true never)
        ]

    takes_part : JoinsByEqualitiesAlone query → TakesPart query tables family entry row
    takes_part alone = record {
      row_of = e.row_of;
      its_own = e.its_own;
      listed = λ other connected. e.listed other (connected_to other connected);
      holds = λ cond other there named connected.
          let same : component es other ≡ component es entry = connected_to other connected in
          elim (alone cond there) [
            | inl joins ↦ equality_met cond other joins.0 there joins.1 named same
            | inr single ↦ own_met cond other there (subst (λ (k : ℕ). are_within (entries_named cond) (k ∷ []) ≡ true) (one_named cond other single.0 single.1 named) single.1) named same
          ];
    }
      where
        one_named : (cond : Cond) (other single : ℕ) → are_within (entries_named cond) (single ∷ []) ≡ true → Contains (entries_named cond) other → single ≡ other
        one_named cond other single within named =
            elim (or_cases (eqb other single) false (names_at (entries_named cond) (single ∷ []) within other (test_of_member (entries_named cond) other named))) [
              | inl hit ↦ sym (eqb-true other single hit)
              | inr never ↦ absurd (false≢true never)
            ]

  pub each_takes_part : ClosesNoCycle (equalities_of query) → JoinsByEqualitiesAlone query → (entry row : ℕ) → Contains (list_at family entry) row → TakesPart query tables family entry row
  each_takes_part none alone entry row row_listed =
      takes_part entry row
      (extended (are_equal_at tables) family (equalities_of query) none (λ edge there. (are.from_left edge there, are.from_right edge there)) entry row row_listed) alone
