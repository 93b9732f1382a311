-- If each entry has its statistics from the file, the query has its statistics from the file.
use Rattle.std.proofs.Common.{◌≡◌, ◌⊎◌, ℕ, ◌+◌, ◌<◌, ◌==◌, Bool, true, false, not, List, [], ◌∷◌, ◌++◌, length, get_or, Option, None, Some, option_map, refl, ap, sym, ◌∙◌, subst, inl, inr, arith}
use Rattle.std.specs.Prelude.{unwrap_or}
use Rattle.std.specs.List.{All, AllByRecursion, Contains, list_all}
use Rattle.std.proofs.lemmas.Bool.{cases_eq}
use Rattle.std.proofs.lemmas.List.{get_or_append_left, get_or_push, length_push, length-map}
use Rattle.std.proofs.lemmas.List.Elements.{All-contains, recursion_from_All}
use Rattle.berge_tree.specs.declared.edges.Edge.{Edge}
use Rattle.berge_tree.specs.declared.edges.Place.{Place}
use Rattle.berge_tree.specs.Equalities.{places_of}
use Rattle.entry_sets.proofs.Listing.{in_front, in_rest}
use Rattle.gathered_stats.specs.Asked.{asked_columns, joined_columns, or_no_column}
use Rattle.gathered_stats.proofs.Joined.{place_asked, asked_not_empty}
use Rattle.gathered_stats.proofs.StatisticsOfTables.{first_has, found_has}
use Rattle.join_graph.specs.Conjuncts.{equalities_of, equality_of}
use Rattle.level_bounds.proofs.EqualityFacts.{equality_names}
use Rattle.level_bounds.proofs.Lists.{from_members, at_member, from_filter_map}
use Rattle.predicate_bounds.specs.declared.columns.ColumnSteps.{ColumnSteps}
use Rattle.predicate_bounds.specs.declared.columns.EntryStats.{EntryStats}
use Rattle.predicate_bounds.specs.declared.columns.QueryStats.{QueryStats}
use Rattle.predicate_bounds.specs.Steps.{steps_of}
use Rattle.predicate_bounds.specs.StatsLists.{steps_with_lists, columns_of, no_columns}
use Rattle.query_bounds.specs.Statistics.{HasStatistics, HasColumnLists, HasRowBoundLists}
use Rattle.query_types.specs.declared.types.Cond.{Cond}
use Rattle.query_types.specs.declared.types.Query.{Query}
use Rattle.query_types.specs.Named.{NamesItsEntries, entries_named}
use Rattle.stats_file.specs.declared.types.StatsFile.{StatsFile}
use Rattle.stats_file.specs.declared.types.TableStats.{TableStats}
use Rattle.stats_file_of_query.specs.Needs.{needed, needs_of, pairs_of, table_of}
use Rattle.stats_file_of_query.specs.Standing.{section_of}
use Rattle.stats_file_bounds.specs.Entries.{AreStepsFromStatsFile, KeepsRulesOfSome, IsSectionOfSome, HasStatsFromFile}
use Rattle.stats_file_bounds.specs.FileStatistics.{stats_file_lists, stats_file_statistics}
use Rattle.stats_file_bounds.specs.Found.{has_each_pair, has_pair, is_missing, no_section, section_for}
use Rattle.stats_file_bounds.proofs.Finding.{found_one as found_holds}
use Rattle.stats_file_bounds.proofs.Small.{sections_keep_rules, whole_within}
use Rattle.stats_file_bounds.proofs.Sums.{IsJoined, sums_are}

-- ---- the loop over entries

module _ (P : ℕ → EntryStats → Type 0) where
  pub record AreEach (n : ℕ) (entries : List EntryStats) : Type 0 where
    pub as_many : length entries ≡ n
    pub each : (entry : ℕ) → entry < n → P entry (get_or entries entry no_columns)

  pub one_each : (n : ℕ) (old new : List EntryStats) (one : EntryStats) → AreEach n old → P n one → new ≡ old ++ one ∷ [] → AreEach (n + 1) new
  one_each n old new one before here pushed = record {
    as_many = ap (λ (s : List EntryStats). length s) pushed ∙ length_push old one ∙ omega (arith, before.as_many);
    each = λ entry entry_in_range. subst (λ (s : List EntryStats). P entry (get_or s entry no_columns)) (sym pushed) (elim (cases_eq entry n) [
      | inl same ↦ subst (P entry) (sym (get_or_push old one no_columns entry (before.as_many ∙ sym same))) (subst (λ (m : ℕ). P m one) (sym same) here)
      | inr apart ↦ (let earlier : entry < n = omega (arith, entry_in_range, apart) in
          subst (P entry) (sym (get_or_append_left old (one ∷ []) no_columns entry (omega (arith, earlier, before.as_many)))) (before.each entry earlier))
    ]);
  }

-- ---- the entries of joined columns are entries of the query

module _ (query : Query) (own : NamesItsEntries query) where
  pub place_entry_in_range : (p : Place) → Contains (places_of (equalities_of query)) p → p.entry < length query.from
  place_entry_in_range p has = at_member (λ (q : Place). q.entry < length query.from) (places_of (equalities_of query)) (all_low (equalities_of query) (λ e h. h)) p has
    where
      edge_low : (e : Edge) → Contains (equalities_of query) e → (e.left.entry < length query.from) × (e.right.entry < length query.from)
      edge_low e has =
          let found : (cond : Cond) × Contains query.conjuncts cond × (equality_of cond ≡ Some e) = from_filter_map equality_of query.conjuncts e has in
          let named : All (λ entry. entry < length query.from) (e.left.entry ∷ e.right.entry ∷ []) =
          subst (λ (s : List ℕ). All (λ entry. entry < length query.from) s) (equality_names found.0 e found.2)
          (All-contains (λ cond. All (λ entry. entry < length query.from) (entries_named cond)) query.conjuncts found.0 own found.1) in
          (named 0 0 (omega arith), named 1 0 (omega arith))

      all_low : (es : List Edge) → ((e : Edge) → Contains es e → Contains (equalities_of query) e) → AllByRecursion (λ (q : Place). q.entry < length query.from) (places_of es)
      all_low [] within = tt
      all_low (e ∷ es) within =
          let low = edge_low e (within e (in_front e es e refl)) in
          (low.0, (low.1, all_low es (λ f h. within f (in_rest e es f h))))

-- ---- sections and pairs that the file has

module _ (query : Query) (file : StatsFile) where
  pub record IsThere (entry : ℕ) : Type 0 where
    pub section : TableStats
    pub is : section_of file (table_of query entry) ≡ Some section
    pub all : list_all (has_pair section) (needed query entry) ≡ true

  there_by : (entry : ℕ) (o : Option TableStats) → section_of file (table_of query entry) ≡ o → has_each_pair (needed query entry) o ≡ true → IsThere entry
  there_by entry None is all = absurd (cc)
  there_by entry (Some section) is all = record { section = section; is = is; all = all }

  not_false : (b : Bool) → not b ≡ false → b ≡ true
  not_false true h = refl
  not_false false h = absurd (cc)

  pub is_there : (entry : ℕ) → is_missing query file entry ≡ false → IsThere entry
  is_there entry none =
      there_by entry (section_of file (table_of query entry)) refl
      (not_false (has_each_pair (needed query entry) (section_of file (table_of query entry))) none)

  pub section_is : (entry : ℕ) (t : IsThere entry) → section_for query file entry ≡ t.section
  section_is entry t = ap (λ (o : Option TableStats). unwrap_or o no_section) t.is

  module _ (is : KeepsRulesOfSome file) where
    pub section_from_file : (entry : ℕ) → IsThere entry → IsSectionOfSome (section_for query file entry)
    section_from_file entry t =
        subst IsSectionOfSome (sym (section_is entry t))
        (found_holds IsSectionOfSome (λ (s : TableStats). s.table == table_of query entry) file.tables t.section (recursion_from_All IsSectionOfSome file.tables (sections_keep_rules file is)) t.is)

    pub its_pairs : (entry : ℕ) (t : IsThere entry) → list_all (has_pair (section_for query file entry)) (pairs_of (needs_of query entry)) ≡ true
    its_pairs entry t = ap (λ (s : TableStats). list_all (has_pair s) (needed query entry)) (section_is entry t) ∙ t.all

    asked_joined : (entry column : ℕ) → Contains (asked_columns entry (equalities_of query)) column → IsJoined (needs_of query entry) column
    unfolding IsJoined
    asked_joined entry column has = by (joined_columns entry (equalities_of query)) refl has
      where
        by : (joined : List ℕ) → joined_columns entry (equalities_of query) ≡ joined → Contains (or_no_column joined) column
            → (joined_columns entry (equalities_of query) ≡ []) ⊎ Contains (joined_columns entry (equalities_of query)) column
        by [] is has = inl is
        by (c ∷ joined) is has = inr (subst (λ (s : List ℕ). Contains s column) (sym is) has)

    module _ (own : NamesItsEntries query) (stats : QueryStats) (entries_have_stats : (entry : ℕ) → entry < length query.from → HasStatsFromFile query file entry (get_or stats.entries entry no_columns))
        (none_missing : (entry : ℕ) → entry < length query.from → is_missing query file entry ≡ false) where
      abbrev section : ℕ → TableStats
      section entry = section_for query file entry

      tells_entry : (entry : ℕ) → entry < length query.from → HasRowBoundLists query stats (stats_file_statistics query file) entry
      tells_entry entry entry_in_range =
          let here : HasStatsFromFile query file entry (get_or stats.entries entry no_columns) = entries_have_stats entry entry_in_range in
          let t : IsThere entry = is_there entry (none_missing entry entry_in_range) in
          let from_stats_file : IsSectionOfSome (section entry) = section_from_file entry t in
          let columns : List ColumnSteps = columns_of stats entry in
          let is_positive : 0 < length columns = omega (arith, asked_not_empty entry (equalities_of query), ap (λ (s : List ℕ). length s) here.columns, length-map columns (λ (g : ColumnSteps). g.column)) in
          let first = first_has (AreStepsFromStatsFile (section entry) (needs_of query entry) (steps_of entry query.conjuncts)) columns is_positive here.steps in
          let joins : IsJoined (needs_of query entry) first.0.column = asked_joined entry first.0.column (subst (λ (s : List ℕ). Contains s first.0.column) here.columns first.2) in
          record {
            column = first.0.column;
            lists = ap (option_map (λ (g : ColumnSteps). g.steps)) first.1 ∙ ap Some first.3;
            sums = sums_are (section entry) from_stats_file (needs_of query entry) (its_pairs entry t) first.0.column joins;
            small = omega (arith, whole_within (section entry) from_stats_file (needs_of query entry) (get_or (joined_columns entry (equalities_of query)) 0 0), from_stats_file.is.rows);
          }

      tells_column : (p : Place) → Contains (places_of (equalities_of query)) p → HasColumnLists query stats (stats_file_statistics query file) p.entry p.column
      tells_column p has =
          let in_range : p.entry < length query.from = place_entry_in_range query own p has in
          let here : HasStatsFromFile query file p.entry (get_or stats.entries p.entry no_columns) = entries_have_stats p.entry in_range in
          let t : IsThere p.entry = is_there p.entry (none_missing p.entry in_range) in
          let asked : Contains (asked_columns p.entry (equalities_of query)) p.column = place_asked (equalities_of query) p has in
          let one = found_has (AreStepsFromStatsFile (section p.entry) (needs_of query p.entry) (steps_of p.entry query.conjuncts)) (columns_of stats p.entry) p.column
          (subst (λ (s : List ℕ). Contains s p.column) (sym here.columns) asked) here.steps in
          record {
            lists = ap (option_map (λ (g : ColumnSteps). g.steps)) one.1
                ∙ ap Some (one.3 ∙ ap (λ (c : ℕ). steps_with_lists query p.entry (stats_file_lists (section p.entry) (needs_of query p.entry) c)) one.2);
            sums = sums_are (section p.entry) (section_from_file p.entry t) (needs_of query p.entry) (its_pairs p.entry t) p.column (asked_joined p.entry p.column asked);
          }

      pub all_told : length stats.entries ≡ length query.from → HasStatistics query stats (stats_file_statistics query file)
      all_told as_many = record {
        one_each = as_many;
        entries = tells_entry;
        columns = from_members (λ (p : Place). HasColumnLists query stats (stats_file_statistics query file) p.entry p.column) (places_of (equalities_of query)) tells_column;
      }
