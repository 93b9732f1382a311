-- Bounds from compressed degree lists of whole tables hold for scans without own conjuncts. They are near the bounds from the degree lists.
use Rattle.std.proofs.Common.{◌≡◌, ℕ, ◌+◌, ◌*◌, ◌^◌, ◌≤◌, true, List, [], ◌∷◌, length, map, refl, ap, sym, ◌∙◌, subst, arith}
use Rattle.std.specs.List.{AllByRecursion, Contains, filter, list_all, range_with_len}
use Rattle.std.proofs.lemmas.List.FromFn.{length-map-range_with_len, length-range_with_len}
use Rattle.degree_sequences.specs.Compression.{compressed}
use Rattle.degree_sequences.specs.Degrees.{degree_list}
use Rattle.degree_sequences.specs.Domination.{DominatesKeys}
use Rattle.degree_sequences.specs.ComparedChildren.{SumsAreWithin}
use Rattle.degree_sequences.proofs.CompressedLists.{IsDescending-compressed, compressed-near, compressed_dominates, sum-compressed}
use Rattle.degree_sequences.proofs.DegreeLists.{IsDescending-degree_list, sum-degree_list}
use Rattle.berge_tree.specs.declared.edges.Edge.{Edge}
use Rattle.berge_tree.specs.declared.edges.Place.{Place}
use Rattle.berge_tree.specs.Equalities.{places_of}
use Rattle.entry_sets.specs.Sets.{entries_of_set}
use Rattle.query_types.specs.declared.types.Cond.{Cond}
use Rattle.query_types.specs.declared.types.Query.{Query}
use Rattle.join_graph.specs.Conjuncts.{equalities_of}
use Rattle.join_graph.specs.Kept.{equalities_within}
use Rattle.tree_bounds.specs.Nearness.{ListIsNear, RowsAreNear, SetIsNear}
use Rattle.tree_bounds.specs.SetBounds.{SetHasLists, bound_of_set}
use Rattle.tree_bounds.specs.TreeBounds.{EntryBounds, HasList, IsListOf}
use Rattle.tree_bounds.proofs.NearSets.{set_near}
use Rattle.tree_bounds.proofs.Premises.{within_by_elements}
use Rattle.tree_bounds.proofs.Scanned.{equalities_inside}
use Rattle.sql_meaning.specs.Conditions.{cond_holds}
use Rattle.sql_meaning.specs.Tables.{Tables, row_counts}
use Rattle.berge_tree.proofs.Forest.{within_place}
use Rattle.level_bounds.specs.Keys.{Keys}
use Rattle.level_bounds.specs.Scans.{BoundsScans, own_conjuncts_of, query_scan}
use Rattle.level_bounds.specs.WholeTables.{AreCompressed, keys_of, uncompressed}
use Rattle.level_bounds.proofs.Lists.{from_members, at_member}
use Rattle.level_bounds.proofs.OwnConjuncts.{scan_by_own}

-- ---- scans of entries without own conjuncts

pub filter_true_is_list : (rows : List ℕ) → filter (λ row. true) rows ≡ rows
filter_true_is_list [] = refl
filter_true_is_list (row ∷ rows) = ap (λ (s : List ℕ). row ∷ s) (filter_true_is_list rows)

pub whole_scan : (query : Query) (tables : Tables) (entry : ℕ) → own_conjuncts_of query entry ≡ [] → query_scan query tables entry ≡ range_with_len 0 (row_counts tables entry)
whole_scan query tables entry none =
    scan_by_own query tables entry
    ∙ ap (λ (own : List Cond). filter (λ row. list_all (cond_holds tables (λ e. row)) own) (range_with_len 0 (row_counts tables entry))) none
    ∙ filter_true_is_list (range_with_len 0 (row_counts tables entry))

-- ---- the columns that equalities of a set name are columns of its entries

module _ (tables : Tables) (key : Keys) where
  key_count : (entry column : ℕ) → length (keys_of tables key entry column) ≡ row_counts tables entry
  key_count entry column = length-map-range_with_len (key entry column) 0 (row_counts tables entry)

  exact_list : (entry column : ℕ) → HasList (uncompressed tables key) entry column
  exact_list entry column = record {
    descends = IsDescending-degree_list (keys_of tables key entry column);
    total = sum-degree_list (keys_of tables key entry column) ∙ key_count entry column;
  }

  exact_lists : (es : List Edge) (subset : ℕ) → SetHasLists (uncompressed tables key) es subset
  exact_lists es subset =
      from_members (λ (p : Place). HasList (uncompressed tables key) p.entry p.column) (places_of (equalities_within subset es)) (λ p k. exact_list p.entry p.column)

  module _ (accuracy : ℕ) (b : EntryBounds) (es : List Edge) (subset : ℕ) (are_compressed : AreCompressed accuracy b tables key es subset) where
    abbrev named : List Place
    named = places_of (equalities_within subset es)

    abbrev list_of : ℕ → ℕ → List ℕ
    list_of entry column = compressed accuracy (degree_list (keys_of tables key entry column))

    rows_at : (entry : ℕ) → Contains (entries_of_set subset) entry → b.rows entry ≡ row_counts tables entry
    rows_at entry k = at_member (λ entry. b.rows entry ≡ row_counts tables entry) (entries_of_set subset) are_compressed.rows entry k

    list_at : (p : Place) → Contains named p → b.list p.entry p.column ≡ list_of p.entry p.column
    list_at p k = at_member (λ (p : Place). b.list p.entry p.column ≡ list_of p.entry p.column) named are_compressed.columns p k

    column_is_of_set : (p : Place) → Contains named p → Contains (entries_of_set subset) p.entry
    column_is_of_set p k = within_place (entries_of_set subset) (equalities_within subset es) (equalities_inside subset es) p k

    pub lists : SetHasLists b es subset
    lists = from_members (λ (p : Place). HasList b p.entry p.column) named (λ p k.
        let exact : IsListOf (row_counts tables p.entry) (degree_list (keys_of tables key p.entry p.column)) = exact_list p.entry p.column in
        subst (IsListOf (b.rows p.entry)) (sym (list_at p k)) (record {
          descends = IsDescending-compressed accuracy (degree_list (keys_of tables key p.entry p.column)) exact.descends;
          total = sum-compressed accuracy (degree_list (keys_of tables key p.entry p.column)) exact.descends ∙ exact.total ∙ sym (rows_at p.entry (column_is_of_set p k));
        }))

    is_near : SetIsNear accuracy b (uncompressed tables key) es subset
    is_near = record {
      rows = from_members (RowsAreNear accuracy b (uncompressed tables key)) (entries_of_set subset) (λ entry k. rw (rows_at entry k) (omega arith));
      columns = from_members (λ (p : Place). ListIsNear accuracy b (uncompressed tables key) p.entry p.column) named (λ p k.
          let descends = IsDescending-degree_list (keys_of tables key p.entry p.column) in
          subst (λ (s : List ℕ). SumsAreWithin accuracy (accuracy + 1) s (degree_list (keys_of tables key p.entry p.column))) (sym (list_at p k))
          (within_by_elements accuracy (accuracy + 1) (list_of p.entry p.column) (degree_list (keys_of tables key p.entry p.column))
          (compressed-near accuracy (degree_list (keys_of tables key p.entry p.column)) descends)));
    }

    pub near : accuracy ^ length (entries_of_set subset) * bound_of_set b es subset ≤ (accuracy + 1) ^ length (entries_of_set subset) * bound_of_set (uncompressed tables key) es subset
    near = set_near accuracy b (uncompressed tables key) es subset lists (exact_lists es subset) is_near

pub whole_bounds : (query : Query) (tables : Tables) (key : Keys) (accuracy : ℕ) (b : EntryBounds) (subset : ℕ) → AllByRecursion (λ entry. own_conjuncts_of query entry ≡ []) (entries_of_set subset)
    → AreCompressed accuracy b tables key (equalities_of query) subset → BoundsScans b query tables key subset
whole_bounds query tables key accuracy b subset none are = record {
  lists = lists tables key accuracy b (equalities_of query) subset are;
  rows = from_members (λ entry. length (query_scan query tables entry) ≤ b.rows entry) (entries_of_set subset) (λ entry k.
      omega (arith, ap (λ (s : List ℕ). length s) (scan_at entry k), length-range_with_len 0 (row_counts tables entry), rows_at tables key accuracy b (equalities_of query) subset are entry k));
  columns = from_members (λ (p : Place). DominatesKeys (b.list p.entry p.column) (map (key p.entry p.column) (query_scan query tables p.entry))) (places_of (equalities_within subset (equalities_of query))) (λ p k.
      subst (λ (s : List ℕ). DominatesKeys s (map (key p.entry p.column) (query_scan query tables p.entry))) (sym (list_at tables key accuracy b (equalities_of query) subset are p k))
      (subst (λ (rows : List ℕ). DominatesKeys (compressed accuracy (degree_list (keys_of tables key p.entry p.column))) (map (key p.entry p.column) rows))
      (sym (scan_at p.entry (column_is_of_set tables key accuracy b (equalities_of query) subset are p k)))
      (compressed_dominates accuracy (keys_of tables key p.entry p.column))));
}
  where
    scan_at : (entry : ℕ) → Contains (entries_of_set subset) entry → query_scan query tables entry ≡ range_with_len 0 (row_counts tables entry)
    scan_at entry k = whole_scan query tables entry (at_member (λ entry. own_conjuncts_of query entry ≡ []) (entries_of_set subset) none entry k)
