-- Row bounds and lists of a query's entries give the bounds of its scans and of all sets.
use Rattle.std.proofs.Common.{◌≡◌, ℕ, ◌^◌, ◌<◌, Bool, true, List, [], Option, Some, length, map, get_or, sum, ap, sym, ◌∙◌, subst, arith}
use Rattle.std.specs.Prelude.{All, if◌then◌else◌, unwrap_or}
use Rattle.std.specs.List.{range_with_len}
use Rattle.std.proofs.Math.Path.{fun_ext}
use Rattle.std.proofs.lemmas.Bool.{lt-ltb}
use Rattle.std.proofs.lemmas.List.{ext_get_or}
use Rattle.std.proofs.lemmas.List.FromFn.{get_or-map-range_with_len, length-map-range_with_len}
use Rattle.degree_sequences.specs.Descending.{IsDescending}
use Rattle.berge_tree.specs.declared.edges.Edge.{Edge}
use Rattle.berge_tree.specs.declared.edges.Place.{Place}
use Rattle.csv_tables.specs.declared.types.Database.{Database}
use Rattle.query_types.specs.declared.types.Query.{Query}
use Rattle.join_graph.specs.Conjuncts.{equalities_of}
use Rattle.tree_bounds.specs.TreeBounds.{EntryBounds, HasList}
use Rattle.bound_fold.specs.declared.lists.EntryLists.{EntryLists}
use Rattle.bound_fold.specs.Lists.{bounds_of, list_of}
use Rattle.bound_fold.specs.Sets.{HaveLists, SetHasBounds}
use Rattle.set_bounds.specs.AllSets.{bound_in_128_bits, bounds_in_sets, bounds_of_sets, first_entries}
use Rattle.set_bounds.proofs.Listing.{first_entries_have_bounds}
use Rattle.sql_meaning.specs.Tables.{tables_of}
use Rattle.join_steps.specs.Lists.{list_sizes}
use Rattle.predicate_bounds.specs.declared.columns.QueryStats.{QueryStats}
use Rattle.query_bounds.specs.Bounds.{HoldsKnown, entry_bounds, is_among, joined_columns, scan_bounds, scan_list, scan_row_bound, set_bounds}
use Rattle.query_bounds.specs.Statistics.{HasSomeStatistics, Statistics, HasStatistics}
use Rattle.query_bounds.proofs.Sets as told
use Rattle.planning.specs.declared.known.QueryBounds.{QueryBounds}
use Rattle.planning.specs.HasBounds.{HasBounds}
use Rattle.planning.specs.ListsSoFar.{IsKnown}
use Rattle.planning.specs.ListedBounds.{entry_bounds_over, set_bounds_over}
use Rattle.planning.specs.Standing.{JoinedHaveLists}
use Rattle.planning.proofs.CollectedBounds as listed
use Rattle.planning.proofs.ScanBounds.{named_all}

pub tells_some_statistics : {query : Query} {stats : QueryStats} {known : Statistics} → HasStatistics query stats known → HasSomeStatistics query stats
tells_some_statistics {known = known} tells = record { known = known; tells = tells }

-- ---- bounds from statistics

same_below : (f g : ℕ → ℕ) (n : ℕ) → ((k : ℕ) → k < n → f k ≡ g k) → map f (range_with_len 0 n) ≡ map g (range_with_len 0 n)
same_below f g n same =
    ext_get_or 0 (map f (range_with_len 0 n)) (map g (range_with_len 0 n)) (length-map-range_with_len f 0 n ∙ sym (length-map-range_with_len g 0 n)) (λ k k_in_range.
    let within : k < n = omega (arith, k_in_range, length-map-range_with_len f 0 n) in
    get_or-map-range_with_len f 0 n k k 0 within (omega arith) ∙ same k within ∙ sym (get_or-map-range_with_len g 0 n k k 0 within (omega arith)))

pub scans_from_statistics : (query : Query) (stats : Statistics) (lists : EntryLists) → bounds_of lists ≡ entry_bounds query stats
    → map (bounds_of lists).rows (range_with_len 0 (length query.from)) ≡ scan_bounds query stats
scans_from_statistics query stats lists are =
    ap (λ (b : EntryBounds). map b.rows (range_with_len 0 (length query.from))) are
    ∙ same_below (entry_bounds query stats).rows (scan_row_bound query stats) (length query.from)
    (λ k k_in_range. ap (λ (t : Bool). if t then scan_row_bound query stats k else 0) (lt-ltb k (length query.from) k_in_range))

list_there : (lists : EntryLists) (entry column : ℕ) (list : List ℕ) → list_of lists entry column ≡ Some list → HasList (bounds_of lists) entry column
list_there lists entry column list is = record {
  descends = subst (λ (o : Option (List ℕ)). IsDescending (unwrap_or o [])) (sym is) (lists.sums entry column list is).0;
  total = ap (λ (o : Option (List ℕ)). sum (unwrap_or o [])) is ∙ sym (ap (λ (o : Option ℕ). unwrap_or o 0) (lists.sums entry column list is).1);
}

pub lists_from_statistics : (query : Query) (stats : Statistics) (lists : EntryLists) → HoldsKnown query stats (length query.from) (joined_columns query) lists
    → bounds_of lists ≡ entry_bounds query stats → JoinedHaveLists query (entry_bounds query stats)
lists_from_statistics query stats lists held are =
    named_all (λ entry column. entry < length query.from → HasList (entry_bounds query stats) entry column) (equalities_of query) (λ k d k_in_range.
    let among = told.both_among (equalities_of query) k d k_in_range in
    let l : Place = (get_or (equalities_of query) k d).left in
    let r : Place = (get_or (equalities_of query) k d).right in
    ((λ below. there l.entry l.column among.0), (λ below. there r.entry r.column among.1)))
  where
    there : (entry column : ℕ) → is_among (joined_columns query) entry column ≡ true → HasList (entry_bounds query stats) entry column
    there entry column among =
        subst (λ (b : EntryBounds). HasList b entry column) are
        (list_there lists entry column (scan_list query stats entry column) (told.list_is_held query stats (length query.from) (joined_columns query) lists held entry column among))

-- ---- bounds from row bounds and lists, with the equalities of `split`; the row bounds are the scans' bounds

module _ (query : Query) (es : List Edge) (split : es ≡ equalities_of query) (lists : EntryLists) (scans : List ℕ) (count : ℕ) (counts_all_entries : count ≡ length query.from)
    (are : scans ≡ map (bounds_of lists).rows (range_with_len 0 count)) where
  pub one_each : length scans ≡ length query.from
  one_each = ap (λ (s : List ℕ). length s) are ∙ length-map-range_with_len (bounds_of lists).rows 0 count ∙ counts_all_entries

  pub each_has_bounds : SetHasBounds lists (equalities_of query) (first_entries (length query.from)) → (subset : ℕ) → subset < 2 ^ length scans → SetHasBounds lists es subset
  each_has_bounds whole subset fits =
      subst (λ (s : List Edge). SetHasBounds lists s subset) (sym split)
      (first_entries_have_bounds lists (equalities_of query) (length query.from) subset whole (subst (λ (n : ℕ). subset < 2 ^ n) one_each fits))

  bounds_give : (b : EntryBounds) (each : List ℕ) (known : QueryBounds) → known.sets ≡ bounds_of_sets (bounds_of lists) es (length scans) → known.scans ≡ scans
      → bounds_of_sets (bounds_of lists) (equalities_of query) (length query.from) ≡ bounds_of_sets b (equalities_of query) (length query.from)
      → map (bounds_of lists).rows (range_with_len 0 (length query.from)) ≡ each → HasBounds (bounds_of_sets b (equalities_of query) (length query.from)) each known
  bounds_give b each known made kept same like = record {
    sets =
        made ∙ ap (λ (s : List Edge). bounds_of_sets (bounds_of lists) s (length scans)) split
        ∙ ap (bounds_of_sets (bounds_of lists) (equalities_of query)) one_each ∙ same;
    scans = kept ∙ are ∙ ap (λ (n : ℕ). map (bounds_of lists).rows (range_with_len 0 n)) counts_all_entries ∙ like;
  }

  pub statistics_give_bounds : (stats : Statistics) (known : QueryBounds) → known.sets ≡ bounds_of_sets (bounds_of lists) es (length scans) → known.scans ≡ scans
      → bounds_of lists ≡ entry_bounds query stats → HasBounds (set_bounds query stats) (scan_bounds query stats) known
  statistics_give_bounds stats known made kept same =
      bounds_give (entry_bounds query stats) (scan_bounds query stats) known made kept
      (ap (λ (b : EntryBounds). bounds_of_sets b (equalities_of query) (length query.from)) same) (scans_from_statistics query stats lists same)

  pub rows_give : (db : Database) (rows : List (List ℕ)) (accuracy : ℕ) (known : QueryBounds) → known.sets ≡ bounds_of_sets (bounds_of lists) es (length scans) → known.scans ≡ scans
      → IsKnown db rows accuracy lists → All (HaveLists lists) (equalities_of query)
      → HasBounds (set_bounds_over query (tables_of db) rows accuracy) (list_sizes query rows) known
  rows_give db rows accuracy known made kept is joined =
      bounds_give (entry_bounds_over (tables_of db) rows accuracy) (list_sizes query rows) known made kept
      (listed.sets_are db rows accuracy lists is (equalities_of query) joined (length query.from))
      (ap (λ (f : ℕ → ℕ). map f (range_with_len 0 (length query.from))) (fun_ext (listed.row_bound_is db rows accuracy lists is)))

-- ---- the number of bounds

module _ (query : Query) (bounds : ℕ → EntryBounds) (scans : List ℕ) (known : QueryBounds) (gives : HasBounds (bounds_in_sets bounds (equalities_of query) (length query.from)) scans known)
    (one_scan : length scans ≡ length query.from) where
  pub one_scan_bound_each : length known.scans ≡ length query.from
  one_scan_bound_each = ap (λ (s : List ℕ). length s) gives.scans ∙ one_scan

  pub one_bound_for_each_set : length known.sets ≡ 2 ^ length known.scans
  one_bound_for_each_set =
      ap (λ (s : List ℕ). length s) gives.sets
      ∙ length-map-range_with_len (λ subset. bound_in_128_bits (bounds subset) (equalities_of query) subset) 0 (2 ^ length query.from)
      ∙ ap (λ (k : ℕ). 2 ^ k) (sym one_scan_bound_each)
