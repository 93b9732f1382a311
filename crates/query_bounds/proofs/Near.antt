-- If no conjunct names just one entry, the bounds from compressed lists of whole columns are near those from the degree lists.
use Rattle.std.proofs.Common.{◌≡◌, ℕ, zero, suc, ◌+◌, ◌-◌, ◌*◌, ◌<◌, ◌≤◌, ◌^◌, Bool, true, ltb, min, List, [], ◌∷◌, length, get_or, sum, refl, ap, sym, ◌∙◌, subst, arith}
use Rattle.std.specs.Prelude.{All, if◌then◌else◌}
use Rattle.std.specs.List.{AllByRecursion}
use Rattle.std.proofs.lemmas.Bool.{cond_both, lt-ltb, ltb-true}
use Rattle.std.proofs.lemmas.List.Elements.{All-from_recursion}
use Rattle.std.proofs.Math.Nat.{mul-le-mul_left}
use Rattle.degree_sequences.specs.Compression.{compressed, compressed_from, head_of_row}
use Rattle.degree_sequences.specs.Degrees.{degree_list}
use Rattle.degree_sequences.specs.Descending.{IsDescending}
use Rattle.degree_sequences.proofs.DegreeLists.{IsDescending-degree_list}
use Rattle.degree_sequences.proofs.FewRuns.{head_of_row_pos}
use Rattle.degree_sequences.proofs.Rearranged.{degree_list_positive}
use Rattle.entry_sets.specs.Sets.{entries_of_set}
use Rattle.berge_tree.specs.declared.edges.Edge.{Edge}
use Rattle.berge_tree.specs.Equalities.{places_of}
use Rattle.query_types.specs.declared.types.Query.{Query}
use Rattle.join_graph.specs.Conjuncts.{equalities_of}
use Rattle.tree_bounds.specs.SetBounds.{bound_of_set}
use Rattle.bound_fold.proofs.TestedSets.{each_in_set, each_named_column}
use Rattle.sql_meaning.specs.Tables.{Tables, row_counts}
use Rattle.level_bounds.specs.Keys.{Keys}
use Rattle.level_bounds.specs.WholeTables.{AreCompressed, keys_of, uncompressed}
use Rattle.level_bounds.proofs.NearWhole.{near}
use Rattle.set_bounds.proofs.SetBySet.{bound_of_sets_at}
use Rattle.filtered_lists.proofs.Lists.{list_without_own, rows_without_own}
use Rattle.entry_sets.proofs.Listing.{entry_below}
use Rattle.query_bounds.specs.Bounds.{entry_bounds, is_among, scan_list, scan_row_bound, set_bounds}
use Rattle.query_bounds.specs.Statistics.{AreOfWholeTables, Statistics}
use Rattle.query_bounds.proofs.Holding.{pair_at}
use Rattle.query_bounds.proofs.Sets.{both_among}

from_positive : (k : ℕ) (f : List ℕ) → IsDescending f → All (λ x. 0 < x) f → (n m : ℕ) → AllByRecursion (λ x. 0 < x) (compressed_from k f n m)
from_positive k f descends positive zero m = tt
from_positive k f descends positive (suc n) m =
    let next : ℕ = min (head_of_row k f m) (sum f - m) in
    cond_both (ltb m (sum f)) (next ∷ compressed_from k f n (m + next)) [] (AllByRecursion (λ x. 0 < x))
    (λ e. (omega (arith, ltb-true m (sum f) e, head_of_row_pos k f descends positive m (ltb-true m (sum f) e)), from_positive k f descends positive n (m + next)))
    (λ e. tt)

list_positive : (k : ℕ) (keys : List ℕ) → All (λ x. 0 < x) (compressed k (degree_list keys))
list_positive k keys =
    All-from_recursion (λ x. 0 < x) (compressed k (degree_list keys)) (from_positive k (degree_list keys) (IsDescending-degree_list keys) (degree_list_positive keys) (length (degree_list keys)) 0)

module _ (query : Query) (known : Statistics) (tables : Tables) (key : Keys) (accuracy : ℕ) (of_whole_tables : AreOfWholeTables query known tables key accuracy) where
  abbrev list_of : ℕ → ℕ → List ℕ
  list_of entry column = compressed accuracy (degree_list (keys_of tables key entry column))

  rows_are : (entry : ℕ) → entry < length query.from → (if ltb entry (length query.from) then scan_row_bound query known entry else 0) ≡ row_counts tables entry
  rows_are entry low =
      ap (λ (t : Bool). if t then scan_row_bound query known entry else 0) (lt-ltb entry (length query.from) low)
      ∙ rows_without_own (known.counts entry) entry query.conjuncts (of_whole_tables.unfiltered entry) ∙ of_whole_tables.counts entry low

  list_are : (entry column : ℕ) → is_among (places_of (equalities_of query)) entry column ≡ true → (known.lists entry column).whole ≡ list_of entry column
      → (if is_among (places_of (equalities_of query)) entry column then scan_list query known entry column else []) ≡ list_of entry column
  list_are entry column among is =
      ap (λ (t : Bool). if t then scan_list query known entry column else []) among
      ∙ list_without_own (known.lists entry column) entry query.conjuncts (of_whole_tables.unfiltered entry) (subst (All (λ x. 0 < x)) (sym is) (list_positive accuracy (keys_of tables key entry column))) ∙ is

  are_compressed : (subset : ℕ) → subset < 2 ^ length query.from → AreCompressed accuracy (entry_bounds query known) tables key (equalities_of query) subset
  are_compressed subset fits = record {
    rows = each_in_set (λ entry. (entry_bounds query known).rows entry ≡ row_counts tables entry) subset (λ k low has. rows_are k (entry_below (length query.from) subset k fits has));
    columns = each_named_column (λ entry column. (entry_bounds query known).list entry column ≡ list_of entry column) subset (equalities_of query) (λ k d low joins.
        let among = both_among (equalities_of query) k d low in
        let lists = pair_at (λ entry column. (known.lists entry column).whole ≡ list_of entry column) (equalities_of query) of_whole_tables.lists k d low in
        let e : Edge = get_or (equalities_of query) k d in
        (list_are e.left.entry e.left.column among.0 lists.0, list_are e.right.entry e.right.column among.1 lists.1));
  }

  pub near_whole : (subset : ℕ) → subset < 2 ^ length query.from
      → accuracy ^ length (entries_of_set subset) * get_or (set_bounds query known) subset 0
      ≤ (accuracy + 1) ^ length (entries_of_set subset) * bound_of_set (uncompressed tables key) (equalities_of query) subset
  near_whole subset fits =
      let within : get_or (set_bounds query known) subset 0 ≤ bound_of_set (entry_bounds query known) (equalities_of query) subset =
      omega (arith, bound_of_sets_at (entry_bounds query known) (equalities_of query) (length query.from) subset (set_bounds query known) refl fits) in
      omega (
        arith,
        mul-le-mul_left (accuracy ^ length (entries_of_set subset)) within,
        near tables key accuracy (entry_bounds query known) (equalities_of query) subset (are_compressed subset fits),
      )
