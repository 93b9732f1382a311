-- The lists of a file are in descending order: no element is greater than the element before it.
use Rattle.std.proofs.Common.{ℕ, zero, suc, eqb, List, [], ◌∷◌, length, get_or, inl, inr, arith}
use Rattle.std.specs.Prelude.{find, unwrap_or}
use Rattle.std.proofs.Common.{option_map}
use Rattle.std.specs.List.{All, AllByRecursion, list_any}
use Rattle.std.specs.Option.{option_map_or}
use Rattle.std.proofs.lemmas.Bool.{cases_Bool, cases_lt, cond_both}
use Rattle.std.proofs.lemmas.List.{get_or_past}
use Rattle.std.proofs.lemmas.List.Elements.{recursion_from_All}
use Rattle.cond_stats.specs.Leaves.{node_size}
use Rattle.column_stats.specs.Nodes.{node_place}
use Rattle.csv_tables.specs.Values.{Value}
use Rattle.degree_sequences.specs.Descending.{IsDescending}
use Rattle.stats_file_bounds.specs.Entries.{IsSectionOfSome}
use Rattle.stats_file_bounds.specs.FileStatistics.{stats_file_lists, list_of_one_key, paired_with, whole_by, whole_list}
use Rattle.stats_file_bounds.specs.Found.{pair_for}
use Rattle.stats_file_bounds.proofs.Finding.{each_pair}
use Rattle.stats_file_of_query.specs.Standing.{is_value, leaf_of_value, list_between, list_of_node, list_of_value}
use Rattle.filtered_lists.specs.Ranges.{Range}
use Rattle.filtered_lists.specs.Standing.{ListsDescend}
use Rattle.stats_file_of_query.specs.declared.needs.Needs.{Needs}
use Rattle.schema_types.specs.declared.types.Kind.{Kind}
use Rattle.stats_file.specs.declared.types.Datum.{Datum}
use Rattle.stats_file.specs.declared.types.PairStats.{PairStats}
use Rattle.stats_file.specs.declared.types.TableStats.{TableStats}
use Rattle.stats_file.specs.Rules.{IsList, IsPair, IsHistogramOf}

pub record PairListsDescend (pair : PairStats) : Type 0 where
  pub whole : IsDescending pair.whole
  pub value : (value : Value) → IsDescending (list_of_value pair value)
  pub node : (size leaf : ℕ) → IsDescending (list_of_node pair size leaf)

-- ---- the lists of a pair that keeps the rules

empty_descends : IsDescending []
empty_descends r = omega arith

single_descends : (x : ℕ) → IsDescending (x ∷ [])
single_descends x zero = omega arith
single_descends x (suc r) = omega arith

value_list_descends : (rows : ℕ) (value : Value) (frequent : List (Datum × List ℕ)) (rest : List ℕ) → AllByRecursion (λ (f : Datum × List ℕ). IsList rows f.1) frequent → IsDescending rest
    → IsDescending (option_map_or (λ (found : Datum × List ℕ). found.1) (find (λ (found : Datum × List ℕ). is_value value found.0) frequent) rest)
value_list_descends rows value [] rest all last = last
value_list_descends rows value (f ∷ frequent) rest all last = elim (cases_Bool (is_value value f.0)) [
  | inl e ↦ rw e all.0.descends
  | inr e ↦ rw e (value_list_descends rows value frequent rest all.1 last)
]

lists_descend : (rows : ℕ) (lists : List (List ℕ)) → All (IsList rows) lists → (i : ℕ) → IsDescending (get_or lists i [])
lists_descend rows lists all i = elim (cases_lt i (length lists)) [
  | inl there ↦ (all i [] there).descends
  | inr past ↦ rw (get_or_past lists i [] past) empty_descends
]

node_lists_descend : (kind : Kind) (rows : ℕ) (cuts : List Datum) (nodes : List (List ℕ)) → IsHistogramOf kind rows cuts nodes → (i : ℕ) → IsDescending (get_or nodes i [])
node_lists_descend kind zero cuts nodes is i = rw is.1 empty_descends
node_lists_descend kind (suc n) cuts nodes is i = lists_descend (suc n) nodes is.lists i

module _ (section : TableStats) (from_stats_file : IsSectionOfSome section) where
  pair_lists_descend : All PairListsDescend section.pairs
  pair_lists_descend i d i_in_range =
      let p : IsPair from_stats_file.is.table section.rows (get_or section.pairs i d) = from_stats_file.is.pairs i d i_in_range in
      let pair : PairStats = get_or section.pairs i d in
      record {
        whole = p.whole.descends;
        value = λ value. value_list_descends section.rows value pair.frequent pair.rest (recursion_from_All (λ (f : Datum × List ℕ). IsList section.rows f.1) pair.frequent p.frequent.lists) p.rest.descends;
        node = λ size leaf. node_lists_descend p.filter.kind section.rows pair.cuts pair.nodes p.tree (node_place size leaf);
      }

  pair_for_descends : (filter joined : ℕ) → PairListsDescend (pair_for section filter joined)
  pair_for_descends filter joined =
      each_pair PairListsDescend section pair_lists_descend (record { whole = empty_descends; value = λ value. empty_descends; node = λ size leaf. empty_descends }) filter joined

  -- ---- the lists of an entry

  one_key_list_descends : (rows : ℕ) → IsDescending (list_of_one_key rows)
  one_key_list_descends rows = cond_both (eqb rows 0) [] (rows ∷ []) IsDescending (λ e. empty_descends) (λ e. single_descends rows)

  whole_list_descends : (needs : Needs) (joined : ℕ) → IsDescending (whole_list section needs joined)
  whole_list_descends needs joined = by needs.filters
    where
      by : (filters : List ℕ) → IsDescending (whole_by section needs filters joined)
      by [] = cond_both (eqb (length needs.joined) 0) (list_of_one_key section.rows) (pair_for section joined joined).whole IsDescending
          (λ e. one_key_list_descends section.rows) (λ e. (pair_for_descends joined joined).whole)
      by (column ∷ columns) = (pair_for_descends column (paired_with needs joined column)).whole

  pub file_lists_descend : (needs : Needs) (joined : ℕ) → ListsDescend (stats_file_lists section needs joined)
  file_lists_descend needs joined = record {
    whole = whole_list_descends needs joined;
    equal = λ column value.
        cond_both (list_any (λ other. eqb column other) needs.filters) (list_of_value (pair_for section column (paired_with needs joined column)) value) (whole_list section needs joined) IsDescending
        (λ e. (pair_for_descends column (paired_with needs joined column)).value value) (λ e. whole_list_descends needs joined);
    range = λ range. range_falls range;
  }
    where
      range_falls : (range : Range) → IsDescending ((stats_file_lists section needs joined).range range)
      range_falls range =
          let pair : PairStats = pair_for section range.column (paired_with needs joined range.column) in
          let first : ℕ = unwrap_or (option_map (leaf_of_value pair) range.low) 0 in
          let last : ℕ = unwrap_or (option_map (leaf_of_value pair) range.high) 31 in
          cond_both (list_any (λ other. eqb range.column other) needs.filters) (list_between pair range.low range.high) (whole_list section needs joined) IsDescending
          (λ e. (pair_for_descends range.column (paired_with needs joined range.column)).node (node_size first last) first) (λ e. whole_list_descends needs joined)
