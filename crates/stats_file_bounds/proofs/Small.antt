-- No list of a file counts more rows than a table may have.
use Rattle.std.proofs.Common.{ℕ, zero, suc, ◌≤◌, ◌^◌, eqb, leb, List, [], ◌∷◌, length, get_or, sum, option_map, refl, ap, inl, inr, arith}
use Rattle.std.specs.Prelude.{find, unwrap_or}
use Rattle.std.specs.Bool.{IsTrue}
use Rattle.std.specs.List.{All, AllByRecursion, list_any}
use Rattle.std.specs.Option.{option_map_or}
use Rattle.std.proofs.lemmas.Bool.{cases_Bool, cases_lt, cond_both, le-leb}
use Rattle.std.proofs.lemmas.List.{get_or_past}
use Rattle.std.proofs.lemmas.List.Elements.{recursion_from_All}
use Rattle.csv_tables.specs.Values.{Value}
use Rattle.cond_stats.specs.Leaves.{node_size}
use Rattle.column_stats.specs.Nodes.{node_place}
use Rattle.filtered_lists.specs.Ranges as ranges
use Rattle.predicate_bounds.specs.declared.steps.Step.{Step}
use Rattle.predicate_bounds.specs.declared.steps.Step.TheVariants as step
use Rattle.predicate_bounds.specs.ListRuns.{is_small, with_list}
use Rattle.predicate_bounds.specs.Steps.{range_of, value_of}
use Rattle.schema_types.specs.declared.types.Kind.{Kind}
use Rattle.stats_file.specs.declared.types.Datum.{Datum}
use Rattle.stats_file.specs.declared.types.PairStats.{PairStats}
use Rattle.stats_file.specs.declared.types.StatsFile.{StatsFile}
use Rattle.stats_file.specs.declared.types.TableStats.{TableStats}
use Rattle.stats_file.specs.Rules.{IsList, IsPair, IsHistogramOf}
use Rattle.stats_file_of_query.specs.declared.needs.Needs.{Needs}
use Rattle.stats_file_of_query.specs.Standing.{is_value, leaf_of_value, list_between, list_of_node, list_of_value}
use Rattle.stats_file_bounds.specs.Entries.{KeepsRulesOfSome, IsSectionOfSome}
use Rattle.stats_file_bounds.specs.FileStatistics.{stats_file_lists, list_of_one_key, paired_with, whole_by, whole_list}
use Rattle.stats_file_bounds.specs.Found.{no_pair, pair_for}
use Rattle.stats_file_bounds.proofs.Finding.{each_pair}

pub record IsWithin (rows : ℕ) (pair : PairStats) : Type 0 where
  pub whole : sum pair.whole ≤ rows
  pub value : (value : Value) → sum (list_of_value pair value) ≤ rows
  pub node : (size leaf : ℕ) → sum (list_of_node pair size leaf) ≤ rows
  pub cuts : length pair.cuts ≤ 32

-- ---- the lists of a pair that keeps the rules

value_within : (rows : ℕ) (value : Value) (frequent : List (Datum × List ℕ)) (rest : List ℕ) → AllByRecursion (λ (f : Datum × List ℕ). IsList rows f.1) frequent → IsList rows rest
    → sum (option_map_or (λ (found : Datum × List ℕ). found.1) (find (λ (found : Datum × List ℕ). is_value value found.0) frequent) rest) ≤ rows
value_within rows value [] rest all last = last.within
value_within rows value (f ∷ frequent) rest all last = elim (cases_Bool (is_value value f.0)) [
  | inl e ↦ rw e all.0.within
  | inr e ↦ rw e (value_within rows value frequent rest all.1 last)
]

lists_within : (rows : ℕ) (lists : List (List ℕ)) → All (IsList rows) lists → (i : ℕ) → sum (get_or lists i []) ≤ rows
lists_within rows lists all i = elim (cases_lt i (length lists)) [
  | inl there ↦ (all i [] there).within
  | inr past ↦ rw (get_or_past lists i [] past) (omega arith)
]

nodes_within : (kind : Kind) (rows : ℕ) (cuts : List Datum) (nodes : List (List ℕ)) → IsHistogramOf kind rows cuts nodes → (i : ℕ) → sum (get_or nodes i []) ≤ rows
nodes_within kind zero cuts nodes is i = rw is.1 (omega arith)
nodes_within kind (suc n) cuts nodes is i = lists_within (suc n) nodes is.lists i

cut_count_within_limit : (kind : Kind) (rows : ℕ) (cuts : List Datum) (nodes : List (List ℕ)) → IsHistogramOf kind rows cuts nodes → length cuts ≤ 32
cut_count_within_limit kind zero cuts nodes is = omega (arith, ap (λ (s : List Datum). length s) is.0)
cut_count_within_limit kind (suc n) cuts nodes is = omega (arith, is.leaves)

pub pair_within : (section : TableStats) → IsSectionOfSome section → All (IsWithin section.rows) section.pairs
pair_within section from_stats_file i d i_in_range =
    let p : IsPair from_stats_file.is.table section.rows (get_or section.pairs i d) = from_stats_file.is.pairs i d i_in_range in
    let pair : PairStats = get_or section.pairs i d in
    record {
      whole = p.whole.within;
      value = λ value. value_within section.rows value pair.frequent pair.rest (recursion_from_All (λ (f : Datum × List ℕ). IsList section.rows f.1) pair.frequent p.frequent.lists) p.rest;
      node = λ size leaf. nodes_within p.filter.kind section.rows pair.cuts pair.nodes p.tree (node_place size leaf);
      cuts = cut_count_within_limit p.filter.kind section.rows pair.cuts pair.nodes p.tree;
    }

no_pair_within : (rows : ℕ) → IsWithin rows no_pair
no_pair_within rows = record { whole = omega arith; value = λ value. omega arith; node = λ size leaf. omega arith; cuts = omega arith }

pub pair_for_within : (section : TableStats) → IsSectionOfSome section → (filter joined : ℕ) → IsWithin section.rows (pair_for section filter joined)
pair_for_within section from_stats_file filter joined = each_pair (IsWithin section.rows) section (pair_within section from_stats_file) (no_pair_within section.rows) filter joined

-- ---- the lists of an entry

one_key_within : (rows : ℕ) → sum (list_of_one_key rows) ≤ rows
one_key_within rows = cond_both (eqb rows 0) [] (rows ∷ []) (λ s. sum s ≤ rows) (λ e. omega arith) (λ e. omega arith)

pub whole_within : (section : TableStats) → IsSectionOfSome section → (needs : Needs) (joined : ℕ) → sum (whole_list section needs joined) ≤ section.rows
whole_within section from_stats_file needs joined = by needs.filters
  where
    by : (filters : List ℕ) → sum (whole_by section needs filters joined) ≤ section.rows
    by [] = cond_both (eqb (length needs.joined) 0) (list_of_one_key section.rows) (pair_for section joined joined).whole (λ s. sum s ≤ section.rows)
        (λ e. one_key_within section.rows) (λ e. (pair_for_within section from_stats_file joined joined).whole)
    by (column ∷ columns) = (pair_for_within section from_stats_file column (paired_with needs joined column)).whole

sum_within_limit : (section : TableStats) → IsSectionOfSome section → (s : List ℕ) → sum s ≤ section.rows → IsTrue (leb (sum s) (2 ^ 32))
sum_within_limit section from_stats_file s within = le-leb (sum s) (2 ^ 32) (omega (arith, within, from_stats_file.is.rows))

pub step_small : (section : TableStats) → IsSectionOfSome section → (needs : Needs) (joined : ℕ) (s : Step) → IsTrue (is_small (with_list (stats_file_lists section needs joined) s))
step_small section from_stats_file needs joined step.Whole = sum_within_limit section from_stats_file (whole_list section needs joined) (whole_within section from_stats_file needs joined)
step_small section from_stats_file needs joined (step.Equal column literal) =
    sum_within_limit section from_stats_file ((stats_file_lists section needs joined).equal column (value_of literal))
    (cond_both (list_any (λ other. eqb column other) needs.filters) (list_of_value (pair_for section column (paired_with needs joined column)) (value_of literal)) (whole_list section needs joined)
    (λ s. sum s ≤ section.rows) (λ e. (pair_for_within section from_stats_file column (paired_with needs joined column)).value (value_of literal)) (λ e. whole_within section from_stats_file needs joined))
step_small section from_stats_file needs joined (step.Within range) =
    let r : ranges.Range = range_of range in
    let pair : PairStats = pair_for section r.column (paired_with needs joined r.column) in
    let first : ℕ = unwrap_or (option_map (leaf_of_value pair) r.low) 0 in
    let last : ℕ = unwrap_or (option_map (leaf_of_value pair) r.high) 31 in
    sum_within_limit section from_stats_file ((stats_file_lists section needs joined).range r)
    (cond_both (list_any (λ other. eqb r.column other) needs.filters) (list_between pair r.low r.high) (whole_list section needs joined) (λ s. sum s ≤ section.rows)
    (λ e. (pair_for_within section from_stats_file r.column (paired_with needs joined r.column)).node (node_size first last) first) (λ e. whole_within section from_stats_file needs joined))
step_small section from_stats_file needs joined step.And = refl
step_small section from_stats_file needs joined step.NoRows = refl
step_small section from_stats_file needs joined step.Or = refl

pub sections_keep_rules : (file : StatsFile) → KeepsRulesOfSome file → All IsSectionOfSome file.tables
sections_keep_rules file is i d i_in_range = record { schema = is.schema; is = is.keeps.tables i d i_in_range }
