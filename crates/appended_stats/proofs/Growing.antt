-- If a file keeps its rules and has room for the new rows, then each of its pairs may grow (`MayGrow`).
use Rattle.std.proofs.Common.{ℕ, zero, suc, ◌+◌, ◌<◌, ◌≤◌, ◌^◌, List, length, get_or, sum, ap, arith}
use Rattle.std.specs.List.{All}
use Rattle.limits.specs.Profile.{most_rows}
use Rattle.csv_tables.specs.Cells.{AreCellsOf}
use Rattle.csv_tables.specs.declared.types.Cells.{Cells}
use Rattle.schema_types.specs.declared.types.Kind.{Kind}
use Rattle.schema_types.specs.declared.types.Schema.{Schema}
use Rattle.schema_types.specs.declared.types.Table.{Table}
use Rattle.stats_file.specs.declared.types.Datum.{Datum}
use Rattle.stats_file.specs.declared.types.PairStats.{PairStats}
use Rattle.stats_file.specs.declared.types.StatsFile.{StatsFile}
use Rattle.stats_file.specs.declared.types.TableStats.{TableStats}
use Rattle.stats_file.specs.Rules.{IsPair, IsSection, IsHistogramOf}
use Rattle.appended_stats.specs.Conditions.{MayAppend, MayGrow, MayGrowWhere}
use Rattle.appended_stats.proofs.PairKept.{nodes_all}
use Rattle.appended_stats.proofs.FileKept.{has_filter, has_joined, its_cells}

at_most_32_cuts : (kd : Kind) (n : ℕ) (cuts : List Datum) (nodes : List (List ℕ)) → IsHistogramOf kd n cuts nodes → length cuts ≤ 32
at_most_32_cuts kd zero cuts nodes is = omega (arith, ap (λ (s : List Datum). length s) is.0)
at_most_32_cuts kd (suc n) cuts nodes is = omega (arith, is.leaves)

node_sums_below_2_32 : (kd : Kind) (n : ℕ) (cuts : List Datum) (nodes : List (List ℕ)) → n < 2 ^ 32 → IsHistogramOf kd n cuts nodes → All (λ (list : List ℕ). sum list < 2 ^ 32) nodes
node_sums_below_2_32 kd zero cuts nodes within_limit is = λ i d low. absurd (omega (arith, low, ap (λ (s : List (List ℕ)). length s) is.1))
node_sums_below_2_32 kd (suc n) cuts nodes within_limit is = λ i d low. omega (arith, (is.lists i d low).within, within_limit)

module _ (schema : Schema) (file : StatsFile) (table : ℕ) (texts : List (List ℕ)) (cells : Cells) (may : MayAppend schema file table texts cells) where
  pair_may_grow : (t : Table) (n : ℕ) (pair : PairStats) → AreCellsOf t texts cells → n + cells.rows ≤ most_rows → IsPair t n pair → MayGrow cells n pair
  pair_may_grow t n pair of room is = record {
    filter = has_filter texts may.differ may.utf8 t cells of file.accuracy n pair is;
    joined = has_joined texts may.differ may.utf8 t cells of file.accuracy n pair is;
    rows = omega (arith, room);
    cuts = at_most_32_cuts is.filter.kind n pair.cuts pair.nodes is.tree;
    whole = omega (arith, is.whole.within, room);
    rest = omega (arith, is.rest.within, room);
    frequent = λ i d low. omega (arith, (is.frequent.lists i d low).within, room);
    nodes = node_sums_below_2_32 is.filter.kind n pair.cuts pair.nodes (omega (arith, room)) is.tree;
    node_count = λ some. nodes_all is.filter.kind n pair.cuts pair.nodes some is.tree;
  }

  pub all_sections_may_grow : All (MayGrowWhere table cells) file.tables
  all_sections_may_grow i d low its =
      let section : TableStats = get_or file.tables i d in
      let is : IsSection schema section = may.rules.tables i d low in
      let of : AreCellsOf is.table texts cells = its_cells schema file table texts cells may section is its in
      let room : section.rows + cells.rows ≤ most_rows = may.room i d low its in record {
        room = omega (arith, room);
        pairs = λ j e below. pair_may_grow is.table section.rows (get_or section.pairs j e) of room (is.pairs j e below);
      }
