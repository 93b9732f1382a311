use Rattle.std.proofs.Common.{◌≡◌, ℕ, List, sum, sym, subst, ◌∙◌, Bool}
use Rattle.std.proofs.lemmas.Result.{IfOk-weaker}
use Rattle.degree_sequences.proofs.CompressedLists.{compressed_dominates}
use Rattle.cond_stats.specs.Columns.{cell_le}
use Rattle.cond_stats.specs.Rows.{joined_keys}
use Rattle.cond_stats.proofs.Sums.{sum-whole}
use Rattle.column_stats.specs.declared.stats.ColumnStats.{ColumnStats}
use Rattle.column_stats.specs.Pairs.{kind_of_column, rows_of_pair}
use Rattle.column_stats.specs.Promises.{GivesRangeLists, GivesValueLists, NodesDominate, RangesDominate, ValuesDominate, WholeDominates}
use Rattle.column_stats.specs.Stats.{IsValid, stats_of}
use Rattle.column_stats.proofs.GivenLists.{node_dominated, range_dominated, range_is, valid, value_dominated}
use Rattle.column_stats.proofs.Columns.{rows_are}
use Rattle.column_stats.proofs.FrequentLists.{value_is}
use Rattle.pair_tables.proofs.gathering.gather.Goals as goal

pub returns-clause-valid : goal.returns-clause-valid
returns-clause-valid c =
    let rows : List (ℕ × ℕ) = rows_of_pair c.args.cells.now c.args.filter c.args.joined in
    let stats : ColumnStats = stats_of c.args.pool.now (kind_of_column c.args.cells.now c.args.filter) c.args.accuracy rows in
    IfOk-weaker c.statistics_of_columns.result (λ s. s ≡ stats) IsValid
    (λ s e. subst IsValid (sym e) (valid c.args.pool.now (kind_of_column c.args.cells.now c.args.filter) c.args.accuracy rows)) c.statistics_of_columns.ensures

pub returns-clause-values : goal.returns-clause-values
returns-clause-values c =
    let rows : List (ℕ × ℕ) = rows_of_pair c.args.cells.now c.args.filter c.args.joined in
    let stats : ColumnStats = stats_of c.args.pool.now (kind_of_column c.args.cells.now c.args.filter) c.args.accuracy rows in
    IfOk-weaker c.statistics_of_columns.result (λ s. s ≡ stats) (GivesValueLists c.args.accuracy rows)
    (λ s e. subst (GivesValueLists c.args.accuracy rows) (sym e) (value_is c.args.pool.now (kind_of_column c.args.cells.now c.args.filter) c.args.accuracy rows)) c.statistics_of_columns.ensures

pub returns-clause-ranges : goal.returns-clause-ranges
returns-clause-ranges c =
    let rows : List (ℕ × ℕ) = rows_of_pair c.args.cells.now c.args.filter c.args.joined in
    let at_most : ℕ → ℕ → Bool = cell_le c.args.pool.now (kind_of_column c.args.cells.now c.args.filter) in
    let stats : ColumnStats = stats_of c.args.pool.now (kind_of_column c.args.cells.now c.args.filter) c.args.accuracy rows in
    IfOk-weaker c.statistics_of_columns.result (λ s. s ≡ stats) (GivesRangeLists at_most c.args.accuracy rows)
    (λ s e. subst (GivesRangeLists at_most c.args.accuracy rows) (sym e)
    (λ low high from to. range_is c.args.pool.now (kind_of_column c.args.cells.now c.args.filter) c.args.accuracy rows low high from)) c.statistics_of_columns.ensures

pub returns-clause-whole_never_under : goal.returns-clause-whole_never_under
returns-clause-whole_never_under c =
    let rows : List (ℕ × ℕ) = rows_of_pair c.args.cells.now c.args.filter c.args.joined in
    let stats : ColumnStats = stats_of c.args.pool.now (kind_of_column c.args.cells.now c.args.filter) c.args.accuracy rows in
    IfOk-weaker c.statistics_of_columns.result (λ s. s ≡ stats) (WholeDominates rows)
    (λ s e. subst (WholeDominates rows) (sym e) (compressed_dominates c.args.accuracy (joined_keys rows))) c.statistics_of_columns.ensures

pub returns-clause-whole_total : goal.returns-clause-whole_total
returns-clause-whole_total c =
    let rows : List (ℕ × ℕ) = rows_of_pair c.args.cells.now c.args.filter c.args.joined in
    let stats : ColumnStats = stats_of c.args.pool.now (kind_of_column c.args.cells.now c.args.filter) c.args.accuracy rows in
    IfOk-weaker c.statistics_of_columns.result (λ s. s ≡ stats) (λ s. sum s.whole ≡ c.args.cells.now.rows)
    (λ s e. subst (λ (s : ColumnStats). sum s.whole ≡ c.args.cells.now.rows) (sym e)
    (sum-whole c.args.accuracy rows ∙ rows_are c.args.pool.now c.args.cells.now c.args.filter c.args.joined c.requires.filter c.requires.joined)) c.statistics_of_columns.ensures

pub returns-clause-value_never_under : goal.returns-clause-value_never_under
returns-clause-value_never_under c =
    let rows : List (ℕ × ℕ) = rows_of_pair c.args.cells.now c.args.filter c.args.joined in
    let stats : ColumnStats = stats_of c.args.pool.now (kind_of_column c.args.cells.now c.args.filter) c.args.accuracy rows in
    IfOk-weaker c.statistics_of_columns.result (λ s. s ≡ stats) (ValuesDominate rows)
    (λ s e. subst (ValuesDominate rows) (sym e) (value_dominated c.args.pool.now (kind_of_column c.args.cells.now c.args.filter) c.args.accuracy rows)) c.statistics_of_columns.ensures

pub returns-clause-node_never_under : goal.returns-clause-node_never_under
returns-clause-node_never_under c =
    let rows : List (ℕ × ℕ) = rows_of_pair c.args.cells.now c.args.filter c.args.joined in
    let at_most : ℕ → ℕ → Bool = cell_le c.args.pool.now (kind_of_column c.args.cells.now c.args.filter) in
    let stats : ColumnStats = stats_of c.args.pool.now (kind_of_column c.args.cells.now c.args.filter) c.args.accuracy rows in
    IfOk-weaker c.statistics_of_columns.result (λ s. s ≡ stats) (NodesDominate at_most rows)
    (λ s e. subst (NodesDominate at_most rows) (sym e) (node_dominated c.args.pool.now (kind_of_column c.args.cells.now c.args.filter) c.args.accuracy rows)) c.statistics_of_columns.ensures

pub returns-clause-range_never_under : goal.returns-clause-range_never_under
returns-clause-range_never_under c =
    let rows : List (ℕ × ℕ) = rows_of_pair c.args.cells.now c.args.filter c.args.joined in
    let at_most : ℕ → ℕ → Bool = cell_le c.args.pool.now (kind_of_column c.args.cells.now c.args.filter) in
    let stats : ColumnStats = stats_of c.args.pool.now (kind_of_column c.args.cells.now c.args.filter) c.args.accuracy rows in
    IfOk-weaker c.statistics_of_columns.result (λ s. s ≡ stats) (RangesDominate at_most rows)
    (λ s e. subst (RangesDominate at_most rows) (sym e) (range_dominated c.args.pool.now (kind_of_column c.args.cells.now c.args.filter) c.args.accuracy rows)) c.statistics_of_columns.ensures
