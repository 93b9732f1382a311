use Rattle.std.proofs.Common.{◌≡◌, ℕ, List, map, ap, ◌∙◌}
use Rattle.std.specs.Prelude.{slice_index}
use Rattle.std.proofs.lemmas.Result.{IfOk-weaker}
use Rattle.degree_sequences.specs.Compression.{compressed}
use Rattle.degree_sequences.specs.Degrees.{degree_list}
use Rattle.cond_stats.specs.Lists.{compressed_degrees}
use Rattle.filtered_lists.specs.Standing.{value_in_row}
use Rattle.sql_meaning.specs.Tables.{tables_of}
use Rattle.table_stats.specs.Columns.{as_first_rows}
use Rattle.reduced_scans.specs.Lists.{column_of}
use Rattle.join_steps.specs.Columns.{column_cells}
use Rattle.planning.proofs.SameDegrees.{list_is}
use Rattle.planning.proofs.lists.column_list.Goals as goal

pub returns-clause-exact : goal.returns-clause-exact
returns-clause-exact c =
    let db = c.args.db.now in
    let rows : List ℕ = c.args.rows.now in
    let keys_are : c.as_slice.result.now ≡ map (slice_index (column_cells db (column_of c.args.place))) rows =
    c.as_slice.ensures ∙ c.load_cells.ensures.keys ∙ ap (λ (cells : List ℕ). map (slice_index cells) rows) c.cells_of_column.ensures.cells in
    let degrees_are : c.as_slice-2.result.now ≡ degree_list c.as_slice.result.now = c.as_slice-2.ensures ∙ c.in_ok-degrees.ensures.counts in
    IfOk-weaker c.compress.result (λ list. list ≡ compressed c.args.accuracy c.as_slice-2.result.now)
    (λ list. list ≡ compressed_degrees c.args.accuracy (as_first_rows (map (value_in_row (tables_of db) c.args.place.entry c.args.place.column) rows)))
    (λ list is. list_is db c.requires.tables c.characters_differ.ensures (column_of c.args.place) c.requires.column rows c.requires.rows c.args.accuracy c.as_slice.result.now c.as_slice-2.result.now list
    keys_are degrees_are is)
    c.compress.ensures.compressed
