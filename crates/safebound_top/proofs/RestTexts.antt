-- The text of the output that is still pending (`PendingOutput`) is the text for out of the run (`out_text_of`).
use Rattle.std.proofs.Common.{◌≡◌, ℕ, List, length, map, refl, ap, sym, ◌∙◌}
use Rattle.std.specs.Prelude.{Option, Some}
use Rattle.csv_tables.specs.declared.types.Database.{Database}
use Rattle.query_types.specs.Named.{NamesItsEntries}
use Rattle.query_types.specs.declared.types.Query.{Query}
use Rattle.sql_meaning.specs.Answers.{selected}
use Rattle.sql_meaning.specs.Levels.{row_in}
use Rattle.sql_meaning.specs.Tables.{Tables, tables_of}
use Rattle.join_steps.specs.Lists.{list_levels}
use Rattle.printed_texts.specs.Texts.{rows_lines}
use Rattle.table_files.specs.EntryTables.{entry_rows, tables_in}
use Rattle.prepared_runs.specs.PreparedQuery.{AreOverLists, HasRoom, pending_plan, text_from, pending_text}
use Rattle.prepared_runs.specs.Shapes.{joined_entries, part_sizes, shape_audits}
use Rattle.safebound_top.specs.Texts.{out_text_of}
use Rattle.prepared_runs.specs.declared.prepare.PendingOutput.{PendingOutput}
use Rattle.prepared_runs.specs.declared.prepare.PendingOutput.TheVariants as rest
use Rattle.safebound_words.specs.declared.command.ListSource.{ListSource}
use Rattle.safebound_words.specs.declared.command.Shape.{Shape}
use Rattle.prepared_runs.proofs.ShapeFacts.{order_is}

pub rest_is : (query : Query) (db : Database) (source : ListSource) (lists : List (List ℕ)) (shape : Shape) (memory : Option ℕ) (left : PendingOutput) → NamesItsEntries query → tables_in (entry_rows db) ≡ tables_of db → HasRoom query db left → AreOverLists lists left
    → out_text_of (record { query = query; rows = entry_rows db; shape = shape; plan = pending_plan left; source = source; lists = lists; memory = memory; out = pending_text left }) ≡ text_from shape left query db
rest_is query db source lists shape memory (rest.Rows joins) own same room are =
    let order : List ℕ = joined_entries joins.room.plan in
    ap (λ (t : Tables). Some (rows_lines query.select (map (λ choice. selected query t (row_in order choice)) (list_levels query t lists order (length order))))) same
    ∙ ap (λ (last : List (List ℕ)). Some (rows_lines query.select (map (λ choice. selected query (tables_of db) (row_in order choice)) last)))
    (ap (λ (l : List (List ℕ)). list_levels query (tables_of db) l order (length order)) (sym are)
    ∙ room.rows.last own order (order_is query joins.room.plan room.room.plan_of.for_each_entry))
rest_is query db source lists shape memory (rest.Audit joins) own same room are =
    ap (λ (t : Tables). Some (shape_audits query.from shape joins.room.plan (part_sizes query t lists shape joins.room.plan))) same
    ∙ ap (λ (l : List (List ℕ)). Some (shape_audits query.from shape joins.room.plan (part_sizes query (tables_of db) l shape joins.room.plan))) (sym are)
rest_is query db source lists shape memory (rest.Nothing plan) own same room are = refl
