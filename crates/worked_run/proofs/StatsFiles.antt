-- The statistics file of the small tables, a plan from it, and the statistics file after rows are appended.
use Rattle.std.proofs.Common.{◌≡◌, ℕ, false, List, [], ◌∷◌, None, Some, Result, Ok, refl, ap, sym, ◌∙◌, subst, arith}
use Rattle.std.specs.Fmt.{digits}
use Rattle.std.specs.Prelude.{codes}
use Rattle.std.specs.Str.{chars, is_utf8}
use Rattle.csv.specs.Reading.{strip_bom}
use Rattle.csv.proofs.OnLiterals.{csv_on_literals}
use Rattle.cond_stats.specs.Leaves.{cuts}
use Rattle.cond_stats.specs.Lists.{list_of_node, rest}
use Rattle.csv_tables.specs.Files.{rows_in_records, rows_of_file, rows_under_header}
use Rattle.csv_tables.specs.Rows.{Row}
use Rattle.stats_file_of_query.proofs.Rules.{file_keeps}
use Rattle.stats_file_of_query.specs.Files.{file_of_query}
use Rattle.join_graph.specs.Conjuncts.{column_operand}
use Rattle.join_graph.proofs.Comparing.{equality_two}
use Rattle.limits.specs.Profile.{most_file}
use Rattle.outcomes.specs.Errors.{stats_refusal, table_refusal}
use Rattle.outcomes.specs.Reads.{◌>>=◌, mapped, with_refusal}
use Rattle.outcomes.specs.declared.names.FileId.TheVariants as file_id
use Rattle.outcomes.specs.declared.refusal.Refusal.{Refusal}
use Rattle.query_bounds.specs.Examples.{two_table_query}
use Rattle.query_grammar.specs.declared.tree.Op.TheVariants as op
use Rattle.query_types.proofs.CondFacts.{entries_compare}
use Rattle.query_types.specs.declared.types.Query.{Query}
use Rattle.schema_types.proofs.Valid.{declares_valid}
use Rattle.schema_types.specs.Validity.{IsValid}
use Rattle.schema_types.specs.declared.types.Schema.{Schema}
use Rattle.sql_meaning.specs.Tables.{Tables, tables_of}
use Rattle.stats_answers.proofs.ByteNames.{declared_bytes}
use Rattle.stats_answers.proofs.StatsAnswers.{written_file_is_read}
use Rattle.stats_answers.specs.StatsTexts.{stats_answer}
use Rattle.stats_file.specs.FileText.{file_lines, file_text, pair_lines, table_lines}
use Rattle.stats_file.specs.Rules.{KeepsRules}
use Rattle.stats_file.specs.Runs.{runs_of}
use Rattle.stats_file.specs.declared.types.StatsFile.{StatsFile}
use Rattle.stats_file.specs.declared.types.TableStats.{TableStats}
use Rattle.table_files.specs.EntryTables.{tables_in}
use Rattle.table_files.specs.Examples.{numbers_table, two_tables}
use Rattle.table_files.specs.TableFile.{read, rows_in}
use Rattle.safebound_words.specs.Answer.{command_of, kind_of_word, parts_from, reading_of}
use Rattle.safebound_words.specs.Commands.{over_query, terms_by, append_command}
use Rattle.safebound_words.specs.Numbers.{number_of}
use Rattle.safebound_words.specs.Table.{over_files}
use Rattle.safebound_words.specs.declared.command.SchemaTask.TheVariants as schema_tasks
use Rattle.safebound_words.specs.declared.command.NewRows.{NewRows}
use Rattle.safebound_words.specs.declared.command.OutText.TheVariants as out_texts
use Rattle.safebound_words.specs.declared.command.QueryTask.TheVariants as query_tasks
use Rattle.prepared_runs.specs.Appending.{append_run, grown_stage, rows_run, section_stage, stats_run}
use Rattle.prepared_runs.specs.StatsFiles.{stats_stage, stats_file_of_tables}
use Rattle.prepared_runs.specs.RunOutcome.{StatsMade}
use Rattle.prepared_runs.specs.Verdict.{schema_task_run, command_run, command_stage, verdict, query_task_run}
use Rattle.safebound_laws.proofs.Alike.{files_alike}
use Rattle.safebound_laws.proofs.Databases.{DatabaseFound, database_found}
use Rattle.safebound_laws.specs.Printed.{both_texts}
use Rattle.safebound_top.proofs.Promises.{declares, query_of_schema}
use Rattle.safebound_top.specs.OutcomeTexts.{out_text}
use Rattle.safebound_top.specs.Promise.{DeclaresSchema}
use Rattle.worked_run.specs.Meaning.{rows_of, section, small_appended, small_stats_file, small_rows, small_stats}
use Rattle.worked_run.specs.TwoTables.{append_words, from_file_words, grown_r_stats, grown_text, new_text, r_cuts, r_stats, s_stats, small_files, stats_text, stats_words}
use Rattle.worked_run.proofs.Levels.{notes_text}
use Rattle.worked_run.proofs.Verdicts.{verdict_is_command_run, plan_of_tables_verdict, query_found, schema_found, tables_found}

abbrev new_rows : NewRows
new_rows = record { stats_file = codes "rs.stats"; table = codes "R"; rows_file = codes "new.csv" }

-- ---- the words are read

stats_asked : command_stage stats_words ≡ Ok (over_query None (codes "schema.sql") (codes "query.sql") (query_tasks.WriteStats 1))
unfolding command_of reading_of over_files parts_from kind_of_word number_of
stats_asked = refl

from_file_asked : command_stage from_file_words ≡ Ok (over_query None (codes "schema.sql") (codes "query.sql") (query_tasks.PlanFromStats (codes "rs.stats") (terms_by 1000000 false None)))
unfolding command_of reading_of over_files parts_from kind_of_word number_of
from_file_asked = refl

append_asked : command_stage append_words ≡ Ok (append_command (codes "schema.sql") new_rows)
unfolding command_of reading_of over_files parts_from kind_of_word number_of
append_asked = refl

-- ---- the statistics file of both tables

file_found : file_of_query two_tables two_table_query (tables_in small_rows) 1 ≡ small_stats
file_found = rw (entries_compare op.Eq (column_operand 0 0) (column_operand 1 0), equality_two 0 0 1 0 (λ e. absurd (omega (arith, e)))) refl

file_made : command_run (over_query None (codes "schema.sql") (codes "query.sql") (query_tasks.WriteStats 1)) small_files ≡ Ok small_stats_file
unfolding command_run
file_made =
    ap (λ (schema : Result Schema Refusal). schema >>= λ s. schema_task_run (schema_tasks.Query (codes "query.sql") (query_tasks.WriteStats 1)) s small_files) schema_found
    ∙ ap (λ (query : Result Query Refusal). query >>= λ q. query_task_run (query_tasks.WriteStats 1) two_tables q small_files) query_found
    ∙ ap (λ (rows : Result (List (List Row)) Refusal). rows >>= λ rows. Ok (stats_file_of_tables two_tables two_table_query rows 1)) tables_found
    ∙ ap (λ (f : StatsFile). Ok (StatsMade (record { schema = two_tables; query = two_table_query; rows = small_rows; file = f }))) file_found

pub stats_verdict : verdict stats_words small_files ≡ Ok small_stats_file
stats_verdict = verdict_is_command_run stats_words (over_query None (codes "schema.sql") (codes "query.sql") (query_tasks.WriteStats 1)) stats_asked ∙ file_made

text_of_stats_is : file_text two_tables small_stats ≡ stats_text
unfolding file_lines table_lines pair_lines runs_of digits cuts list_of_node rest r_cuts r_stats s_stats stats_text
text_of_stats_is = refl

pub stats_printed : out_text small_stats_file ≡ Some stats_text
stats_printed = ap (λ (t : List ℕ). Some t) text_of_stats_is

-- ---- a plan from the statistics file

stats_file_is_there : read file_id.Stats most_file (codes "rs.stats") small_files ≡ Ok stats_text
unfolding stats_text r_stats r_cuts s_stats
stats_file_is_there = refl

from_file_prints_as_from_tables : mapped both_texts (command_run (over_query None (codes "schema.sql") (codes "query.sql") (query_tasks.PlanFromStats (codes "rs.stats") (terms_by 1000000 false None))) small_files)
    ≡ Ok (Some (codes "scan R 6\nscan S 5\nlevel 1 S 5\nlevel 2 R 12\n"), None)
from_file_prints_as_from_tables =
    files_alike (codes "schema.sql") (codes "query.sql") (codes "rs.stats") 1 (terms_by 1000000 false None) small_files small_stats_file stats_text (omega arith) (omega arith) file_made stats_printed stats_file_is_there
    ∙ ap (mapped both_texts) plan_of_tables_verdict ∙ ap (λ (t : List ℕ). Ok (Some t, None)) (notes_text out_texts.Nothing)

pub plan_printed : mapped both_texts (verdict from_file_words small_files) ≡ Ok (Some (codes "scan R 6\nscan S 5\nlevel 1 S 5\nlevel 2 R 12\n"), None)
plan_printed =
    ap (mapped both_texts) (verdict_is_command_run from_file_words (over_query None (codes "schema.sql") (codes "query.sql") (query_tasks.PlanFromStats (codes "rs.stats") (terms_by 1000000 false None))) from_file_asked) ∙ from_file_prints_as_from_tables

-- ---- the statistics file after new rows are appended

schema_declared : DeclaresSchema small_files (codes "schema.sql") two_tables
schema_declared = declares (codes "schema.sql") small_files two_tables schema_found

schema_is_valid : IsValid two_tables
schema_is_valid = declares_valid schema_declared.text two_tables schema_declared.declares.is

stats_keep_rules : KeepsRules two_tables small_stats
stats_keep_rules =
    let found : DatabaseFound two_tables two_table_query small_rows =
    database_found two_tables two_table_query small_files small_rows schema_is_valid (query_of_schema (codes "query.sql") small_files two_tables two_table_query query_found) tables_found in
    let tables : tables_of found.database ≡ tables_in small_rows = sym (ap tables_in found.rows_are ∙ found.tables_are) in
    subst (KeepsRules two_tables) (ap (λ (t : Tables). file_of_query two_tables two_table_query t 1) tables ∙ file_found)
    (file_keeps two_tables two_table_query found.database found.over 1 (omega arith) (omega arith))

file_read : stats_stage (codes "rs.stats") two_tables small_files ≡ Ok small_stats
unfolding stats_stage
file_read =
    ap (λ (text : Result (List ℕ) Refusal). text >>= λ t. with_refusal stats_refusal (stats_answer two_tables t)) stats_file_is_there
    ∙ ap (λ (t : List ℕ). with_refusal stats_refusal (stats_answer two_tables t)) (sym text_of_stats_is)
    ∙ ap (with_refusal stats_refusal) (written_file_is_read two_tables small_stats schema_is_valid (declared_bytes schema_declared.text two_tables schema_declared.declares.is) stats_keep_rules)

section_found : section_stage (codes "R") two_tables small_stats ≡ Ok (section 0 6)
unfolding section_stage
section_found = refl

new_rows_are_read : rows_of_file (numbers_table (codes "R")) new_text ≡ Ok (rows_of (1 ∷ 4 ∷ []))
unfolding csv_on_literals strip_bom rows_of_file rows_in_records rows_under_header chars is_utf8 lib.Utf8.encode new_text
new_rows_are_read = refl

rows_found : rows_in 0 (numbers_table (codes "R")) (codes "new.csv") small_files ≡ Ok (rows_of (1 ∷ 4 ∷ []))
unfolding new_text
rows_found = ap (with_refusal (table_refusal 0)) new_rows_are_read

grown_within_limits : grown_stage two_tables small_stats 0 6 (rows_of (1 ∷ 4 ∷ [])) ≡ Ok small_appended
unfolding grown_stage
grown_within_limits = refl

append_made : command_run (append_command (codes "schema.sql") new_rows) small_files ≡ Ok small_appended
unfolding command_run append_run stats_run rows_run
append_made =
    ap (λ (schema : Result Schema Refusal). schema >>= λ s. schema_task_run (schema_tasks.Append new_rows) s small_files) schema_found
    ∙ ap (λ (stats : Result StatsFile Refusal). stats >>= λ f. stats_run new_rows two_tables f small_files) file_read
    ∙ ap (λ (found : Result TableStats Refusal). found >>= λ s. rows_run (codes "new.csv") two_tables small_stats s.table s.rows small_files) section_found
    ∙ ap (λ (rows : Result (List Row) Refusal). rows >>= grown_stage two_tables small_stats 0 6) rows_found
    ∙ grown_within_limits

pub append_verdict : verdict append_words small_files ≡ Ok small_appended
append_verdict = verdict_is_command_run append_words (append_command (codes "schema.sql") new_rows) append_asked ∙ append_made

pub append_printed : out_text small_appended ≡ Some grown_text
unfolding file_lines table_lines pair_lines runs_of digits cuts list_of_node rest r_cuts grown_r_stats s_stats grown_text
append_printed = refl
