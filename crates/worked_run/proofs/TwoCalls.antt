-- One call wrote a statistics file, and another call read it. The law on two such calls (of safebound_laws) is applied to these calls.
use Rattle.std.proofs.Common.{◌≡◌, ℕ, false, List, None, Some, Ok, refl, ap, sym, ◌∙◌, subst}
use Rattle.std.specs.Prelude.{codes}
use Rattle.base_io.specs.Files.{Files, file_of}
use Rattle.safebound_laws.proofs.DoneRun.{same_some}
use Rattle.safebound_laws.proofs.Planned.{plan_holds}
use Rattle.safebound_laws.specs.FileCalls.{PlannedFrom, TookExactly, WroteStats}
use Rattle.safebound_laws.specs.FilePlans.{PlanHolds}
use Rattle.outcomes.specs.declared.status.Status.TheVariants as status
use Rattle.schema_types.specs.Texts.{IsSchemaOf}
use Rattle.table_files.specs.Examples.{two_tables}
use Rattle.safebound_words.specs.Answer.{command_of, kind_of_word, parts_from, reading_of}
use Rattle.safebound_words.specs.CommandLines.{AskFor}
use Rattle.safebound_words.specs.Commands.{over_query, terms_by}
use Rattle.safebound_words.specs.Numbers.{number_of}
use Rattle.safebound_words.specs.Table.{over_files}
use Rattle.safebound_words.specs.declared.command.Command.{Command}
use Rattle.safebound_words.specs.declared.command.QueryTask.TheVariants as query_tasks
use Rattle.safebound_words.proofs.Readings.{computed_asked}
use Rattle.safebound_top.proofs.Promises.{declares}
use Rattle.safebound_top.specs.Call.{Call}
use Rattle.safebound_top.specs.Headline.{Headline}
use Rattle.safebound_top.specs.Promise.{DeclaresSchema, IsTheOne}
use Rattle.worked_run.specs.TwoCalls.{plan_call, stats_call}
use Rattle.worked_run.specs.TwoTables.{from_file_words, schema_text, small_files, stats_text, stats_words}
use Rattle.worked_run.proofs.Verdicts.{schema_found}

abbrev stats_command : Command
stats_command = over_query None (codes "schema.sql") (codes "query.sql") (query_tasks.WriteStats 1)

abbrev plan_command : Command
plan_command = over_query None (codes "schema.sql") (codes "query.sql") (query_tasks.PlanFromStats (codes "rs.stats") (terms_by 1000000 false None))

stats_asked : command_of stats_words ≡ Some stats_command
unfolding command_of reading_of over_files parts_from kind_of_word number_of
stats_asked = refl

plan_asked : command_of from_file_words ≡ Some plan_command
unfolding command_of reading_of over_files parts_from kind_of_word number_of
plan_asked = refl

words_ask_for_command : (words these : List (List ℕ)) (command : Command) → words ≡ these → command_of these ≡ Some command → AskFor words command
words_ask_for_command words these command same computed = computed_asked words command (ap command_of same ∙ computed)

schema_declared : DeclaresSchema small_files (codes "schema.sql") two_tables
schema_declared = declares (codes "schema.sql") small_files two_tables schema_found

-- the text of the schema declares these two tables and no other schema, whatever file has this text
said_by_text : IsTheOne (λ s. IsSchemaOf schema_text (Ok s)) two_tables
said_by_text =
    let here : file_of small_files (codes "schema.sql") ≡ Some schema_text = refl in
    subst (λ (t : List ℕ). IsTheOne (λ s. IsSchemaOf t (Ok s)) two_tables) (same_some schema_declared.text schema_text (sym schema_declared.there ∙ here)) schema_declared.declares

pub holds_by_bytes : (made planned : Call) (files : Files) → Headline made → made.words ≡ stats_words → made.status ≡ status.Done
    → made.store.files ≡ Some small_files → TookExactly made.out stats_text
    → Headline planned → planned.words ≡ from_file_words → planned.status ≡ status.Done → planned.store.files ≡ Some files
    → file_of files (codes "schema.sql") ≡ Some schema_text → file_of files (codes "rs.stats") ≡ Some stats_text
    → PlanHolds (stats_call made) (plan_call planned files) two_tables
holds_by_bytes made planned files head words done told took later_head later_words later_done later_told schema there =
    let wrote : WroteStats (stats_call made) two_tables stats_text = record {
      done = record { headline = head; asked = words_ask_for_command made.words stats_words stats_command words stats_asked; done = done; told = told };
      declares = schema_declared;
      wrote = took;
    } in
    let from : PlannedFrom two_tables stats_text (plan_call planned files) = record {
      done = record { headline = later_head; asked = words_ask_for_command planned.words from_file_words plan_command later_words plan_asked; done = later_done; told = later_told };
      declares = record { text = schema_text; there = schema; declares = said_by_text };
      there = there;
    } in
    plan_holds two_tables stats_text (stats_call made) (plan_call planned files) wrote from
