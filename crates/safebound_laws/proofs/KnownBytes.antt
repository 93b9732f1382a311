-- What is known about the bytes of a statistics file after `stats` wrote them, and after each append.
use Rattle.std.proofs.Common.{◌≡◌, ℕ, ◌<◌, ◌≤◌, ◌==◌, ◌++◌, cond, List, [], ◌∷◌, length, Option, None, Some, option_map, Ok, inl, inr, refl, ap, sym, ◌∙◌, subst, append_assoc, append-nil}
use Rattle.std.specs.List.{filter_map, flat_map, range_with_len}
use Rattle.std.proofs.Math.Path.{fun_ext}
use Rattle.std.proofs.lemmas.Bool.{cases_Bool, eqb-true}
use Rattle.std.proofs.lemmas.Option.{slice_get-get_or}
use Rattle.appended_stats.specs.Conditions.{HasNewRows}
use Rattle.csv_tables.specs.Rows.{Row}
use Rattle.csv_tables.specs.declared.types.Database.{Database}
use Rattle.stats_file_of_query.proofs.Finding.{found_in}
use Rattle.stats_file_of_query.proofs.Rules.{file_keeps}
use Rattle.stats_file_of_query.proofs.Standing.{file_stands, share_rows}
use Rattle.stats_file_of_query.specs.Databases.{FitsQueryAndTexts}
use Rattle.stats_file_of_query.specs.Files.{file_of_query, first_entry, section_of_table}
use Rattle.stats_file_of_query.specs.Needs.{table_of}
use Rattle.stats_file_of_query.specs.Standing.{StandsFor, section_of}
use Rattle.level_bounds.proofs.Lists.{from_filter_map}
use Rattle.limits.specs.Profile.{most_accuracy}
use Rattle.query_types.specs.Validity.{IsQueryOf}
use Rattle.query_types.specs.declared.types.Query.{Query}
use Rattle.safebound_words.specs.Commands.{over_query, append_command}
use Rattle.safebound_words.specs.declared.command.Command.{Command}
use Rattle.safebound_words.specs.declared.command.QueryTask.TheVariants as query_tasks
use Rattle.schema_types.specs.Validity.{IsValid}
use Rattle.schema_types.specs.declared.types.Schema.{Schema}
use Rattle.sql_meaning.specs.Tables.{Tables, tables_of}
use Rattle.stats_file.specs.FileText.{file_text}
use Rattle.stats_file.specs.Rules.{KeepsRules}
use Rattle.stats_file.specs.declared.types.StatsFile.{StatsFile}
use Rattle.stats_file.specs.declared.types.TableStats.{TableStats}
use Rattle.table_files.specs.EntryTables.{tables_in}
use Rattle.table_files.specs.Stage.{no_table, table_at, table_rows, tables_stage}
use Rattle.table_files.proofs.StagedFiles.{entries_are}
use Rattle.prepared_runs.specs.Appending.{is_of_table}
use Rattle.prepared_runs.specs.StatsFiles.{stats_stage, stats_file_of_tables}
use Rattle.prepared_runs.specs.RunOutcome.{RunOutcome}
use Rattle.prepared_runs.specs.Verdict.{query_stage}
use Rattle.safebound_laws.specs.Appends.{GrowsByFile}
use Rattle.safebound_laws.proofs.Alike.{FileMade, file_made}
use Rattle.safebound_laws.proofs.AppendFacts.{append_stands, append_run_grows}
use Rattle.safebound_laws.proofs.Databases.{DatabaseFound, database_found}
use Rattle.safebound_top.proofs.Promises.{query_of_schema}
use Rattle.safebound_top.specs.Headline.{GrewWhole}
use Rattle.safebound_top.specs.OutcomeTexts.{out_text}
use Rattle.safebound_laws.specs.FileCalls.{AppendCall, EachReadsTheBytesBefore, AppendedTo, StatsCall, WroteStats, last_bytes}
use Rattle.safebound_laws.specs.OtherQueries.{IsOfTables}
use Rattle.safebound_laws.specs.FilePlans.{EachAddsRowsOfFile, AddedRows, AddsRowsOfFile, with_added_rows}
use Rattle.safebound_laws.proofs.Appended.{after_keeps, its_section, rows_read, section_before, table_there}
use Rattle.safebound_laws.proofs.DoneRun.{byte_columns, done_run_of_call, is_valid, ranges, same_schema, stats_read_are_written, took_text}

pub record AreBytesOfStandingFile (schema : Schema) (query : Query) (bytes : List ℕ) (tables : Tables) : Type 0 where
  pub file : StatsFile
  pub is : bytes ≡ file_text schema file
  pub keeps : KeepsRules schema file
  pub stands : StandsFor query file tables
  pub of : IsOfTables query file

-- ---- the bytes that `stats` wrote

option_map_is_some : {A B : Type 0} (f : A → B) (o : Option A) (y : B) → option_map f o ≡ Some y → (x : A) × (o ≡ Some x) × (y ≡ f x)
option_map_is_some f None y e = absurd (cc e)
option_map_is_some f (Some x) y e = let same : f x ≡ y = cc in (x, refl, sym same)

module _ (schema : Schema) (query : Query) (tables : Tables) (accuracy : ℕ) where
  abbrev section_at : ℕ → Option TableStats
  section_at table = option_map (section_of_table schema query tables accuracy table) (first_entry query table)

  made_of_tables : IsOfTables query (file_of_query schema query tables accuracy)
  made_of_tables table section found =
      let there = found_in (λ (one : TableStats). one.table == table) (filter_map section_at (range_with_len 0 (length schema.tables))) section found in
      let its = from_filter_map section_at (range_with_len 0 (length schema.tables)) section there.0 in
      let made = option_map_is_some (section_of_table schema query tables accuracy its.0) (first_entry query its.0) section its.2 in
      let same : its.0 ≡ table = ap (λ (one : TableStats). one.table) (sym made.2) ∙ eqb-true section.table table there.1 in
      (made.0, subst (λ t. first_entry query t ≡ Some made.0) same made.1)

pub record FromStats (made : StatsCall) (bytes : List ℕ) (schema : Schema) : Type 0 where
  pub query : Query
  pub database : Database
  pub over : FitsQueryAndTexts schema query database
  pub read : (entry : ℕ) → entry < length query.from → table_rows schema (table_of query entry) made.files ≡ Ok (tables_of database entry)
  pub least : 0 < made.accuracy
  pub most : made.accuracy ≤ most_accuracy
  pub known : AreBytesOfStandingFile schema query bytes (tables_of database)
  pub file_is : known.file ≡ file_of_query schema query (tables_of database) made.accuracy

module _ (made : StatsCall) (schema : Schema) (bytes : List ℕ) (wrote : WroteStats made schema bytes) where
  abbrev asked : Command
  asked = over_query None made.schema_file made.query_file (query_tasks.WriteStats made.accuracy)

  abbrev outcome : RunOutcome
  outcome = (done_run_of_call made.call asked made.files wrote.done).outcome

  made_from : FileMade made.schema_file made.query_file made.accuracy made.files outcome
  made_from = file_made made.schema_file made.query_file made.accuracy made.files outcome (done_run_of_call made.call asked made.files wrote.done).ran

  from_read : (read : Schema) (query : Query) (rows : List (List Row)) → IsValid read → query_stage made.query_file read made.files ≡ Ok query
      → tables_stage read query.from made.files ≡ Ok rows → stats_file_of_tables read query rows made.accuracy ≡ outcome → FromStats made bytes read
  from_read read query rows valid query_read staged is =
      let within = ranges made.call asked made.files wrote.done in
      let of : IsQueryOf read query = query_of_schema made.query_file made.files read query query_read in
      let found : DatabaseFound read query rows = database_found read query made.files rows valid of staged in
      let tables : tables_in rows ≡ tables_of found.database = ap tables_in found.rows_are ∙ found.tables_are in
      let file : StatsFile = file_of_query read query (tables_of found.database) made.accuracy in
      let text : GrewWhole made.call.out (Some (file_text read (file_of_query read query (tables_in rows) made.accuracy))) =
      subst (λ (o : RunOutcome). GrewWhole made.call.out (out_text o)) (sym is) (done_run_of_call made.call asked made.files wrote.done).out in
      record {
        query = query;
        database = found.database;
        over = found.over;
        read = λ entry low. entries_are read query.from made.files rows staged entry low ∙ ap (λ (t : Tables). Ok (t entry)) tables;
        least = within.0;
        most = within.1;
        known = record {
          file = file;
          is = sym (took_text made.call.out (file_text read (file_of_query read query (tables_in rows) made.accuracy)) bytes text wrote.wrote)
              ∙ ap (λ (t : Tables). file_text read (file_of_query read query t made.accuracy)) tables;
          keeps = file_keeps read query found.database found.over made.accuracy within.0 within.1;
          stands = file_stands read query (tables_of found.database) (share_rows read query found.database found.over) made.accuracy;
          of = made_of_tables read query (tables_of found.database) made.accuracy;
        };
        file_is = refl;
      }

  pub from_stats : FromStats made bytes schema
  from_stats =
      let read : made_from.schema ≡ schema = same_schema made.files made.schema_file schema wrote.declares made_from.schema made_from.schema_is in
      let valid : IsValid made_from.schema = subst IsValid (sym read) (is_valid made.files made.schema_file schema wrote.declares) in
      subst (FromStats made bytes) read (from_read made_from.schema made_from.query made_from.rows valid made_from.query_is made_from.rows_are made_from.is)

-- ---- the bytes that one append wrote

-- the tables with the rows that one append added satisfy `HasNewRows` of the crate appended_stats
added_rows_are_new_rows : (query : Query) (tables : Tables) (table : ℕ) (rows : List Row) → HasNewRows query table rows tables (with_added_rows query tables (record { table = table; rows = rows } ∷ []))
added_rows_are_new_rows query tables table rows entry low = elim (cases_Bool (table_of query entry == table)) [
  | inl e ↦ rw e (ap (λ (s : List Row). tables entry ++ s) (append-nil rows))
  | inr e ↦ rw e (append-nil (tables entry))
]

added_one_after_another : (query : Query) (tables : Tables) (one : AddedRows) (more : List AddedRows) → with_added_rows query (with_added_rows query tables (one ∷ [])) more ≡ with_added_rows query tables (one ∷ more)
added_one_after_another query tables one more = fun_ext (λ entry.
    let first : List Row = cond (table_of query entry == one.table) one.rows [] in
    let later : List Row = flat_map (λ (next : AddedRows). cond (table_of query entry == next.table) next.rows []) more in
    ap (λ (s : List Row). (tables entry ++ s) ++ later) (append-nil first) ∙ append_assoc (tables entry) first later)

pub record FromAppend (query : Query) (tables : Tables) (append : AppendCall) (schema : Schema) : Type 0 where
  pub added : AddedRows
  pub adds : AddsRowsOfFile schema append added
  pub known : AreBytesOfStandingFile schema query append.bytes (with_added_rows query tables (added ∷ []))

module _ (schema : Schema) (query : Query) (before : List ℕ) (tables : Tables) (known : AreBytesOfStandingFile schema query before tables) (append : AppendCall) (did : AppendedTo schema before append) where
  abbrev its_outcome : RunOutcome
  its_outcome = (done_run_of_call append.call (append_command append.schema_file append.names) append.files did.done).outcome

  abbrev GrowsSo : Type 0
  GrowsSo = GrowsByFile append.files append.schema_file append.names.stats_file append.names.table append.names.rows_file its_outcome

  grows : GrowsSo
  grows = append_run_grows append.files append.schema_file append.names its_outcome (done_run_of_call append.call (append_command append.schema_file append.names) append.files did.done).ran

  same : grows.schema ≡ schema
  same = same_schema append.files append.schema_file schema did.declares grows.schema grows.schema_is

  before_is : grows.before ≡ known.file
  before_is =
      stats_read_are_written append.names.stats_file schema append.files grows.before known.file (is_valid append.files append.schema_file schema did.declares)
      (byte_columns append.files append.schema_file schema did.declares) known.keeps (did.there ∙ ap (λ (s : List ℕ). Some s) known.is)
      (subst (λ (s : Schema). stats_stage append.names.stats_file s append.files ≡ Ok grows.before) same grows.before_is)

  stands_before : StandsFor query grows.before tables
  stands_before = subst (λ (f : StatsFile). StandsFor query f tables) (sym before_is) known.stands

  its_added : AddedRows
  its_added = record { table = grows.section.table; rows = grows.rows }

  it_adds : AddsRowsOfFile grows.schema append its_added
  unfolding its_added
  it_adds =
      let read = rows_read append.files append.schema_file append.names.stats_file append.names.table append.names.rows_file its_outcome grows in
      record {
        table = table_at grows.schema grows.section.table;
        is_table = slice_get-get_or grows.schema.tables grows.section.table no_table
            (table_there append.files append.schema_file append.names.stats_file append.names.table append.names.rows_file its_outcome grows);
        named = (found_in (is_of_table grows.schema append.names.table) grows.before.tables grows.section
            (its_section append.files append.schema_file append.names.stats_file append.names.table append.names.rows_file its_outcome grows)).1;
        bytes = read.bytes;
        there = read.there;
        read = read.read;
      }

  of_tables : IsOfTables query grows.after
  of_tables table section found =
      let old = section_before grows.before grows.section.table grows.rows table section (ap (λ (f : StatsFile). section_of f table) (sym grows.after_is) ∙ found) in
      known.of table old.0 (ap (λ (f : StatsFile). section_of f table) (sym before_is) ∙ old.1)

  known_after : AreBytesOfStandingFile grows.schema query append.bytes (with_added_rows query tables (its_added ∷ []))
  unfolding its_added
  known_after =
      let end = done_run_of_call append.call (append_command append.schema_file append.names) append.files did.done in
      record {
        file = grows.after;
        is = sym (took_text append.call.out (file_text grows.schema grows.after) append.bytes
            (subst (λ (o : RunOutcome). GrewWhole append.call.out (out_text o)) grows.written end.out) did.wrote);
        keeps = after_keeps append.files append.schema_file append.names.stats_file append.names.table append.names.rows_file its_outcome grows;
        stands = append_stands append.files append.schema_file append.names.stats_file append.names.table append.names.rows_file its_outcome grows
            query tables (with_added_rows query tables (its_added ∷ [])) stands_before (added_rows_are_new_rows query tables grows.section.table grows.rows);
        of = of_tables;
      }

  pub from_append : FromAppend query tables append schema
  from_append = subst (FromAppend query tables append) same (record { added = its_added; adds = it_adds; known = known_after })

-- ---- any number of appends

pub record FromAppends (schema : Schema) (query : Query) (tables : Tables) (appends : List AppendCall) (last : List ℕ) : Type 0 where
  pub added : List AddedRows
  pub adds : EachAddsRowsOfFile schema appends added
  pub known : AreBytesOfStandingFile schema query last (with_added_rows query tables added)

none_added : (query : Query) (tables : Tables) → tables ≡ with_added_rows query tables []
none_added query tables = fun_ext (λ entry. sym (append-nil (tables entry)))

pub from_appends : (schema : Schema) (query : Query) (before : List ℕ) (tables : Tables) (appends : List AppendCall) → AreBytesOfStandingFile schema query before tables
    → EachReadsTheBytesBefore schema before appends → FromAppends schema query tables appends (last_bytes before appends)
from_appends schema query before tables [] known did = record { added = []; adds = tt; known = subst (AreBytesOfStandingFile schema query before) (none_added query tables) known }
from_appends schema query before tables (append ∷ appends) known did =
    let one = from_append schema query before tables known append did.0 in
    let rest = from_appends schema query append.bytes (with_added_rows query tables (one.added ∷ [])) appends one.known did.1 in
    record {
      added = one.added ∷ rest.added;
      adds = (one.adds, rest.adds);
      known = subst (AreBytesOfStandingFile schema query (last_bytes append.bytes appends)) (added_one_after_another query tables one.added rest.added) rest.known;
    }
