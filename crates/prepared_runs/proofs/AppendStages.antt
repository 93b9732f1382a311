-- Each function of `append` does what its stage of the verdict requires.
use Rattle.std.proofs.Common.{◌≡◌, ℕ, ◌+◌, ◌<◌, ◌≤◌, Bool, true, false, inl, inr, List, [], length, get_or, Option, None, Some, Result, Ok, Err, refl, ap, sym, ◌∙◌, subst, arith}
use Rattle.std.specs.Prelude.{IfErr, IfOk, IsOkAnd, find, nat_le}
use Rattle.std.specs.List.{All}
use Rattle.std.proofs.lemmas.Bool.{cases_lt}
use Rattle.std.proofs.lemmas.List.{get_or_default}
use Rattle.std.proofs.lemmas.Option.{slice_get_within}
use Rattle.appended_stats.specs.Appended.{file_after}
use Rattle.base_io.specs.Devices.{Reading}
use Rattle.base_io.specs.Files.{Files}
use Rattle.csv_tables.specs.Rows.{Row}
use Rattle.stats_file_of_query.proofs.Finding.{found_in}
use Rattle.limits.specs.Profile.{most_rows}
use Rattle.outcomes.specs.Reads.{◌>>=◌, AtFile, Reads, StopsBy, mapped}
use Rattle.outcomes.specs.declared.failure.Failure.{Failure}
use Rattle.outcomes.specs.declared.failure.Failure.TheVariants as failure
use Rattle.outcomes.specs.declared.names.FileId.{FileId}
use Rattle.outcomes.specs.declared.names.FileId.TheVariants as file
use Rattle.outcomes.specs.declared.refusal.Refusal.{Refusal}
use Rattle.outcomes.specs.declared.refusal.Refusal.TheVariants as refusal
use Rattle.outcomes.specs.declared.refusal.StatsCause.TheVariants as cause
use Rattle.outcomes.proofs.ReadFacts.{IsFollowedBy, joined, reads_as, then_gives, then_reads, then_stops, then_fails}
use Rattle.schema_types.specs.declared.errors.LimitKind.TheVariants as limit
use Rattle.schema_types.specs.declared.types.Schema.{Schema}
use Rattle.stats_file.specs.Rules.{IsSection, KeepsRules}
use Rattle.stats_file.specs.declared.types.StatsFile.{StatsFile}
use Rattle.stats_file.specs.declared.types.TableStats.{TableStats}
use Rattle.table_files.specs.Stage.{table_at}
use Rattle.table_files.specs.TableFile.{rows_in}
use Rattle.prepared_runs.specs.Appending.{append_run, grown_stage, is_of_table, or_missing, rows_run, section_read, section_stage, stats_run}
use Rattle.safebound_words.specs.declared.command.NewRows.{NewRows}
use Rattle.safebound_words.specs.declared.command.SchemaTask.TheVariants as schema_tasks
use Rattle.prepared_runs.specs.SectionRows.{HasAsMany, section_rows}
use Rattle.prepared_runs.specs.StatsFiles.{stats_stage}
use Rattle.prepared_runs.specs.RunOutcome.{Appended, RunOutcome}
use Rattle.prepared_runs.specs.PreparedRun.{appended_from}
use Rattle.prepared_runs.specs.Verdict.{IsSchemaTaskFile}
use Rattle.prepared_runs.specs.declared.append.SectionRows.{SectionRows}
use Rattle.prepared_runs.specs.declared.append.PreparedAppend.{PreparedAppend}

-- ---- the section of a table

module _ (name : List ℕ) (schema : Schema) (stats : StatsFile) where
  pub section_counted : (section : TableStats) → Some section ≡ find (is_of_table schema name) stats.tables → mapped section_rows (section_stage name schema stats) ≡ Ok (section_rows section)
  unfolding section_stage
  section_counted section is = ap (λ (found : Option TableStats). mapped section_rows (or_missing found)) (sym is)

  pub section_missing : None ≡ find (is_of_table schema name) stats.tables → mapped section_rows (section_stage name schema stats) ≡ Err (refusal.Stats cause.Missing 0)
  unfolding section_stage
  section_missing is = ap (λ (found : Option TableStats). mapped section_rows (or_missing found)) (sym is)

  module _ (keeps : KeepsRules schema stats) (section : TableStats) (is : Some section ≡ find (is_of_table schema name) stats.tables) where
    place : (i : ℕ) × (i < length stats.tables) × (get_or stats.tables i section ≡ section)
    place = (found_in (is_of_table schema name) stats.tables section (sym is)).0

    pub section_there : section.table < length schema.tables
    section_there =
        let of : IsSection schema section = subst (IsSection schema) place.2 (keeps.tables place.0 section place.1) in
        slice_get_within schema.tables section.table of.table of.table_is

    -- every section of the table counts as many rows as `section`, since no other section is of this table
    pub section_alone : All (HasAsMany (section_rows section)) stats.tables
    section_alone i d low same = elim (cases_lt i place.0) [
      | inl before ↦ absurd (omega (arith, keeps.order i place.0 d before place.1, same, is_table))
      | inr not_before ↦ elim (cases_lt place.0 i) [
        | inl behind ↦ absurd (omega (arith, keeps.order place.0 i d behind low, same, is_table))
        | inr not_behind ↦ (let here : i ≡ place.0 = omega (arith, not_before, not_behind) in
            ap (λ (n : ℕ). (get_or stats.tables n d).rows) here ∙ ap (λ (s : TableStats). s.rows) is_section)
      ]
    ]
      where
        default_is_unused : (n : ℕ) → n < length stats.tables → get_or stats.tables n section ≡ get_or stats.tables n d
        default_is_unused n within = get_or_default stats.tables n section d within

        is_section : get_or stats.tables place.0 d ≡ section
        is_section = sym (default_is_unused place.0 place.1) ∙ place.2

        is_table : (get_or stats.tables place.0 d).table ≡ section.table
        is_table = ap (λ (s : TableStats). s.table) is_section

  -- ---- the section whose rows were counted

  counted_so : (r : Result TableStats Refusal) (found : SectionRows) → mapped section_rows r ≡ Ok found → (section : TableStats) × (r ≡ Ok section) × (section_rows section ≡ found)
  counted_so (Ok section) found is = (section, refl, cc)
  counted_so (Err e) found is = absurd (cc)

  refused_so : (r : Result TableStats Refusal) (e : Refusal) → mapped section_rows r ≡ Err e → r ≡ Err e
  refused_so (Ok section) e is = absurd (cc)
  refused_so (Err other) e is = (let same : other ≡ e = cc in ap Err same)

  is_missing : (found : Option TableStats) (e : Refusal) → or_missing found ≡ Err e → e ≡ refusal.Stats cause.Missing 0
  is_missing None e is = cc
  is_missing (Some section) e is = absurd (cc)

  pub not_found : (e : Refusal) → mapped section_rows (section_stage name schema stats) ≡ Err e → StopsBy (section_stage name schema stats) (failure.Refused e)
  unfolding section_stage
  not_found e is =
      let refused : section_stage name schema stats ≡ Err e = refused_so (section_stage name schema stats) e is in
      let missing : e ≡ refusal.Stats cause.Missing 0 = is_missing (find (is_of_table schema name) stats.tables) e refused in (
        refused,
        (λ id no. (let never : refusal.Stats cause.Missing 0 ≡ refusal.Missing id = sym missing ∙ no in cc)),
        (λ no. (let never : refusal.Stats cause.Missing 0 ≡ refusal.Usage = sym missing ∙ no in cc)),
      )

-- ---- the statistics file after the new rows are counted

module _ (schema : Schema) (stats : StatsFile) (table before : ℕ) (rows : List Row) (n : ℕ) (n_is_length : n ≡ length rows) where
  as_many : (b : Bool) → b ≡ nat_le (before + n) most_rows → nat_le (before + length rows) most_rows ≡ b
  as_many b is = ap (λ (m : ℕ). nat_le (before + m) most_rows) (sym n_is_length) ∙ sym is

  pub grown_within_limit : (after : StatsFile) → true ≡ nat_le (before + n) most_rows → after ≡ file_after stats table rows
      → grown_stage schema stats table before rows ≡ Ok (Appended (record { schema = schema; table = table; rows = rows; file = after }))
  unfolding grown_stage
  grown_within_limit after few is = rw (as_many true few) (ap (λ (f : StatsFile). Ok (Appended (record { schema = schema; table = table; rows = rows; file = f }))) (sym is))

  pub grown_above_limit : false ≡ nat_le (before + n) most_rows → StopsBy (grown_stage schema stats table before rows) (failure.Refused (refusal.Limit limit.Rows (file.Table table) 4000001))
  unfolding grown_stage
  grown_above_limit past = rw (as_many false past) (refl, (λ id e. cc), (λ e. cc))

-- ---- the new rows, and then the file

module _ {store : Reading} (name : List ℕ) (schema : Schema) (stats : StatsFile) (table before : ℕ) where
  pub rows_stop : (e : Failure) → Reads store (rows_in table (table_at schema table) name) (AtFile (file.Table table)) (Err e)
      → Reads store (rows_run name schema stats table before) (AtFile (file.Table table)) (Err e)
  unfolding rows_run
  rows_stop e h =
      then_stops (rows_in table (table_at schema table) name) (λ rows files. grown_stage schema stats table before rows) store (AtFile (file.Table table)) (AtFile (file.Table table)) e
      (λ files id at'. at') h

  pub rows_ran : (rows : List Row) (result : Result PreparedAppend Failure) → IfOk result (λ made. grown_stage schema stats table before rows ≡ Ok (appended_from schema made))
      → IfErr result (StopsBy (grown_stage schema stats table before rows)) → Reads store (rows_in table (table_at schema table) name) (AtFile (file.Table table)) (Ok rows)
      → Reads store (rows_run name schema stats table before) (AtFile (file.Table table)) (mapped (appended_from schema) result)
  unfolding rows_run
  rows_ran rows (Ok made) is tells h =
      then_gives store (rows_in table (table_at schema table) name) (grown_stage schema stats table before) (AtFile (file.Table table)) (AtFile (file.Table table)) rows (appended_from schema made) is h
  rows_ran rows (Err e) is tells h =
      then_fails store (rows_in table (table_at schema table) name) (grown_stage schema stats table before) (AtFile (file.Table table)) (AtFile (file.Table table)) rows e tells h

-- ---- the section, and then the new rows

unread : {A : Type 0} (store : Reading) (stage : Files → Result A Refusal) (C : Files → FileId → Type 0) (e : Failure) → ((files : Files) → StopsBy (stage files) e)
    → store.misses_after ≡ store.misses_before → store.faults_before ≤ store.faults_after → store.files_after ≡ store.files → Reads store stage C (Err e)
unread store stage C (failure.Refused r) tells misses later same = record {
  gives = ((λ files told. (tells files).0), (λ none. (tells []).1), (tells []).2);
  misses = λ files told missed. misses;
  later = later;
  same = same;
}
unread store stage C (failure.Fault id) tells misses later same = absurd (tells [])
unread store stage C failure.NoMemory tells misses later same = record { gives = tt; misses = λ files told missed. misses; later = later; same = same }

module _ (append : NewRows) (schema : Schema) (stats : StatsFile) where
  abbrev pub AtRows : Files → FileId → Type 0
  AtRows files id = IsOkAnd (section_stage append.table schema stats) (λ section. id ≡ file.Table section.table)

  pub section_stops : (store : Reading) (e : Refusal) → mapped section_rows (section_stage append.table schema stats) ≡ Err e → store.misses_after ≡ store.misses_before
      → store.faults_before ≤ store.faults_after → store.files_after ≡ store.files → Reads store (stats_run append schema stats) AtRows (Err (failure.Refused e))
  unfolding stats_run
  section_stops store e is misses later same =
      let told = not_found append.table schema stats e is in
      unread store (stats_run append schema stats) AtRows (failure.Refused e)
      (λ files. (ap (λ (r : Result TableStats Refusal). r >>= λ section. rows_run append.rows_file schema stats section.table section.rows files) told.0, told.1, told.2))
      misses later same

  pub section_ran : {store : Reading} (found : SectionRows) (answer : Result RunOutcome Failure) → mapped section_rows (section_stage append.table schema stats) ≡ Ok found
      → Reads store (rows_run append.rows_file schema stats found.table found.rows) (AtFile (file.Table found.table)) answer → Reads store (stats_run append schema stats) AtRows answer
  unfolding stats_run
  section_ran {store} found answer is h =
      let so = counted_so append.table schema stats (section_stage append.table schema stats) found is in
      reads_as store (rows_run append.rows_file schema stats found.table found.rows) (stats_run append schema stats) (AtFile (file.Table found.table)) AtRows answer
      (λ files. ap (λ (r : Result TableStats Refusal). r >>= λ section. rows_run append.rows_file schema stats section.table section.rows files) so.1
      ∙ ap (λ (c : SectionRows). rows_run append.rows_file schema stats c.table c.rows files) so.2)
      (λ files id at'. subst (λ (r : Result TableStats Refusal). IsOkAnd r (λ section. id ≡ file.Table section.table)) (sym so.1)
      (at' ∙ ap (λ (c : SectionRows). file.Table c.table) (sym so.2))) h

-- ---- the statistics file, and then its section

module _ (append : NewRows) (schema : Schema) where
  pub append_stops : {store : Reading} (e : Failure) → Reads store (stats_stage append.stats_file schema) (AtFile file.Stats) (Err e)
      → Reads store (append_run append schema) (IsSchemaTaskFile (schema_tasks.Append append) schema) (Err e)
  unfolding append_run
  append_stops {store} e h =
      then_stops (stats_stage append.stats_file schema) (stats_run append schema) store (AtFile file.Stats) (IsSchemaTaskFile (schema_tasks.Append append) schema) e (λ files id at'. inl at') h

  reached : (stats : StatsFile) (files : Files) (id : FileId) → stats_stage append.stats_file schema files ≡ Ok stats → AtRows append schema stats files id
      → IsSchemaTaskFile (schema_tasks.Append append) schema files id
  unfolding section_read
  reached stats files id is at' =
      inr (subst (λ (r : Result StatsFile Refusal). IsOkAnd (r >>= λ s. section_stage append.table schema s) (λ section. id ≡ file.Table section.table)) (sym is) at')

  pub append_ran : (first second : Reading) (stats : StatsFile) (answer : Result RunOutcome Failure) → IsFollowedBy first second
      → Reads first (stats_stage append.stats_file schema) (AtFile file.Stats) (Ok stats) → Reads second (stats_run append schema stats) (AtRows append schema stats) answer
      → Reads (joined first second) (append_run append schema) (IsSchemaTaskFile (schema_tasks.Append append) schema) answer
  unfolding append_run
  append_ran first second stats answer meets h k =
      then_reads (stats_stage append.stats_file schema) (stats_run append schema) first second (AtFile file.Stats) (AtRows append schema stats) (IsSchemaTaskFile (schema_tasks.Append append) schema) stats answer meets
      (reached stats) h k
