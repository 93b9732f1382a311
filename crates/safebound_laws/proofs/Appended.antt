-- The statistics file that an append writes keeps the rules, and has sections of the same tables as the file before.
use Rattle.std.proofs.Common.{◌≡◌, ℕ, ◌<◌, ◌==◌, false, cond, List, [], ◌∷◌, length, map, find, Option, None, Some, Ok, inl, inr, refl, ap, sym, ◌∙◌, subst, arith}
use Rattle.std.specs.Str.{IsUtf8}
use Rattle.std.specs.List.{IsDistinct}
use Rattle.std.proofs.lemmas.Bool.{cases_Bool}
use Rattle.std.proofs.lemmas.List.Elements.{All-nil}
use Rattle.std.proofs.lemmas.Map.Made.{AllPairs-from_IsDistinct}
use Rattle.std.proofs.lemmas.Slice.Eq.{bytes_eq-Decides}
use Rattle.appended_stats.specs.Appended.{file_after, section_after}
use Rattle.appended_stats.specs.Cells.{section_after_by_cells}
use Rattle.appended_stats.specs.Conditions.{MayAppend}
use Rattle.appended_stats.proofs.FileKept.{file_is, file_keeps}
use Rattle.base_io.specs.Files.{Files, file_of}
use Rattle.csv_tables.proofs.KeyFacts.{rows-length}
use Rattle.csv_tables.specs.Files.{rows_of_file}
use Rattle.csv_tables.specs.Rows.{Row}
use Rattle.level_bounds.proofs.CellKeys.{characters_differ}
use Rattle.limits.specs.Profile.{most_file}
use Rattle.outcomes.specs.Errors.{table_refusal}
use Rattle.outcomes.specs.declared.names.FileId.TheVariants as file_id
use Rattle.schema_types.specs.Validity.{IsValid}
use Rattle.schema_types.specs.declared.types.Table.{Table}
use Rattle.stats_answers.proofs.StatsAnswers.{written_file_is_read}
use Rattle.stats_answers.specs.StatsTexts.{stats_answer}
use Rattle.stats_file.specs.FileText.{file_text}
use Rattle.stats_file.specs.Rules.{KeepsRules}
use Rattle.stats_file.specs.declared.types.StatsFile.{StatsFile}
use Rattle.stats_file.specs.declared.types.TableStats.{TableStats}
use Rattle.stats_reading.specs.Names.{HasByteColumns}
use Rattle.table_files.specs.Stage.{no_table, table_at}
use Rattle.table_files.specs.TableFile.{read, rows_of_bytes}
use Rattle.table_files.proofs.EntryLaws.{two_steps}
use Rattle.table_files.proofs.StagedFiles.{read_ok, ok_without_refusal}
use Rattle.prepared_runs.proofs.AppendStages.{section_alone, section_there}
use Rattle.prepared_runs.specs.Appending.{is_of_table, or_missing, section_stage}
use Rattle.prepared_runs.specs.RunOutcome.{RunOutcome}
use Rattle.safebound_laws.specs.Appends.{GrowsByFile}
use Rattle.safebound_laws.proofs.AppendFacts as appends
use Rattle.safebound_laws.proofs.TableCells.{IsPool, TableFound, table_found}
use Rattle.safebound_top.proofs.Promises.{declares}
use Rattle.safebound_top.specs.Promise.{DeclaresSchema}
use Rattle.safebound_laws.proofs.DoneRun.{byte_columns, is_valid}

empty_pool_is_pool : IsPool []
unfolding IsDistinct
empty_pool_is_pool = record { utf8 = All-nil IsUtf8; once = tt }

found_section : (found : Option TableStats) (section : TableStats) → or_missing found ≡ Ok section → found ≡ Some section
found_section None section is = absurd (cc)
found_section (Some s) section is = (let same : s ≡ section = cc in ap Some same)

module _ (files : Files) (schema_file stats_file name rows_file : List ℕ) (outcome : RunOutcome) (grows : GrowsByFile files schema_file stats_file name rows_file outcome) where
  schema_is_declared : DeclaresSchema files schema_file grows.schema
  schema_is_declared = declares schema_file files grows.schema grows.schema_is

  pub valid : IsValid grows.schema
  valid = is_valid files schema_file grows.schema schema_is_declared

  columns : HasByteColumns grows.schema
  columns = byte_columns files schema_file grows.schema schema_is_declared

  keeps : KeepsRules grows.schema grows.before
  keeps = appends.keeps files schema_file stats_file name rows_file outcome grows

  pub its_section : find (is_of_table grows.schema name) grows.before.tables ≡ Some grows.section
  unfolding section_stage
  its_section = found_section (find (is_of_table grows.schema name) grows.before.tables) grows.section grows.section_is

  abbrev pub table : Table
  table = table_at grows.schema grows.section.table

  -- ---- the new rows

  pub record RowsRead : Type 0 where
    pub bytes : List ℕ
    pub there : file_of files rows_file ≡ Some bytes
    pub read : rows_of_file (table_at grows.schema grows.section.table) bytes ≡ Ok grows.rows

  pub rows_read : RowsRead
  rows_read =
      let steps = two_steps (read (file_id.Table grows.section.table) most_file rows_file files) (rows_of_bytes grows.section.table table) grows.rows grows.rows_are in
      record {
        bytes = steps.0;
        there = read_ok (file_id.Table grows.section.table) most_file rows_file files steps.0 steps.1;
        read = ok_without_refusal (table_refusal grows.section.table) (rows_of_file table steps.0) grows.rows steps.2;
      }

  pub table_there : grows.section.table < length grows.schema.tables
  table_there = section_there name grows.schema grows.before keeps grows.section (sym its_section)

  cells_found : TableFound table grows.rows []
  cells_found = table_found table rows_read.bytes grows.rows [] (valid.tables grows.section.table no_table table_there) empty_pool_is_pool rows_read.read

  as_many : cells_found.cells.rows ≡ length grows.rows
  as_many = sym (rows-length cells_found.new cells_found.cells.kinds cells_found.cells.columns cells_found.cells.rows) ∙ ap (λ (rows : List Row). length rows) cells_found.same

  append_is_allowed : MayAppend grows.schema grows.before grows.section.table cells_found.new cells_found.cells
  append_is_allowed = record {
    rules = keeps;
    cells_are = cells_found.are;
    utf8 = cells_found.pool.utf8;
    differ = characters_differ cells_found.new cells_found.pool.utf8 (AllPairs-from_IsDistinct bytes_eq-Decides cells_found.new cells_found.pool.once);
    room = λ i d low same. omega (arith, grows.few, as_many, section_alone name grows.schema grows.before keeps grows.section (sym its_section) i d low same);
  }

  -- ---- the statistics file after the append

  pub after_keeps : KeepsRules grows.schema grows.after
  after_keeps =
      let kept = file_keeps grows.schema grows.before grows.section.table cells_found.new cells_found.cells append_is_allowed grows.before.accuracy
      (map (section_after_by_cells cells_found.new cells_found.cells grows.before.accuracy grows.section.table) grows.before.tables) refl refl in
      subst (KeepsRules grows.schema)
      (file_is grows.schema grows.before grows.section.table cells_found.new cells_found.cells append_is_allowed
      ∙ ap (file_after grows.before grows.section.table) cells_found.same ∙ sym grows.after_is) kept

  pub after_read : stats_answer grows.schema (file_text grows.schema grows.after) ≡ Ok grows.after
  after_read = written_file_is_read grows.schema grows.after valid columns after_keeps

-- ---- the tables of the file's sections

module _ (file : StatsFile) (table : ℕ) (new : List Row) where
  abbrev section_with_rows_appended : TableStats → TableStats
  section_with_rows_appended section = cond (section.table == table) (section_after file.accuracy new section) section

  its_table : (section : TableStats) → (section_with_rows_appended section).table ≡ section.table
  its_table section = elim (cases_Bool (section.table == table)) [ inl e ↦ rw e refl | inr e ↦ rw e refl ]

  found_before : (sections : List TableStats) (t : ℕ) (section : TableStats) → find (λ (s : TableStats). s.table == t) (map section_with_rows_appended sections) ≡ Some section
      → (old : TableStats) × (find (λ (s : TableStats). s.table == t) sections ≡ Some old)
  found_before [] t section none = absurd (cc none)
  found_before (s ∷ sections) t section found = elim (cases_Bool (s.table == t)) [
    | inl e ↦ (s, rw e refl)
    | inr e ↦ (let here : ((section_with_rows_appended s).table == t) ≡ false = ap (λ (x : ℕ). x == t) (its_table s) ∙ e in
        let later : find (λ (x : TableStats). x.table == t) (map section_with_rows_appended sections) ≡ Some section = rw here at found in
        let rest = found_before sections t section later in
        (rest.0, rw e rest.1))
  ]

  pub section_before : (t : ℕ) (section : TableStats) → find (λ (s : TableStats). s.table == t) (file_after file table new).tables ≡ Some section
      → (old : TableStats) × (find (λ (s : TableStats). s.table == t) file.tables ≡ Some old)
  section_before t section found = found_before file.tables t section found
