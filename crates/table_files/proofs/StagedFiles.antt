-- If the stage that reads a query's tables succeeds, its rows are the rows of the files in the store.
use Rattle.std.proofs.Common.{◌≡◌, ℕ, ◌+◌, ◌<◌, Bool, true, false, List, [], length, get_or, Option, None, Some, Result, Ok, Err, ap, sym, ◌∙◌, arith}
use Rattle.std.specs.Prelude.{if◌then◌else◌, nat_lt}
use Rattle.std.proofs.lemmas.List.{length-map}
use Rattle.std.proofs.lemmas.Option.{slice_get-get_or}
use Rattle.base_io.specs.Files.{Files, file_of}
use Rattle.schema_types.specs.declared.errors.LimitKind.TheVariants as limit
use Rattle.schema_types.specs.declared.types.Schema.{Schema}
use Rattle.schema_types.specs.declared.types.Table.{Table}
use Rattle.csv_tables.specs.Files.{rows_of_file}
use Rattle.csv_tables.specs.Rows.{Row}
use Rattle.outcomes.specs.Errors.{table_refusal}
use Rattle.outcomes.specs.Reads.{with_refusal}
use Rattle.outcomes.specs.declared.names.FileId.{FileId}
use Rattle.outcomes.specs.declared.names.FileId.TheVariants as file
use Rattle.outcomes.specs.declared.refusal.Refusal.{Refusal}
use Rattle.outcomes.specs.declared.refusal.Refusal.TheVariants as refusal
use Rattle.query_types.specs.declared.types.Source.{Source}
use Rattle.table_files.specs.EntryTables.{CanComeFromFiles, tables_in}
use Rattle.table_files.specs.FileNames.{file_name}
use Rattle.table_files.specs.Stage.{numbers_of, index_of, rows_by_entry, rows_of_each, table_at, table_rows, tables_of_query, tables_stage}
use Rattle.table_files.specs.TableFile.{bytes_of, file_rows, read, rows_of_bytes}
use Rattle.table_files.proofs.EntryLaws.{entries_have, two_steps}

pub ok_without_refusal : {A E : Type 0} (refusal_of : E → Refusal) (r : Result A E) (x : A) → with_refusal refusal_of r ≡ Ok x → r ≡ Ok x
ok_without_refusal refusal_of (Ok y) x e = (let same : y ≡ x = cc in ap Ok same)
ok_without_refusal refusal_of (Err s) x e = cc

limited_ok : {A : Type 0} (exceeds_limit : Bool) (r : Refusal) (y x : A) → (if exceeds_limit then Err r else Ok y) ≡ Ok x → y ≡ x
limited_ok true r y x e = cc
limited_ok false r y x e = cc

pub read_ok : (id : FileId) (most : ℕ) (name : List ℕ) (files : Files) (bytes : List ℕ) → read id most name files ≡ Ok bytes → file_of files name ≡ Some bytes
read_ok id most name files bytes e = of_bytes (file_of files name) e where
  of_bytes : (o : Option (List ℕ)) → bytes_of id most o ≡ Ok bytes → o ≡ Some bytes
  of_bytes None h = cc
  of_bytes (Some all) h =
      ap Some (limited_ok (nat_lt most (length all)) (refusal.Limit limit.FileBytes id (most + 1)) all bytes h)

pub table_ok : (number : ℕ) (table : Table) (files : Files) (rows : List Row) → file_rows number table files ≡ Ok rows
    → (bytes : List ℕ) × (file_of files (file_name table) ≡ Some bytes) × (rows_of_file table bytes ≡ Ok rows)
unfolding file_rows
table_ok number table files rows e =
    let steps = two_steps (read (file.Table number) 67108864 (file_name table) files) (rows_of_bytes number table) rows e in (
      steps.0,
      read_ok (file.Table number) 67108864 (file_name table) files steps.0 steps.1,
      ok_without_refusal (table_refusal number) (rows_of_file table steps.0) rows steps.2,
    )

module _ (schema : Schema) (from : List Source) (files : Files) (rows : List (List Row)) (staged : tables_stage schema from files ≡ Ok rows) where
  pub one_each : length rows ≡ length from
  unfolding tables_stage
  one_each =
      let steps = two_steps (rows_of_each schema (tables_of_query from) files) (λ all. Ok (rows_by_entry from all)) rows staged in
      let same : rows_by_entry from steps.0 ≡ rows = cc (steps.2) in
      ap (λ (l : List (List Row)). length l) (sym same)
      ∙ length-map (numbers_of from) (λ number. get_or steps.0 (index_of (tables_of_query from) number) [])
      ∙ length-map from (λ (source : Source). source.table)

  tables_are : (entry : ℕ) → entry < length from → get_or rows entry [] ≡ tables_in rows entry
  tables_are entry low =
      let there : entry < length rows = omega (arith, one_each) in
      let same : Some (get_or rows entry []) ≡ Some (tables_in rows entry) =
      sym (slice_get-get_or rows entry [] there) ∙ slice_get-get_or rows entry (get_or rows 0 []) there in
      cc

  pub entries_are : (entry : ℕ) → entry < length from → table_rows schema (get_or (numbers_of from) entry 0) files ≡ Ok (tables_in rows entry)
  entries_are entry low = entries_have schema from files rows staged entry low ∙ ap (λ (r : List Row). Ok r) (tables_are entry low)

  pub staged_files : CanComeFromFiles schema from (tables_in rows)
  staged_files entry low =
      let number : ℕ = get_or (numbers_of from) entry 0 in
      let read = table_ok number (table_at schema number) files (tables_in rows entry) (entries_are entry low) in (read.0, read.2)
