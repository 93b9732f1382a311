-- No step that reads the shop's files refuses a file because it is absent.
use Rattle.std.proofs.Common.{◌≡◌, ℕ, zero, suc, ◌+◌, ◌<◌, Bool, true, false, List, [], ◌∷◌, Option, Some, Result, Ok, Err, length, refl, ap, sym, ◌∙◌, subst, arith}
use Rattle.std.specs.Prelude.{codes, if◌then◌else◌, nat_lt}
use Rattle.std.specs.List.{All}
use Rattle.std.proofs.lemmas.List.Elements.{All-head, All-tail}
use Rattle.base_io.specs.Files.{Files, file_of}
use Rattle.schema_types.specs.declared.errors.LimitKind.TheVariants as limit
use Rattle.schema_types.specs.declared.types.Schema.{Schema}
use Rattle.csv_tables.specs.Files.{rows_of_file}
use Rattle.csv_tables.specs.Rows.{Row}
use Rattle.csv_tables.specs.declared.types.TableError.{TableError}
use Rattle.csv_tables.specs.declared.types.TableError.TheVariants as table
use Rattle.query_types.specs.Validity.{IsQueryOf}
use Rattle.query_types.specs.declared.types.Query.{Query}
use Rattle.text_answers.specs.SchemaTexts.{schema_answer}
use Rattle.outcomes.specs.Errors.{table_refusal}
use Rattle.outcomes.specs.Reads.{◌>>=◌, IsNotMissing, MissesNothing, with_refusal}
use Rattle.outcomes.specs.declared.names.FileId.{FileId}
use Rattle.outcomes.specs.declared.names.FileId.TheVariants as file
use Rattle.outcomes.specs.declared.refusal.Refusal.{Refusal}
use Rattle.outcomes.specs.declared.refusal.Refusal.TheVariants as refusal
use Rattle.table_files.specs.Stage.{rows_by_entry, rows_of_each, table_at, table_rows, tables_of_query, tables_stage}
use Rattle.table_files.specs.FileNames.{file_name}
use Rattle.table_files.specs.TableFile.{bytes_of, file_rows, read, rows_of_bytes}
use Rattle.table_files.proofs.DatabaseOfQuery.{table_numbers_within}
use Rattle.demo_files.specs.Files.{customer_records, demo_files, file_text, item_records, order_records, product_records}
use Rattle.demo_files.specs.Texts.{query_text, schema_text}
use Rattle.demo_tables.specs.ShopSchema.{shop_schema}
use Rattle.demo_tables.proofs.SchemaRead.{schema_read}

-- ---- `MissesNothing` for one step, and for two steps in turn

pub ok_misses : {A : Type 0} (x : A) → MissesNothing (Ok x)
ok_misses x id e = cc

pub then_misses : {A B : Type 0} (r : Result A Refusal) (f : A → Result B Refusal) → MissesNothing r
    → ((x : A) → r ≡ Ok x → MissesNothing (f x)) → MissesNothing (r >>= f)
then_misses (Ok x) f first next = next x refl
then_misses (Err s) f first next = λ id e. first id (let same : s ≡ refusal.Missing id = cc in ap Err same)

-- ---- reading one file

either_misses : {A : Type 0} (refused : Bool) (r : Refusal) (x : A) → IsNotMissing r → MissesNothing (if refused then Err r else Ok x)
either_misses true r x there id e = there id (let same : r ≡ refusal.Missing id = cc in same)
either_misses false r x there id e = cc

present_misses : (id : FileId) (most : ℕ) (bytes : List ℕ) → MissesNothing (bytes_of id most (Some bytes))
present_misses id most bytes =
    either_misses (nat_lt most (length bytes)) (refusal.Limit limit.FileBytes id (most + 1)) bytes (λ other e. cc)

with_refusal_misses : (number : ℕ) (answer : Result (List Row) TableError) → MissesNothing (with_refusal (table_refusal number) answer)
with_refusal_misses number (Ok rows) id e = cc
with_refusal_misses number (Err (table.Utf8 at)) id e = cc
with_refusal_misses number (Err (table.Header column)) id e = cc
with_refusal_misses number (Err (table.Width row found)) id e = cc
with_refusal_misses number (Err (table.Field row column)) id e = cc
with_refusal_misses number (Err (table.Key row earlier)) id e = cc
with_refusal_misses number (Err (table.Limit found)) id e = cc
with_refusal_misses number (Err table.NoMemory) id e = cc

-- ---- the shop's files

module _ (number : ℕ) where
  abbrev files : Files
  files = demo_files number

  has_file : (place : ℕ) → place < 4 → (bytes : List ℕ) × (file_of (demo_files number) (file_name (table_at shop_schema place)) ≡ Some bytes)
  has_file zero is_below = (file_text product_records, refl)
  has_file (suc zero) is_below = (file_text (item_records number), refl)
  has_file (suc (suc zero)) is_below = (file_text (order_records number), refl)
  has_file (suc (suc (suc zero))) is_below = (file_text (customer_records number), refl)
  has_file (suc (suc (suc (suc place)))) is_below = absurd (omega arith)

  one_misses : (place : ℕ) → place < 4 → MissesNothing (table_rows shop_schema place (demo_files number))
  unfolding file_rows
  one_misses place is_below =
      let there = has_file place is_below in
      then_misses (read (file.Table place) 67108864 (file_name (table_at shop_schema place)) files) (rows_of_bytes place (table_at shop_schema place))
      (subst (λ (o : Option (List ℕ)). MissesNothing (bytes_of (file.Table place) 67108864 o)) (sym there.1)
      (present_misses (file.Table place) 67108864 there.0))
      (λ bytes _. with_refusal_misses place (rows_of_file (table_at shop_schema place) bytes))

  each_misses : (numbers : List ℕ) → All (λ place. place < 4) numbers → MissesNothing (rows_of_each shop_schema numbers (demo_files number))
  each_misses [] is_below = ok_misses []
  each_misses (place ∷ places) is_below =
      then_misses (table_rows shop_schema place files) _ (one_misses place (All-head (λ p. p < 4) place places is_below))
      (λ rows _. then_misses (rows_of_each shop_schema places files) _ (each_misses places (All-tail (λ p. p < 4) place places is_below))
      (λ others _. ok_misses (rows ∷ others)))

  shop_misses : (query : Query) → IsQueryOf shop_schema query → MissesNothing (tables_stage shop_schema query.from (demo_files number))
  unfolding tables_stage
  shop_misses query of =
      then_misses (rows_of_each shop_schema (tables_of_query query.from) files) _ (each_misses (tables_of_query query.from) (table_numbers_within shop_schema query of))
      (λ rows _. ok_misses (rows_by_entry query.from rows))

  pub tables_miss : (schema : Schema) (query : Query) → schema_answer schema_text ≡ Ok schema → IsQueryOf schema query
      → MissesNothing (tables_stage schema query.from (demo_files number))
  tables_miss schema query read_as of =
      let same : shop_schema ≡ schema = (let both : Ok shop_schema ≡ Ok schema = sym schema_read ∙ read_as in cc) in
      let P : Schema → Type 0 = λ s. IsQueryOf s query → MissesNothing (tables_stage s query.from (demo_files number)) in
      subst P same (shop_misses query) of

  pub schema_there : read file.Schema 1048576 (codes "schema.sql") (demo_files number) ≡ Ok schema_text
  unfolding schema_text
  schema_there = refl

  pub query_there : read file.Query 1048576 (codes "query.sql") (demo_files number) ≡ Ok query_text
  unfolding query_text
  query_there = refl
