-- Each table of a query has fewer than 2^32 columns.
use Rattle.std.proofs.Common.{ℕ, ◌<◌, ◌^◌, length, inl, inr, ap, arith}
use Rattle.std.proofs.lemmas.Bool.{cases_lt}
use Rattle.std.proofs.lemmas.List.{get_or_past}
use Rattle.csv_tables.specs.declared.types.Database.{Database}
use Rattle.query_types.specs.declared.types.Query.{Query}
use Rattle.schema_types.specs.declared.types.Schema.{Schema}
use Rattle.schema_types.specs.declared.types.Table.{Table}
use Rattle.sql_meaning.specs.Tables.{cells_of}
use Rattle.stats_file_of_query.specs.Needs.{table_of}
use Rattle.stats_file_of_query.specs.Databases.{FitsQueryAndTexts}
use Rattle.stats_file_of_query.specs.Files.{no_table}
use Rattle.stats_file_of_query.proofs.SameSections.{kinds_are}

pub columns_below_2_32 : (schema : Schema) (query : Query) (db : Database) → FitsQueryAndTexts schema query db → (entry : ℕ) → entry < length query.from → length (cells_of db entry).kinds < 2 ^ 32
columns_below_2_32 schema query db over entry low =
    let many = kinds_are schema query db over 1 entry low in
    let table : ℕ = table_of query entry in
    elim (cases_lt table (length schema.tables)) [
      | inl there ↦ omega (arith, many, (over.of.schema_is.tables table no_table there).few)
      | inr past ↦ omega (arith, many, ap (λ (t : Table). length t.columns) (get_or_past schema.tables table no_table past))
    ]
