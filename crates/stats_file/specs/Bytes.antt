-- Schemas and files whose names and texts are lists of bytes (numbers below 256). All schemas and files in a program's memory are like this.
use Rattle.std.specs.Prelude.{ℕ, ◌<◌, ⊤, List, All}
use Rattle.std.specs.List.{AllByRecursion}
use Rattle.schema_types.specs.declared.types.Column.{Column}
use Rattle.schema_types.specs.declared.types.Schema.{Schema}
use Rattle.schema_types.specs.declared.types.Table.{Table}
use Rattle.stats_file.specs.declared.types.Datum.{Datum}
use Rattle.stats_file.specs.declared.types.Datum.TheVariants as datum
use Rattle.stats_file.specs.declared.types.PairStats.{PairStats}
use Rattle.stats_file.specs.declared.types.TableStats.{TableStats}
use Rattle.stats_file.specs.declared.types.StatsFile.{StatsFile}

abbrev pub AreBytes : List ℕ → Type 0
AreBytes bytes = AllByRecursion (λ byte. byte < 256) bytes

abbrev pub HasBytes : Datum → Type 0
HasBytes (datum.Int number) = ⊤
HasBytes (datum.Text bytes) = AreBytes bytes

-- a table's name and the names of its columns consist of bytes
pub record HasByteNames (table : Table) : Type 0 where
  pub name : AreBytes table.name
  pub columns : All (λ (column : Column). AreBytes column.name) table.columns

-- the texts among a pair's values consist of bytes
pub record HasByteValues (pair : PairStats) : Type 0 where
  pub frequent : All (λ (f : Datum × List ℕ). HasBytes f.0) pair.frequent
  pub cuts : All HasBytes pair.cuts

pub record ConsistOfBytes (schema : Schema) (file : StatsFile) : Type 0 where
  pub names : All HasByteNames schema.tables
  pub values : All (λ (section : TableStats). All HasByteValues section.pairs) file.tables
