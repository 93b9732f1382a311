-- Small schemas and files.
use Rattle.std.specs.Prelude.{ℕ, List, [], ◌∷◌, codes, pos}
use Rattle.schema_types.specs.declared.types.Kind.TheVariants as kind
use Rattle.schema_types.specs.declared.types.Schema.{Schema}
use Rattle.schema_types.specs.declared.types.Table.{Table}
use Rattle.stats_file.specs.declared.types.Datum.TheVariants as datum
use Rattle.stats_file.specs.declared.types.PairStats.{PairStats}
use Rattle.stats_file.specs.declared.types.StatsFile.{StatsFile}

-- a table with this name and one column, X, of numbers
abbrev pub number_table : List ℕ → Table
number_table name = record { name = name; columns = record { name = codes "X"; kind = kind.Int } ∷ []; keys = []; references = [] }

abbrev pub schema_of_e : Schema
schema_of_e = record { tables = number_table (codes "E") ∷ [] }

abbrev pub pair_without_rows : PairStats
pair_without_rows = record { filter = 0; joined = 0; whole = []; frequent = []; rest = []; cuts = []; nodes = [] }

-- statistics of the table E without rows
abbrev pub stats_without_rows : StatsFile
stats_without_rows = record { accuracy = 1; tables = record { table = 0; rows = 0; pairs = pair_without_rows ∷ [] } ∷ [] }

-- the statistics of a column with the values 1, 1, 1, 2, 2, 3 that is also the joined column, without a histogram
abbrev pub six_rows : PairStats
six_rows = record {
  filter = 0;
  joined = 0;
  whole = 3 ∷ 3 ∷ [];
  frequent = (datum.Int (pos 1), 3 ∷ []) ∷ (datum.Int (pos 2), 2 ∷ []) ∷ (datum.Int (pos 3), 1 ∷ []) ∷ [];
  rest = [];
  cuts = [];
  nodes = [];
}
