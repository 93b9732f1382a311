-- Small queries and files for the examples.
use Rattle.std.specs.Prelude.{ℕ, List, [], ◌∷◌, codes}
use Rattle.base_io.specs.Files.{Files}
use Rattle.schema_types.specs.declared.types.Kind.TheVariants as kind
use Rattle.schema_types.specs.declared.types.Schema.{Schema}
use Rattle.schema_types.specs.declared.types.Table.{Table}
use Rattle.query_types.specs.declared.types.Source.{Source}

-- a table of this name with one column X of numbers
abbrev pub numbers_table : List ℕ → Table
numbers_table name = record { name = name; columns = record { name = codes "X"; kind = kind.Int } ∷ []; keys = []; references = [] }

-- the tables R, numbered 0, and S, numbered 1
abbrev pub two_tables : Schema
two_tables = record { tables = numbers_table (codes "R") ∷ numbers_table (codes "S") ∷ [] }

abbrev pub entry_of : ℕ → Source
entry_of table = record { table = table; alias = codes "E" }

-- FROM S, R, S
abbrev pub s_r_s : List Source
s_r_s = entry_of 1 ∷ entry_of 0 ∷ entry_of 1 ∷ []

-- the only file is that of R
abbrev pub only_r : Files
only_r = (codes "r.csv", codes "X\r\n1\r\n") ∷ []
