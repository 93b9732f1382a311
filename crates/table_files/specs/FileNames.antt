-- The names of the tables' files. The store is asked for these names as they are, without a folder. The names don't depend on the names of the
-- schema's file and the query's file. Names match byte for byte.
use Rattle.std.specs.Prelude.{ℕ, List, ◌++◌, map, codes}
use Rattle.std.specs.Char.{to_ascii_lowercase}
use Rattle.schema_types.specs.declared.types.Table.{Table}

-- the table's name in lower case, and `.csv`
abbrev pub file_name : Table → List ℕ
file_name table = map to_ascii_lowercase table.name ++ codes ".csv"
