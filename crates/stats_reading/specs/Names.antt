-- A condition on the column names of a schema.
use Rattle.std.specs.Prelude.{All}
use Rattle.schema_types.specs.declared.types.Column.{Column}
use Rattle.schema_types.specs.declared.types.Schema.{Schema}
use Rattle.schema_types.specs.declared.types.Table.{Table}
use Rattle.stats_file.specs.Bytes.{AreBytes}

-- each column name consists of bytes, as it does in every schema that a program has in memory
abbrev pub HasByteColumns : Schema → Type 0
HasByteColumns schema = All (λ (table : Table). All (λ (column : Column). AreBytes column.name) table.columns) schema.tables
