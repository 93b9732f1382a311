-- The index of a table, for look-ups of columns and keys.
use Rattle.std.specs.Prelude.{ℕ, List, [], option_map, unwrap_or}
use Rattle.schema_grammar.specs.declared.tree.TableNode.{TableNode}
use Rattle.schema_types.specs.declared.index.TableIndex.{TableIndex}
use Rattle.schema_types.specs.Names.{names_of}
use Rattle.schema_types.specs.Declarations.{column_names, primary_key}
use Rattle.schema_types.specs.Numbers.{numbers_of_columns}

-- the names of a table's columns, the names in its first primary key, and the numbers of the columns in this key
unfoldable pub table_index : List ℕ → TableNode → TableIndex
table_index text table = record {
  columns = column_names text table.elements;
  key = option_map (names_of text) (primary_key table.elements);
  numbers = unwrap_or (option_map (numbers_of_columns text (column_names text table.elements)) (primary_key table.elements)) [];
}
