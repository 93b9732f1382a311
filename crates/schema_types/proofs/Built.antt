-- The code builds a table from its name, columns, keys and references.
use Rattle.std.proofs.Common.{◌≡◌, ℕ, List, refl}
use Rattle.std.specs.List.{flat_map}
use Rattle.schema_grammar.specs.declared.tree.TableNode.{TableNode}
use Rattle.sql_tokens.specs.Words.{name_of}
use Rattle.schema_types.specs.declared.index.TableIndex.{TableIndex}
use Rattle.schema_types.specs.declared.types.Column.{Column}
use Rattle.schema_types.specs.declared.types.Reference.{Reference}
use Rattle.schema_types.specs.declared.types.Table.{Table}
use Rattle.schema_types.specs.Index.{table_index}
use Rattle.schema_types.specs.Meaning.{element_column, element_keys, element_references, table_of}

pub table_is : (text : List ℕ) (tables : List TableNode) (table : TableNode) (index : TableIndex) (name : List ℕ) (columns : List Column) (keys : List (List ℕ)) (references : List Reference) → index ≡ table_index text table → name ≡ name_of text table.name → columns ≡ flat_map (element_column text) table.elements → keys ≡ flat_map (element_keys text index.columns) table.elements → references ≡ flat_map (element_references text tables index.columns) table.elements → ◌≡◌ {A = Table} (record { name = name; columns = columns; keys = keys; references = references }) (table_of text tables table)
unfolding table_of table_index
table_is text tables table index name columns keys references indexed n c k r = rw (n, c, k, r, indexed) refl
