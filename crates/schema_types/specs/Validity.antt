-- What is true of every schema that was read.
use Rattle.std.specs.Prelude.{◌≡◌, ◌≢◌, ℕ, Bool, ◌<◌, ◌≤◌, ◌||◌, ◌==◌, List, length, map, All, AllPairs, Some, slice_get, IsTrue}
use Rattle.std.specs.Char.{is_ascii_alphanumeric, to_ascii_uppercase}
use Rattle.std.specs.List.{list_all}
use Rattle.schema_types.specs.declared.types.Reference.{Reference}
use Rattle.schema_types.specs.declared.types.Table.{Table}
use Rattle.schema_types.specs.declared.types.Schema.{Schema}

-- a name in ASCII upper case
abbrev pub upper_case : List ℕ → List ℕ
upper_case name = map to_ascii_uppercase name

-- no two names are equal in ASCII upper case
abbrev pub NamesAreDifferent : List (List ℕ) → Type 0
NamesAreDifferent names = AllPairs (λ a b. upper_case a ≢ upper_case b) names

-- a name has only ASCII letters, digits and underscores
abbrev pub has_only_word_bytes : List ℕ → Bool
has_only_word_bytes name = list_all (λ c. is_ascii_alphanumeric c || c == 95) name

-- a table has columns with these numbers
abbrev pub AreColumnsOf : Table → List ℕ → Type 0
AreColumnsOf table columns = All (λ column. column < length table.columns) columns

-- a reference leads from columns of its table to columns of a table of the schema. No row is tested against the reference
pub record IsReference (tables : List Table) (table : Table) (reference : Reference) : Type 0 where
  pub columns : AreColumnsOf table reference.columns
  pub target : Table
  pub exists : slice_get tables reference.table ≡ Some target
  pub targets : AreColumnsOf target reference.targets

-- a table has a plain name (only ASCII letters, digits and underscores), from 1 to 64 columns with different names, and keys over its columns
pub record IsValidTable (table : Table) : Type 0 where
  pub some : 0 < length table.columns
  pub few : length table.columns ≤ 64
  pub plain : IsTrue (has_only_word_bytes table.name)
  pub names : NamesAreDifferent (map (λ column. column.name) table.columns)
  pub keys : All (AreColumnsOf table) table.keys

-- a schema has from 1 to 64 valid tables with different names, and references between these tables
pub record IsValid (schema : Schema) : Type 0 where
  pub some : 0 < length schema.tables
  pub few : length schema.tables ≤ 64
  pub tables : All IsValidTable schema.tables
  pub names : NamesAreDifferent (map (λ table. table.name) schema.tables)
  pub references : All (λ table. All (IsReference schema.tables table) table.references) schema.tables
