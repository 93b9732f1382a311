-- Schemas for examples.
use Rattle.std.specs.Prelude.{ℕ, List, [], ◌∷◌}
use Rattle.schema_types.specs.declared.types.Column.{Column}
use Rattle.schema_types.specs.declared.types.Kind.TheVariants as kind
use Rattle.schema_types.specs.declared.types.Reference.{Reference}
use Rattle.schema_types.specs.declared.types.Schema.{Schema}
use Rattle.schema_types.specs.declared.types.Table.{Table}

abbrev pub number_column : List ℕ → Column
number_column name = record { name = name; kind = kind.Int }

-- the table O(N, CID) with these references
abbrev pub orders_with : List Reference → Table
orders_with references = record {
  name = 79 ∷ [];
  columns = number_column (78 ∷ []) ∷ number_column (67 ∷ 73 ∷ 68 ∷ []) ∷ [];
  keys = [];
  references = references;
}

-- the table C(ID, REG) with these keys
abbrev pub customers_with : List (List ℕ) → Table
customers_with keys = record {
  name = 67 ∷ [];
  columns = number_column (73 ∷ 68 ∷ []) ∷ number_column (82 ∷ 69 ∷ 71 ∷ []) ∷ [];
  keys = keys;
  references = [];
}

-- CID REFERENCES C (ID)
abbrev pub to_customers : Reference
to_customers = record { columns = 1 ∷ []; table = 1; targets = 0 ∷ [] }

-- ID PRIMARY KEY
abbrev pub id_key : List (List ℕ)
id_key = (0 ∷ []) ∷ []

-- the schema in which O is table 0 and C is table 1
abbrev pub orders_and_customers : Schema
orders_and_customers = record { tables = orders_with (to_customers ∷ []) ∷ customers_with id_key ∷ [] }

-- the schema without the REFERENCES, and the schema without the PRIMARY KEY
abbrev pub undeclared_schema : Schema
undeclared_schema = record { tables = orders_with [] ∷ customers_with id_key ∷ [] }

abbrev pub keyless_schema : Schema
keyless_schema = record { tables = orders_with (to_customers ∷ []) ∷ customers_with [] ∷ [] }
