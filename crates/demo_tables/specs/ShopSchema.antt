-- What the schema text of the shop declares.
use Rattle.std.specs.Prelude.{ℕ, List, [], ◌∷◌, map, codes}
use Rattle.schema_types.specs.declared.types.Kind.TheVariants as kind
use Rattle.schema_types.specs.declared.types.Schema.{Schema}
use Rattle.schema_types.specs.declared.types.Table.{Table}
use Rattle.demo_files.specs.Shop.{customer_columns, item_columns, order_columns, product_columns}

-- a table of numbers with these columns and keys
abbrev pub numbers_table : List ℕ → List (List ℕ) → List (List ℕ) → Table
numbers_table name columns keys = record {
  name = name;
  columns = map (λ column. record { name = column; kind = kind.Int }) columns;
  keys = keys;
  references = [];
}

-- the keys of a table whose only key is its first column
abbrev pub first_column_is_key : List (List ℕ)
first_column_is_key = (0 ∷ []) ∷ []

abbrev pub shop_schema : Schema
shop_schema = record {
  tables =
      numbers_table (codes "PRODUCT") product_columns first_column_is_key
      ∷ numbers_table (codes "ITEM") item_columns []
      ∷ numbers_table (codes "ORDERS") order_columns first_column_is_key
      ∷ numbers_table (codes "CUSTOMER") customer_columns first_column_is_key
      ∷ [];
}
