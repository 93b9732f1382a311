-- The six files of a shop that `demo` makes in memory: a schema, a query, and a file for each of four tables.
use Rattle.std.specs.Prelude.{ℕ, List, [], ◌∷◌, ◌++◌, map, codes, decimal}
use Rattle.std.specs.List.{flat_map, join_with_byte, range_with_len}
use Rattle.base_io.specs.Files.{Files}
use Rattle.demo_files.specs.Shop.{customer, customer_columns, customers, item, item_columns, items}
use Rattle.demo_files.specs.Shop.{order, order_columns, orders, product, product_columns, products}
use Rattle.demo_files.specs.Texts.{query_text, schema_text}

-- the records of a table's file: the names of its columns, and then `count` records of numbers
unfoldable pub table_records : List (List ℕ) → (ℕ → List ℕ) → ℕ → List (List (List ℕ))
table_records columns numbers count = columns ∷ map (λ i. map decimal (numbers i)) (range_with_len 0 count)

unfoldable pub product_records : List (List (List ℕ))
product_records = table_records product_columns product products

unfoldable pub item_records : ℕ → List (List (List ℕ))
item_records number = table_records item_columns (item number) items

unfoldable pub order_records : ℕ → List (List (List ℕ))
order_records number = table_records order_columns (order number) orders

unfoldable pub customer_records : ℕ → List (List (List ℕ))
customer_records number = table_records customer_columns (customer number) customers

-- the text of a record: its fields with commas between them, then CR and LF
abbrev pub record_text : List (List ℕ) → List ℕ
record_text fields = join_with_byte 44 fields ++ codes "\r\n"

-- the text of a file with these records
unfoldable pub file_text : List (List (List ℕ)) → List ℕ
file_text records = flat_map record_text records

-- the files for this shop number, each with its name
abbrev pub demo_files : ℕ → Files
demo_files number =
    (codes "schema.sql", schema_text)
    ∷ (codes "query.sql", query_text)
    ∷ (codes "product.csv", file_text product_records)
    ∷ (codes "item.csv", file_text (item_records number))
    ∷ (codes "orders.csv", file_text (order_records number))
    ∷ (codes "customer.csv", file_text (customer_records number))
    ∷ []
