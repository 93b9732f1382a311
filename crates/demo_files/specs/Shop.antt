-- The tables of the shop: columns, number of records, and the numbers in each record. Records are counted from 0.
use Rattle.std.specs.Prelude.{ℕ, ◌+◌, ◌*◌, ◌/◌, ◌%◌, ◌==◌, if◌then◌else◌, List, [], ◌∷◌, codes}

abbrev pub products : ℕ
products = 20000

abbrev pub items : ℕ
items = 400000

abbrev pub orders : ℕ
orders = 200000

abbrev pub customers : ℕ
customers = 50000

abbrev pub product_columns : List (List ℕ)
product_columns = codes "ID" ∷ codes "KIND" ∷ []

-- a product's kind is its number modulo 4
abbrev pub product : ℕ → List ℕ
product i = i ∷ i % 4 ∷ []

abbrev pub item_columns : List (List ℕ)
item_columns = codes "ORDER_ID" ∷ codes "PRODUCT" ∷ []

-- items come in pairs. The first item of pair p has the product p modulo 10, so these ten products sell often. The second item has the product p
-- modulo the number of products
abbrev pub product_of_item : ℕ → ℕ
product_of_item i = if i % 2 == 0 then (i / 2) % 10 else (i / 2) % products

-- item i belongs to order 3 * i + the shop's number, modulo the number of orders
abbrev pub item : ℕ → ℕ → List ℕ
item shop i = (3 * i + shop) % orders ∷ product_of_item i ∷ []

abbrev pub order_columns : List (List ℕ)
order_columns = codes "ID" ∷ codes "CUSTOMER" ∷ codes "DAYNO" ∷ []

-- order i belongs to customer 7 * i + the shop's number, modulo the number of customers. Its day is i modulo 100
abbrev pub order : ℕ → ℕ → List ℕ
order shop i = i ∷ (7 * i + shop) % customers ∷ i % 100 ∷ []

abbrev pub customer_columns : List (List ℕ)
customer_columns = codes "ID" ∷ codes "REGION" ∷ []

-- customer i lives in region i + the shop's number, modulo 10
abbrev pub customer : ℕ → ℕ → List ℕ
customer shop i = i ∷ (i + shop) % 10 ∷ []
