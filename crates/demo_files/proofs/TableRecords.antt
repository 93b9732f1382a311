-- The fields of the records are names and numerals, which need no quotes. So reading a file gives its records back.
use Rattle.std.proofs.Common.{◌≡◌, inl, inr, ℕ, suc, zero, ◌+◌, ◌*◌, ◌%◌, ◌^◌, ◌<◌, List, [], ◌∷◌, length, map, decimal, refl, sym, subst, arith, rules}
use Rattle.std.specs.Prelude.{◌==◌}
use Rattle.std.specs.Fmt.{digits}
use Rattle.std.specs.Int.Digits.{digits_of}
use Rattle.std.specs.List.{range_with_len}
use Rattle.std.proofs.lemmas.Bool.{cases_Bool}
use Rattle.std.proofs.lemmas.Fmt.{decimal-digits_of, decimal_nonempty}
use Rattle.csv.specs.Reading.{default_config, records, strip_bom}
use Rattle.demo_files.specs.Files.{customer_records, file_text, item_records, order_records, product_records, record_text, table_records}
use Rattle.demo_files.specs.Shop.{customer, customers, customer_columns, item, items, item_columns, product_of_item}
use Rattle.demo_files.specs.Shop.{order, orders, order_columns, product, products, product_columns}
use Rattle.demo_files.proofs.ReadBack.{AreAtLeast48, AreRecords, IsField, IsRecord, read_back}

abbrev IsReadBack : List (List (List ℕ)) → Type 0
IsReadBack rs = records default_config (strip_bom (file_text rs)) ≡ rs

digits_at_least_48 : (ds : List ℕ) → AreAtLeast48 (map (λ d. 48 + d) ds)
digits_at_least_48 [] = tt
digits_at_least_48 (d ∷ ds) = (omega arith, digits_at_least_48 ds)

field_if_not_empty : (x : List ℕ) → 0 < length x → AreAtLeast48 x → IsField x
field_if_not_empty [] some h = absurd (omega (arith, some))
field_if_not_empty (b ∷ bs) some h = h

zero_is_field : IsField (decimal 0)
unfolding digits
zero_is_field = (omega arith, tt)

numeral_is_field : (n : ℕ) → n < 2 ^ 64 → IsField (decimal n)
numeral_is_field zero small = zero_is_field
numeral_is_field (suc n) small =
    field_if_not_empty (decimal (suc n)) (decimal_nonempty (suc n) small)
    (subst AreAtLeast48 (sym (decimal-digits_of (suc n) (omega arith) small)) (digits_at_least_48 (digits_of 10 (suc n))))

records_of_rows : (numbers : ℕ → List ℕ) (a n : ℕ) → ((i : ℕ) → i < a + n → IsRecord (map decimal (numbers i)))
    → AreRecords (map (λ i. map decimal (numbers i)) (range_with_len a n))
records_of_rows numbers a zero each = tt
records_of_rows numbers a (suc n) each = (each a (omega arith), records_of_rows numbers (a + 1) n (λ i less. each i (omega (arith, less))))

table_is_read_back : (columns : List (List ℕ)) (numbers : ℕ → List ℕ) (count b : ℕ) (bs : List ℕ) → record_text columns ≡ b ∷ bs → b < 128
    → IsRecord columns → ((i : ℕ) → i < count → IsRecord (map decimal (numbers i))) → IsReadBack (table_records columns numbers count)
unfolding table_records
table_is_read_back columns numbers count b bs begins small names each =
    read_back columns (map (λ i. map decimal (numbers i)) (range_with_len 0 count)) b bs begins small
    (names, records_of_rows numbers 0 count (λ i less. each i (omega (arith, less))))

product_in_64_bits : (i : ℕ) → product_of_item i < 2 ^ 64
product_in_64_bits i = elim (cases_Bool (i % 2 == 0)) [
  | inl even ↦ rw even (omega arith)
  | inr odd ↦ rw odd (omega arith)
]

pub products_read : IsReadBack product_records
unfolding product_records
products_read = table_is_read_back product_columns product products 73 _ refl (omega arith) (search rules)
    (λ i less. (numeral_is_field i (omega (arith, less)), (numeral_is_field (i % 4) (omega arith), tt)))

pub items_read : (number : ℕ) → IsReadBack (item_records number)
unfolding item_records
items_read number = table_is_read_back item_columns (item number) items 79 _ refl (omega arith) (search rules)
    (λ i less. (numeral_is_field ((3 * i + number) % orders) (omega arith), (numeral_is_field (product_of_item i) (product_in_64_bits i), tt)))

pub orders_read : (number : ℕ) → IsReadBack (order_records number)
unfolding order_records
orders_read number = table_is_read_back order_columns (order number) orders 73 _ refl (omega arith) (search rules)
    (λ i less. (
      numeral_is_field i (omega (arith, less)),
      (numeral_is_field ((7 * i + number) % customers) (omega arith), (numeral_is_field (i % 100) (omega arith), tt)),
    ))

pub customers_read : (number : ℕ) → IsReadBack (customer_records number)
unfolding customer_records
customers_read number = table_is_read_back customer_columns (customer number) customers 73 _ refl (omega arith) (search rules)
    (λ i less. (numeral_is_field i (omega (arith, less)), (numeral_is_field ((i + number) % 10) (omega arith), tt)))
