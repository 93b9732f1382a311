-- Each value has a number of its own: two values have the same number exactly if they are equal.
use Rattle.std.proofs.Common.{◌≡◌, ℕ, ℤ, zero, suc, pos, ◌+◌, ◌*◌, ◌<◌, true, List, [], ◌∷◌, refl, ap, sym, ◌∙◌, arith}
use Rattle.std.specs.Prelude.{negsuc}
use Rattle.std.specs.Cmp.Lexicographic.{slice_cmp}
use Rattle.std.specs.Ordering.{int_cmp, is_eq, nat_cmp}
use Rattle.std.specs.Str.{chars}
use Rattle.std.proofs.lemmas.Bool.{false≢true}
use Rattle.std.proofs.lemmas.Cmp.{int_cmp_total, nat_list_cmp_total, tied_itself}
use Rattle.std.proofs.lemmas.Map.Lookups.{exact_bytes, exact_signed}
use Rattle.berge_tree.specs.declared.edges.Edge.{Edge}
use Rattle.csv_tables.specs.Values.{Value, Int, Text}
use Rattle.level_bounds.specs.Keys.{AreKeys, Keys, value_at}
use Rattle.sql_meaning.specs.Tables.{Tables}
use Rattle.table_stats.specs.Keys.{SeparatesValues}
use Rattle.table_stats.proofs.EqualValues.{equal_order, is_equal}

-- ---- a number for a list of numbers

-- this is the odd number 2n + 1, doubled `times` times
doubled : ℕ → ℕ → ℕ
doubled zero n = 2 * n + 1
doubled (suc times) n = 2 * doubled times n

doubled-positive : (times n : ℕ) → 0 < doubled times n
unfolding doubled
doubled-positive zero n = omega arith
doubled-positive (suc times) n = omega (arith, doubled-positive times n)

doubled-apart : (a m b n : ℕ) → doubled a m ≡ doubled b n → (a ≡ b) × (m ≡ n)
unfolding doubled
doubled-apart zero m zero n same = (refl, omega arith)
doubled-apart zero m (suc b) n same = absurd (omega arith)
doubled-apart (suc a) m zero n same = absurd (omega arith)
doubled-apart (suc a) m (suc b) n same =
    let rest : (a ≡ b) × (m ≡ n) = doubled-apart a m b n (omega arith) in (ap suc rest.0, rest.1)

number_of_list : List ℕ → ℕ
number_of_list [] = 0
number_of_list (x ∷ xs) = doubled x (number_of_list xs)

list-apart : (xs ys : List ℕ) → number_of_list xs ≡ number_of_list ys → xs ≡ ys
unfolding number_of_list
list-apart [] [] same = refl
list-apart [] (y ∷ ys) same = absurd (omega (arith, same, doubled-positive y (number_of_list ys)))
list-apart (x ∷ xs) [] same = absurd (omega (arith, same, doubled-positive x (number_of_list xs)))
list-apart (x ∷ xs) (y ∷ ys) same =
    let parts : (x ≡ y) × (number_of_list xs ≡ number_of_list ys) = doubled-apart x (number_of_list xs) y (number_of_list ys) same in
    rw (parts.0, list-apart xs ys parts.1) refl

-- ---- a number for a value

number_of_int : ℤ → ℕ
number_of_int (pos n) = 2 * n
number_of_int (negsuc n) = 2 * n + 1

int-apart : (a b : ℤ) → number_of_int a ≡ number_of_int b → a ≡ b
unfolding number_of_int
int-apart (pos a) (pos b) same = ap pos (omega (arith, same))
int-apart (pos a) (negsuc b) same = absurd (omega (arith, same))
int-apart (negsuc a) (pos b) same = absurd (omega (arith, same))
int-apart (negsuc a) (negsuc b) same = ap negsuc (omega (arith, same))

pub number_of_value : Value → ℕ
number_of_value (Int number) = 2 * number_of_int number
number_of_value (Text text) = 2 * number_of_list (chars text) + 1

pub equal_values_one_number : (a b : Value) → is_equal a b ≡ true → number_of_value a ≡ number_of_value b
unfolding number_of_value
equal_values_one_number (Int a) (Int b) h = ap (λ n. 2 * number_of_int n) (exact_signed a b (equal_order (int_cmp a b) h))
equal_values_one_number (Int a) (Text b) h = absurd (false≢true h)
equal_values_one_number (Text a) (Int b) h = absurd (false≢true h)
equal_values_one_number (Text a) (Text b) h = ap (λ cs. 2 * number_of_list cs + 1) (exact_bytes (chars a) (chars b) (equal_order (slice_cmp nat_cmp (chars a) (chars b)) h))

pub one_number_equal_values : (a b : Value) → number_of_value a ≡ number_of_value b → is_equal a b ≡ true
unfolding number_of_value
one_number_equal_values (Int a) (Int b) same =
    ap (λ n. is_eq (int_cmp a n)) (sym (int-apart a b (omega (arith, same)))) ∙ ap is_eq (tied_itself int_cmp_total a)
one_number_equal_values (Int a) (Text b) same = absurd (omega (arith, same))
one_number_equal_values (Text a) (Int b) same = absurd (omega (arith, same))
one_number_equal_values (Text a) (Text b) same =
    ap (λ cs. is_eq (slice_cmp nat_cmp (chars a) cs)) (sym (list-apart (chars a) (chars b) (omega (arith, same))))
    ∙ ap is_eq (tied_itself nat_list_cmp_total (chars a))

-- ---- keys of tables

module _ (tables : Tables) where
  value_key : Keys
  value_key entry column row = number_of_value (value_at tables entry column row)

  separates_values : (entry column : ℕ) → SeparatesValues tables entry column (value_key entry column)
  unfolding value_key
  separates_values entry column row other is_below also = (
    one_number_equal_values (value_at tables entry column row) (value_at tables entry column other),
    equal_values_one_number (value_at tables entry column row) (value_at tables entry column other),
  )

  are_keys : (es : List Edge) → AreKeys tables value_key es
  unfolding value_key
  are_keys [] = tt
  are_keys (e ∷ es) = (
    (λ left right is_below also h.
        equal_values_one_number (value_at tables e.left.entry e.left.column left) (value_at tables e.right.entry e.right.column right) h),
    are_keys es,
  )

  pub have_keys : (key : Keys) × ((entry column : ℕ) → SeparatesValues tables entry column (key entry column)) × ((es : List Edge) → AreKeys tables key es)
  have_keys = (value_key, separates_values, are_keys)
