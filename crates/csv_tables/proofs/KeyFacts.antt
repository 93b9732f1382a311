-- Two rows have the same values in a key exactly if they have the same cells in the key's columns.
use Rattle.std.proofs.Common.{◌≡◌, ℕ, zero, suc, ◌+◌, ◌^◌, ◌<◌, Bool, true, false, ◌&&◌, List, [], ◌∷◌, ◌++◌, length, get_or, map, drop, Option, None, Some, Err, refl, sym, ap, ◌∙◌, subst, arith, length-append, append_assoc, append-nil, add-one, inl, inr}
use Rattle.std.specs.Prelude.{◌==◌, nat_lt, All, position, if◌then◌else◌, pos}
use Rattle.std.specs.List.{position_or_len}
use Rattle.std.specs.Int.{w64}
use Rattle.std.specs.Ordering.{int_eq}
use Rattle.std.specs.Str.{bytes_eq}
use Rattle.std.proofs.Math.ListN.{get_or-append}
use Rattle.std.proofs.Math.Seq.{get_or-append_seam}
use Rattle.std.proofs.lemmas.Bool.{cases_eq, cases_lt, eqb-true, ne_eqb}
use Rattle.std.proofs.lemmas.Bool.Decides.{Decides-int_eq}
use Rattle.std.proofs.lemmas.List.{drop_all, drop_more, length-map}
use Rattle.std.proofs.lemmas.List.Elements.{All-cons, All-get_or, All-head, All-nil, All-tail}
use Rattle.std.proofs.lemmas.Int.{of_z-to_z}
use Rattle.std.proofs.lemmas.List.Sums.{position_or_len_is}
use Rattle.std.proofs.lemmas.Slice.Eq.{bytes_eq-Decides}
use Rattle.std.specs.Cmp.{both_ways}
use Rattle.schema_types.specs.Validity.{AreColumnsOf, IsValidTable}
use Rattle.schema_types.specs.declared.types.Column.{Column}
use Rattle.schema_types.specs.declared.types.Table.{Table}
use Rattle.schema_types.specs.declared.types.Kind.{Kind}
use Rattle.schema_types.specs.declared.types.Kind.TheVariants as kind
use Rattle.csv_tables.specs.declared.types.Repeat.{Repeat}
use Rattle.csv_tables.specs.declared.types.TableError.TheVariants as error
use Rattle.csv_tables.specs.Cells.{value_of_cell, row_of_columns, rows_of_columns, AreColumns, IsCell}
use Rattle.csv_tables.specs.FirstPlaces.{have_same_cells, repeat_from, AreFirsts, IsFirst, IsRepeat}
use Rattle.csv_tables.specs.Keys.{are_same, first_repeat, key_values, or_rows, repeat_after, repeat_or, rows_with_keys}
use Rattle.csv_tables.specs.Numbers.{bits_of, number_in}
use Rattle.csv_tables.specs.Pools.{TextsAreDifferent}
use Rattle.csv_tables.specs.Reads.{kinds_of}
use Rattle.csv_tables.specs.Rows.{Row}
use Rattle.csv_tables.proofs.TableFacts.{columns_long}
use Rattle.csv_tables.specs.Values.{Value, Int, is_same}

pub bits_back : (x : ℕ) → x < 2 ^ 64 → bits_of (number_in x) ≡ x
bits_back x l = of_z-to_z w64 x l

same_value : (texts : List (List ℕ)) → TextsAreDifferent texts → (k : Kind) (x y : ℕ) → IsCell texts k x → IsCell texts k y
    → is_same (value_of_cell texts k x) (value_of_cell texts k y) ≡ (x == y)
same_value texts different kind.Int x y p q =
    both_ways (int_eq (number_in x) (number_in y)) (x == y)
    (λ e.
    let same : x ≡ y = sym (bits_back x p) ∙ ap bits_of ((Decides-int_eq (number_in x) (number_in y)).0 e) ∙ bits_back y q in
    grind (arith, same))
    (λ e. (Decides-int_eq (number_in x) (number_in y)).1 (ap number_in (eqb-true x y e)))
same_value texts different (kind.Text most) x y p q =
    both_ways (bytes_eq (get_or texts x []) (get_or texts y [])) (x == y)
    (λ e.
    let same : x ≡ y = same_place x y p q ((bytes_eq-Decides (get_or texts x []) (get_or texts y [])).0 e) in
    grind (arith, same))
    (λ e. (bytes_eq-Decides (get_or texts x []) (get_or texts y [])).1 (ap (λ n. get_or texts n []) (eqb-true x y e)))
  where
    same_place : (a b : ℕ) → a < length texts → b < length texts → get_or texts a [] ≡ get_or texts b [] → a ≡ b
    same_place a b l m e = elim (cases_lt a b) [
      | inl lt ↦ absurd (different a b [] lt m e)
      | inr ge ↦ elim (cases_eq a b) [ inl h ↦ h | inr ne ↦ let lt : b < a = omega (arith, ge, ne) in absurd (different b a [] lt l (sym e)) ]
    ]

cell_value : (texts : List (List ℕ)) (rows row : ℕ) (kinds : List Kind) (columns : List (List ℕ)) (column : ℕ) (d : Value) → row < rows → column < length columns
    → AreColumns texts rows kinds columns
    → get_or (row_of_columns texts kinds columns row) column d ≡ value_of_cell texts (get_or kinds column kind.Int) (get_or (get_or columns column []) row 0)
cell_value texts rows row [] [] column d l m h = absurd (omega (arith, m))
cell_value texts rows row [] (c ∷ cs) column d l m h = absurd h
cell_value texts rows row (k ∷ ks) [] column d l m h = absurd h
cell_value texts rows row (k ∷ ks) (c ∷ cs) zero d l m h = refl
cell_value texts rows row (k ∷ ks) (c ∷ cs) (suc column) d l m h = cell_value texts rows row ks cs column d l (omega (arith, m)) h.1

cell_there : (texts : List (List ℕ)) (rows row : ℕ) (kinds : List Kind) (columns : List (List ℕ)) (column : ℕ) → row < rows → column < length columns
    → AreColumns texts rows kinds columns → IsCell texts (get_or kinds column kind.Int) (get_or (get_or columns column []) row 0)
cell_there texts rows row [] [] column l m h = absurd (omega (arith, m))
cell_there texts rows row [] (c ∷ cs) column l m h = absurd h
cell_there texts rows row (k ∷ ks) [] column l m h = absurd h
cell_there texts rows row (k ∷ ks) (c ∷ cs) zero l m h =
    let within : row < length c = omega (arith, h.0.height, l) in All-get_or (IsCell texts k) c row 0 within h.0.cells
cell_there texts rows row (k ∷ ks) (c ∷ cs) (suc column) l m h = cell_there texts rows row ks cs column l (omega (arith, m)) h.1

same_values : (texts : List (List ℕ)) → TextsAreDifferent texts → (rows i j : ℕ) (kinds : List Kind) (columns : List (List ℕ)) → i < rows → j < rows → AreColumns texts rows kinds columns
    → (key : List ℕ) → All (λ column. column < length columns) key
    → are_same (key_values key (row_of_columns texts kinds columns i)) (key_values key (row_of_columns texts kinds columns j)) ≡ have_same_cells columns key i j
same_values texts different rows i j kinds columns l m h [] there = refl
same_values texts different rows i j kinds columns l m h (c ∷ key) there =
    let within : c < length columns = All-head (λ column. column < length columns) c key there in
    let d = Int (pos 0) in
    let a = row_of_columns texts kinds columns i in
    let b = row_of_columns texts kinds columns j in
    ap (λ v. is_same v (get_or b c d) && are_same (key_values key a) (key_values key b)) (cell_value texts rows i kinds columns c d l within h)
    ∙ ap (λ v. is_same (value_of_cell texts (get_or kinds c kind.Int) (get_or (get_or columns c []) i 0)) v && are_same (key_values key a) (key_values key b)) (cell_value texts rows j kinds columns c d m within h)
    ∙ ap (λ t. t && are_same (key_values key a) (key_values key b))
    (same_value texts different (get_or kinds c kind.Int) (get_or (get_or columns c []) i 0) (get_or (get_or columns c []) j 0)
    (cell_there texts rows i kinds columns c l within h) (cell_there texts rows j kinds columns c m within h))
    ∙ ap (λ t. (get_or (get_or columns c []) i 0 == get_or (get_or columns c []) j 0) && t)
    (same_values texts different rows i j kinds columns l m h key (All-tail (λ column. column < length columns) c key there))

place_there : {X : Type 0} (p : X → Bool) (xs : List X) (i : ℕ) (d : X) → i < length xs → p (get_or xs i d) ≡ true → ((k : ℕ) → k < i → p (get_or xs k d) ≡ false) → position p xs ≡ Some i
place_there p xs i d l passes fails =
    let at : i ≡ position_or_len p xs = sym (position_or_len_is p xs i d (omega (arith, l)) fails (λ m. passes)) in
    let test : nat_lt i (length xs) ≡ true = grind (arith, l) in
    ap (λ n. if nat_lt n (length xs) then Some n else None) (sym at) ∙ rw test refl

place_nowhere : {X : Type 0} (p : X → Bool) (xs : List X) (d : X) → ((k : ℕ) → k < length xs → p (get_or xs k d) ≡ false) → position p xs ≡ None
place_nowhere p xs d fails =
    let at : length xs ≡ position_or_len p xs = sym (position_or_len_is p xs (length xs) d (omega arith) fails (λ m. absurd (omega (arith, m)))) in
    let test : nat_lt (length xs) (length xs) ≡ false = grind arith in
    ap (λ n. if nat_lt n (length xs) then Some n else None) (sym at) ∙ rw test refl

repeats : (like : ℕ → ℕ → Bool) (all : List (List Value)) (first_places : List ℕ) → length first_places ≡ length all → AreFirsts like first_places
    → ((i j : ℕ) → i < length all → j < length all → are_same (get_or all i []) (get_or all j []) ≡ like i j)
    → (seen rest : List (List Value)) → all ≡ seen ++ rest → repeat_after seen rest ≡ repeat_from (length seen) (drop (length seen) first_places)
repeats like all first_places lengths firsts same seen [] e =
    let size : length all ≡ length seen = ap length e ∙ ap length (append-nil seen) in
    ap (repeat_from (length seen)) (sym (drop_all (length seen) first_places (omega (arith, lengths, size))))
repeats like all first_places lengths firsts same seen (x ∷ rest) e =
    let at = length seen in
    let size : length all ≡ length seen + suc (length rest) = ap length e ∙ length-append seen (x ∷ rest) in
    let within : at < length first_places = omega (arith, lengths, size) in
    let inside : at < length all = omega (arith, size) in
    let first = get_or first_places at 0 in
    let known : IsFirst like at first = firsts at within in
    let this : get_or all at [] ≡ x = ap (λ l. get_or l at []) e ∙ get_or-append_seam seen x rest [] in
    let tests : (k : ℕ) → k < at → are_same x (get_or seen k []) ≡ like at k =
    λ k l.
    let there : get_or all k [] ≡ get_or seen k [] = ap (λ l. get_or l k []) e ∙ get_or-append seen (x ∷ rest) [] k l in
    ap (λ v. are_same v (get_or seen k [])) (sym this) ∙ ap (are_same (get_or all at [])) (sym there) ∙ same at k inside (omega (arith, l, inside)) in
    let next : repeat_after (seen ++ x ∷ []) rest ≡ repeat_from (length (seen ++ x ∷ [])) (drop (length (seen ++ x ∷ [])) first_places) =
    repeats like all first_places lengths firsts same (seen ++ x ∷ []) rest (e ∙ sym (append_assoc seen (x ∷ []) rest)) in
    let one : length (seen ++ x ∷ []) ≡ at + 1 = length-append seen (x ∷ []) in
    let here : drop at first_places ≡ first ∷ drop (at + 1) first_places = drop_more first_places at 0 within in
    by seen x rest at first first_places known tests (next ∙ ap (λ n. repeat_from n (drop n first_places)) one) here refl
  where
    by : (seen : List (List Value)) (x : List Value) (rest : List (List Value)) (at first : ℕ) (first_places : List ℕ) → IsFirst like at first
        → ((k : ℕ) → k < at → are_same x (get_or seen k []) ≡ like at k)
        → repeat_after (seen ++ x ∷ []) rest ≡ repeat_from (at + 1) (drop (at + 1) first_places)
        → drop at first_places ≡ first ∷ drop (at + 1) first_places → at ≡ length seen
        → repeat_after seen (x ∷ rest) ≡ repeat_from at (drop at first_places)
    by seen x rest at first first_places known tests next here is = elim (cases_eq first at) [
      | inl same ↦
          let test : (first == at) ≡ true = grind (arith, same) in
          let none : position (are_same x) seen ≡ None = place_nowhere (are_same x) seen [] (λ k l. tests k (omega (arith, l, is)) ∙ known.least k (omega (arith, l, is, same))) in
          ap (λ o. repeat_or (repeat_after (seen ++ x ∷ []) rest) o (length seen + 1)) none ∙ next
          ∙ sym (ap (repeat_from at) here ∙ ap (λ t. if t then repeat_from (at + 1) (drop (at + 1) first_places) else Some (record { later = at + 1; earlier = first + 1 })) test)
      | inr ne ↦
          let test : (first == at) ≡ false = ne_eqb first at ne in
          let less : first < at = omega (arith, ne, known.at_most) in
          let some : position (are_same x) seen ≡ Some first =
          place_there (are_same x) seen first [] (omega (arith, less, is)) (tests first less ∙ known.same) (λ k l. tests k (omega (arith, l, less)) ∙ known.least k l) in
          ap (λ o. repeat_or (repeat_after (seen ++ x ∷ []) rest) o (length seen + 1)) some
          ∙ ap (λ n. Some (record { later = n + 1; earlier = first + 1 })) (sym is)
          ∙ sym (ap (repeat_from at) here ∙ ap (λ t. if t then repeat_from (at + 1) (drop (at + 1) first_places) else Some (record { later = at + 1; earlier = first + 1 })) test)
    ]

pub rows-length : (texts : List (List ℕ)) (kinds : List Kind) (columns : List (List ℕ)) (n : ℕ) → length (rows_of_columns texts kinds columns n) ≡ n
rows-length texts kinds columns zero = refl
rows-length texts kinds columns (suc n) =
    length-append (rows_of_columns texts kinds columns n) (row_of_columns texts kinds columns n ∷ []) ∙ ap (λ m. m + 1) (rows-length texts kinds columns n) ∙ add-one n

rows-at : (texts : List (List ℕ)) (kinds : List Kind) (columns : List (List ℕ)) (n row : ℕ) (d : Row) → row < n → get_or (rows_of_columns texts kinds columns n) row d ≡ row_of_columns texts kinds columns row
rows-at texts kinds columns zero row d l = absurd (omega (arith, l))
rows-at texts kinds columns (suc n) row d l = elim (cases_lt row n) [
  | inl lt ↦ get_or-append (rows_of_columns texts kinds columns n) (row_of_columns texts kinds columns n ∷ []) d row (omega (arith, lt, rows-length texts kinds columns n)) ∙ rows-at texts kinds columns n row d lt
  | inr ge ↦
      let e : row ≡ n = omega (arith, l, ge) in
      let size = rows-length texts kinds columns n in
      ap (λ m. get_or (rows_of_columns texts kinds columns n ++ row_of_columns texts kinds columns n ∷ []) m d) (e ∙ sym size)
      ∙ get_or-append_seam (rows_of_columns texts kinds columns n) (row_of_columns texts kinds columns n) [] d ∙ ap (row_of_columns texts kinds columns) (sym e)
]

map-at : (f : Row → List Value) (rows : List Row) (i : ℕ) (d : Row) → i < length rows → get_or (map f rows) i [] ≡ f (get_or rows i d)
map-at f [] i d l = absurd (omega (arith, l))
map-at f (r ∷ rows) zero d l = refl
map-at f (r ∷ rows) (suc i) d l = map-at f rows i d (omega (arith, l))

map-length : (f : Row → List Value) (rows : List Row) → length (map f rows) ≡ length rows
map-length f [] = refl
map-length f (r ∷ rows) = ap (λ n. suc n) (map-length f rows)

pub repeat_is : (texts : List (List ℕ)) → TextsAreDifferent texts → (rows : ℕ) (kinds : List Kind) (columns : List (List ℕ)) → AreColumns texts rows kinds columns
    → (key : List ℕ) → All (λ column. column < length columns) key → (found : Option Repeat) → IsRepeat columns key rows found
    → first_repeat key (rows_of_columns texts kinds columns rows) ≡ found
repeat_is texts different rows kinds columns h key there found is =
    let stated = rows_of_columns texts kinds columns rows in
    let all = map (key_values key) stated in
    let size : length all ≡ rows = map-length (key_values key) stated ∙ rows-length texts kinds columns rows in
    let at : (i : ℕ) → i < length all → get_or all i [] ≡ key_values key (row_of_columns texts kinds columns i) =
    λ i l. map-at (key_values key) stated i [] (omega (arith, l, size, rows-length texts kinds columns rows)) ∙ ap (key_values key) (rows-at texts kinds columns rows i [] (omega (arith, l, size))) in
    repeats (have_same_cells columns key) all is.first_places (is.lengths ∙ sym size) is.firsts
    (λ i j l m. ap (λ v. are_same v (get_or all j [])) (at i l) ∙ ap (are_same (key_values key (row_of_columns texts kinds columns i))) (at j m)
    ∙ same_values texts different rows i j kinds columns (omega (arith, l, size)) (omega (arith, m, size)) h key there)
    [] all refl
    ∙ sym is.found_is

pub columns_heights : (texts : List (List ℕ)) (rows : ℕ) (kinds : List Kind) (columns : List (List ℕ)) → AreColumns texts rows kinds columns → All (λ column. length column ≡ rows) columns
columns_heights texts rows [] [] h = All-nil (λ (column : List ℕ). length column ≡ rows)
columns_heights texts rows [] (c ∷ cs) h = absurd h
columns_heights texts rows (k ∷ ks) [] h = absurd h
columns_heights texts rows (k ∷ ks) (c ∷ cs) h = All-cons (λ (column : List ℕ). length column ≡ rows) c cs h.0.height (columns_heights texts rows ks cs h.1)

pub key_there : (table : Table) (texts : List (List ℕ)) (rows : ℕ) (columns : List (List ℕ)) (at : ℕ) (key : List ℕ) → IsValidTable table → AreColumns texts rows (kinds_of table.columns) columns
    → at < length table.keys → key ≡ get_or table.keys at key → All (λ column. column < length columns) key
key_there table texts rows columns at key valid h l is =
    let wide : length columns ≡ length table.columns = columns_long texts rows (kinds_of table.columns) columns h ∙ length-map table.columns (λ (c : Column). c.kind) in
    let these : All (λ column. column < length table.columns) key = subst (λ (k : List ℕ). All (λ column. column < length table.columns) k) (sym is) (All-get_or (AreColumnsOf table) table.keys at key l valid.keys) in
    subst (λ n. All (λ column. column < n) key) (sym wide) these

keys_next : (keys : List (List ℕ)) (at : ℕ) (key : List ℕ) (rows : List Row) → at < length keys → key ≡ get_or keys at key
    → rows_with_keys (drop at keys) rows ≡ or_rows rows (first_repeat key rows) (rows_with_keys (drop (at + 1) keys) rows)
keys_next keys at key rows l is = ap (λ ks. rows_with_keys ks rows) (drop_more keys at key l ∙ ap (λ k. k ∷ drop (at + 1) keys) (sym is))

module _ (table : Table) (texts : List (List ℕ)) (rows : ℕ) (columns : List (List ℕ)) (at : ℕ) (key : List ℕ) (found : Option Repeat)
    (valid : IsValidTable table) (different : TextsAreDifferent texts) (h : AreColumns texts rows (kinds_of table.columns) columns)
    (l : at < length table.keys) (key_is : key ≡ get_or table.keys at key) (repeat : IsRepeat columns key rows found) where
  next_is : rows_with_keys (drop at table.keys) (rows_of_columns texts (kinds_of table.columns) columns rows)
      ≡ or_rows (rows_of_columns texts (kinds_of table.columns) columns rows) found (rows_with_keys (drop (at + 1) table.keys) (rows_of_columns texts (kinds_of table.columns) columns rows))
  next_is =
      let stated = rows_of_columns texts (kinds_of table.columns) columns rows in
      keys_next table.keys at key stated l key_is
      ∙ ap (λ o. or_rows stated o (rows_with_keys (drop (at + 1) table.keys) stated)) (repeat_is texts different rows (kinds_of table.columns) columns h key (key_there table texts rows columns at key valid h l key_is) found repeat)

  pub key_bad : (r : Repeat) → found ≡ Some r → rows_with_keys (drop at table.keys) (rows_of_columns texts (kinds_of table.columns) columns rows) ≡ Err (error.Key r.later r.earlier)
  key_bad r e =
      let stated = rows_of_columns texts (kinds_of table.columns) columns rows in
      next_is ∙ ap (λ o. or_rows stated o (rows_with_keys (drop (at + 1) table.keys) stated)) e

  pub key_good : found ≡ None → rows_with_keys (drop at table.keys) (rows_of_columns texts (kinds_of table.columns) columns rows)
      ≡ rows_with_keys (drop (at + 1) table.keys) (rows_of_columns texts (kinds_of table.columns) columns rows)
  key_good e =
      let stated = rows_of_columns texts (kinds_of table.columns) columns rows in
      next_is ∙ ap (λ o. or_rows stated o (rows_with_keys (drop (at + 1) table.keys) stated)) e
