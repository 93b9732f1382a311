-- The row to which a row refers is found by its cell.
use Rattle.std.proofs.Common.{◌≡◌, ℕ, ◌+◌, ◌<◌, Bool, cond, eqb, ltb, List, [], ◌∷◌, ◌++◌, length, map, get_or, Option, None, Some, option_map, refl, ap, sym, ◌∙◌, arith}
use Rattle.std.specs.Prelude.{All, IsUtf8}
use Rattle.std.specs.List.{cons_option, filter_map, position_or_len, range_with_len}
use Rattle.std.specs.Ordering.{is_eq}
use Rattle.std.proofs.lemmas.Bool.{eq-eqb, le-ltb, lt-ltb, ne_eqb}
use Rattle.std.proofs.lemmas.List.{append-nil, map-append}
use Rattle.std.proofs.lemmas.List.Elements.{filter_map-append}
use Rattle.std.proofs.lemmas.List.FromFn.{get_or-range_with_len, length-range_with_len}
use Rattle.std.proofs.lemmas.List.Sums.{position_or_len_is}
use Rattle.berge_tree.specs.declared.edges.Edge.{Edge}
use Rattle.schema_types.specs.declared.types.Kind.{Kind}
use Rattle.schema_types.specs.declared.types.Kind.TheVariants as kind
use Rattle.csv_tables.specs.Cells.{value_of_cell}
use Rattle.csv_tables.specs.Pools.{TextsAreDifferent}
use Rattle.csv_tables.specs.Values.{Value, value_cmp}
use Rattle.csv_tables.specs.declared.types.Database.{Database}
use Rattle.link_index.specs.Places.{IsPlaceOf}
use Rattle.sql_meaning.specs.Databases.{AreTables}
use Rattle.sql_meaning.specs.Tables.{cells_of, row_counts, tables_of}
use Rattle.sql_meaning.proofs.LoopFacts.{rows_are}
use Rattle.level_bounds.specs.Keys.{are_equal_at, value_at}
use Rattle.join_steps.specs.Columns.{column_cells}
use Rattle.join_steps.proofs.Cells.{cell_count, cell_of_row, kind_at, same_cells, value_by_cell}
use Rattle.key_carriers.specs.Cells.{AreOfOneKind, column_at_place, widened_to, with_found, with_other}
use Rattle.key_carriers.specs.Widened.{referred_row, widened_row, row_pair}
use Rattle.key_carriers.proofs.Ascending.{range_more}

module _ (db : Database) (e : Edge) (tables : AreTables db) (different : TextsAreDifferent db.pool) (utf8 : All IsUtf8 db.pool) (one : AreOfOneKind db e) where
  abbrev left_cells : List ℕ
  left_cells = column_cells db (column_at_place e.left)

  abbrev right_cells : List ℕ
  right_cells = column_cells db (column_at_place e.right)

  pub left_count : length left_cells ≡ row_counts (tables_of db) e.left.entry
  left_count = cell_count db (column_at_place e.left) tables one.left.exists ∙ sym (rows_are db e.left.entry)

  pub right_count : length right_cells ≡ row_counts (tables_of db) e.right.entry
  right_count = cell_count db (column_at_place e.right) tables one.right.exists ∙ sym (rows_are db e.right.entry)

  module _ (row : ℕ) (row_exists : row < row_counts (tables_of db) e.left.entry) where
    abbrev left_kind : Kind
    left_kind = get_or (cells_of db e.left.entry).kinds e.left.column kind.Int

    abbrev right_kind : Kind
    right_kind = get_or (cells_of db e.right.entry).kinds e.right.column kind.Int

    abbrev cell : ℕ
    cell = get_or left_cells row 0

    cells_tell : (other : ℕ) → other < row_counts (tables_of db) e.right.entry → are_equal_at (tables_of db) e row other ≡ eqb cell (get_or right_cells other 0)
    cells_tell other high =
        let below : row < (cells_of db e.left.entry).rows = omega (arith, row_exists, rows_are db e.left.entry) in
        let beside : other < (cells_of db e.right.entry).rows = omega (arith, high, rows_are db e.right.entry) in
        ap (λ (v : Value). is_eq (value_cmp v (value_at (tables_of db) e.right.entry e.right.column other))) (value_by_cell db (column_at_place e.left) (λ x. row) tables one.left.exists below)
        ∙ ap (λ (v : Value). is_eq (value_cmp (value_of_cell db.pool left_kind cell) v)) (value_by_cell db (column_at_place e.right) (λ x. other) tables one.right.exists beside)
        ∙ same_cells db.pool different utf8 left_kind right_kind cell (get_or right_cells other 0)
        (kind_at db (column_at_place e.left) one.text one.left ∙ sym (kind_at db (column_at_place e.right) one.text one.right))
        (cell_of_row db (column_at_place e.left) row tables one.left.exists below) (cell_of_row db (column_at_place e.right) other tables one.right.exists beside)

    abbrev others : List ℕ
    others = range_with_len 0 (row_counts (tables_of db) e.right.entry)

    abbrev passes : ℕ → Bool
    passes other = are_equal_at (tables_of db) e row other

    passes_at : (k : ℕ) → k < row_counts (tables_of db) e.right.entry → passes (get_or others k 0) ≡ eqb cell (get_or right_cells k 0)
    passes_at k row_exists = ap passes (get_or-range_with_len 0 (row_counts (tables_of db) e.right.entry) k 0 row_exists ∙ omega arith) ∙ cells_tell k row_exists

    pub first_is : (o : Option ℕ) → IsPlaceOf right_cells cell 0 o → o ≡ referred_row (tables_of db) e row
    first_is (Some place) is =
        let below : place < row_counts (tables_of db) e.right.entry = omega (arith, is.below_end, right_count) in
        let lengths : length others ≡ row_counts (tables_of db) e.right.entry = length-range_with_len 0 (row_counts (tables_of db) e.right.entry) in
        let at : position_or_len passes others ≡ place =
        position_or_len_is passes others place 0 (omega (arith, below, lengths))
        (λ k less. passes_at k (omega (arith, less, below)) ∙ ne_eqb cell (get_or right_cells k 0) (λ same. is.least k (omega arith) less (sym same)))
        (λ within. passes_at place below ∙ eq-eqb cell (get_or right_cells place 0) (sym is.holds)) in
        sym (ap (λ (n : ℕ). cond (ltb n (length others)) (Some n) None) at ∙ ap (λ (b : Bool). cond b (Some place) None) (lt-ltb place (length others) (omega (arith, below, lengths))))
    first_is None is =
        let lengths : length others ≡ row_counts (tables_of db) e.right.entry = length-range_with_len 0 (row_counts (tables_of db) e.right.entry) in
        let at : position_or_len passes others ≡ length others =
        position_or_len_is passes others (length others) 0 (omega arith)
        (λ k less. let row_exists : k < row_counts (tables_of db) e.right.entry = omega (arith, less, lengths) in
        passes_at k row_exists ∙ ne_eqb cell (get_or right_cells k 0) (λ same. is k (omega arith) (omega (arith, row_exists, right_count)) (sym same)))
        (λ within. absurd (omega arith)) in
        sym (ap (λ (n : ℕ). cond (ltb n (length others)) (Some n) None) at ∙ ap (λ (b : Bool). cond b (Some (length others)) None) (le-ltb (length others) (length others) (omega arith)))

-- ---- the widened table after one more row of the left entry

module _ (db : Database) (e : Edge) where
  to_more : (row : ℕ) → widened_to (tables_of db) e (row + 1) ≡ widened_to (tables_of db) e row ++ cons_option (widened_row (tables_of db) e row) []
  to_more row =
      ap (filter_map (widened_row (tables_of db) e)) (range_more 0 row row (omega arith)) ∙ filter_map-append (widened_row (tables_of db) e) (range_with_len 0 row) (row ∷ [])

  module _ (row : ℕ) (other : Option ℕ) (is : other ≡ referred_row (tables_of db) e row) (old new : List ℕ) where
    pub row_added : old ≡ map (λ pair. pair.0) (widened_to (tables_of db) e row) → new ≡ with_found old row other → new ≡ map (λ pair. pair.0) (widened_to (tables_of db) e (row + 1))
    row_added before added =
        added ∙ found_is other ∙ ap (λ (s : List ℕ). s ++ map (λ pair. pair.0) (cons_option (option_map (row_pair row) other) [])) before
        ∙ ap (λ (o : Option ℕ). map (λ pair. pair.0) (widened_to (tables_of db) e row) ++ map (λ pair. pair.0) (cons_option (option_map (row_pair row) o) [])) is
        ∙ sym (map-append (λ (pair : ℕ × ℕ). pair.0) (widened_to (tables_of db) e row) (cons_option (widened_row (tables_of db) e row) []))
        ∙ ap (map (λ pair. pair.0)) (sym (to_more row))
      where
        found_is : (o : Option ℕ) → with_found old row o ≡ old ++ map (λ pair. pair.0) (cons_option (option_map (row_pair row) o) [])
        found_is None = sym (append-nil old)
        found_is (Some other) = refl

    pub other_added : old ≡ map (λ pair. pair.1) (widened_to (tables_of db) e row) → new ≡ with_other old other → new ≡ map (λ pair. pair.1) (widened_to (tables_of db) e (row + 1))
    other_added before added =
        added ∙ other_is other ∙ ap (λ (s : List ℕ). s ++ map (λ pair. pair.1) (cons_option (option_map (row_pair row) other) [])) before
        ∙ ap (λ (o : Option ℕ). map (λ pair. pair.1) (widened_to (tables_of db) e row) ++ map (λ pair. pair.1) (cons_option (option_map (row_pair row) o) [])) is
        ∙ sym (map-append (λ (pair : ℕ × ℕ). pair.1) (widened_to (tables_of db) e row) (cons_option (widened_row (tables_of db) e row) []))
        ∙ ap (map (λ pair. pair.1)) (sym (to_more row))
      where
        other_is : (o : Option ℕ) → with_other old o ≡ old ++ map (λ pair. pair.1) (cons_option (option_map (row_pair row) o) [])
        other_is None = sym (append-nil old)
        other_is (Some other) = refl
