-- The statistics of two columns of cells are equal to the statistics of the cells' values.
use Rattle.std.proofs.Common.{◌≡◌, ℕ, ◌*◌, ◌/◌, ◌<◌, Bool, true, eqb, List, [], ◌∷◌, length, map, get_or, pos, refl, ap, sym, ◌∙◌, subst, arith}
use Rattle.std.specs.List.{All, AllByRecursion, Contains, flat_map, list_any, range_with_len, zip}
use Rattle.std.proofs.Math.Path.{fun_ext}
use Rattle.std.proofs.lemmas.List.{get_or-map, length-map}
use Rattle.schema_types.specs.declared.types.Kind.{Kind}
use Rattle.csv_tables.specs.Cells.{IsCell, value_of_cell}
use Rattle.csv_tables.specs.Values.{Value, Int}
use Rattle.cond_stats.specs.Columns.{cell_le}
use Rattle.cond_stats.specs.Frequency.{frequent}
use Rattle.cond_stats.specs.Leaves.{cuts}
use Rattle.cond_stats.specs.Lists.{compressed_degrees, is_frequent, keys_with, list_of_node, rest, whole}
use Rattle.cond_stats.specs.Rows.{filter_values, joined_keys}
use Rattle.cond_stats.proofs.Members.{any-is_in}
use Rattle.cond_stats.proofs.ValueLists.{list_of_frequent_value}
use Rattle.column_stats.specs.Nodes.{node_lists, node_sizes}
use Rattle.column_stats.specs.Stats.{frequent_list, frequent_lists}
use Rattle.level_bounds.specs.Keys.{HaveDifferentCharacters}
use Rattle.level_bounds.proofs.CellKeys.{equal_cells}
use Rattle.level_bounds.proofs.Lists.{at_member, in_map, test_of_member, map_same_on_members, map_of_map}
use Rattle.relabelling_laws.specs.Relabelling.{IsOneToOne, KeepsOrder}
use Rattle.relabelling_laws.proofs.Columns.{cuts_are, frequent_is, column_contains_each}
use Rattle.relabelling_laws.proofs.Ordered.{All-cuts, All-frequent}
use Rattle.relabelling_laws.proofs.Rows.{zip_of_columns, node_list_unchanged, rest_list_unchanged, value_list_unchanged, whole_list_unchanged}
use Rattle.stats_file.specs.declared.types.Datum.{Datum}
use Rattle.stats_file.specs.declared.types.PairStats.{PairStats}
use Rattle.table_stats.specs.Columns.{as_first_rows, paired, row_le, value_of_row}
use Rattle.table_stats.proofs.CellColumns.{cell_values, keeps_order, number_of, numbers_of_cells, one_to_one}
use Rattle.table_stats.proofs.EqualValues.{equal_itself, is_equal}
use Rattle.table_stats.proofs.FirstRows.{first_has, first_row_exists}
use Rattle.stats_file_of_query.specs.Data.{datum_of}
use Rattle.stats_file_of_query.specs.Pairs.{datum_of_row, frequent_in, pair_stats_of, pair_of_values}

-- ---- two pairs are equal if their parts are equal

pub same_parts : (filter joined : ℕ) (all all' rest rest' : List ℕ) (frequent frequent' : List (Datum × List ℕ)) (cuts cuts' : List Datum) (nodes nodes' : List (List ℕ))
    → all ≡ all' → frequent ≡ frequent' → rest ≡ rest' → cuts ≡ cuts' → nodes ≡ nodes'
    → (let p : PairStats = record { filter = filter; joined = joined; whole = all; frequent = frequent; rest = rest; cuts = cuts; nodes = nodes } in p)
    ≡ record { filter = filter; joined = joined; whole = all'; frequent = frequent'; rest = rest'; cuts = cuts'; nodes = nodes' }
same_parts filter joined all all' rest rest' frequent frequent' cuts cuts' nodes nodes' a f r c n = rw (a, f, r, c, n) refl

same_nodes : (le le' : ℕ → ℕ → Bool) (accuracy : ℕ) (rows rows' : List (ℕ × ℕ)) → length rows ≡ length rows'
    → ((size leaf : ℕ) → list_of_node le accuracy rows size leaf ≡ list_of_node le' accuracy rows' size leaf)
    → node_lists le accuracy rows ≡ node_lists le' accuracy rows'
same_nodes le le' accuracy [] [] lengths alike = refl
same_nodes le le' accuracy [] (row ∷ rows') lengths alike = absurd (omega (arith, lengths))
same_nodes le le' accuracy (row ∷ rows) [] lengths alike = absurd (omega (arith, lengths))
same_nodes le le' accuracy (row ∷ rows) (row' ∷ rows') lengths alike =
    ap (λ (lists : ℕ → List (List ℕ)). flat_map lists node_sizes)
    (fun_ext (λ (size : ℕ). ap (λ (node : ℕ → List ℕ). map node (range_with_len 0 (32 / size))) (fun_ext (λ (i : ℕ). alike size (size * i)))))

module _ (texts : List (List ℕ)) (differ : HaveDifferentCharacters texts) (kind other : Kind) (filter joined : List ℕ)
    (are_filter : All (IsCell texts kind) filter) (are_joined : All (IsCell texts other) joined) (same_length : length filter ≡ length joined) (accuracy : ℕ) where
  abbrev filters : List Value
  filters = cell_values texts differ kind filter are_filter

  abbrev keys : List Value
  keys = cell_values texts differ other joined are_joined

  -- the number of a cell's value: the first row that has this value
  abbrev row_of : ℕ → ℕ
  row_of = number_of texts differ kind filter are_filter

  abbrev key_of : ℕ → ℕ
  key_of = number_of texts differ other joined are_joined

  apart : IsOneToOne row_of filter
  apart = one_to_one texts differ kind filter are_filter

  keys_apart : IsOneToOne key_of joined
  keys_apart = one_to_one texts differ other joined are_joined

  alike : KeepsOrder (cell_le texts kind) (row_le filters) row_of filter
  alike = keeps_order texts differ kind filter are_filter

  abbrev cells : List (ℕ × ℕ)
  cells = zip filter joined

  abbrev rows : List (ℕ × ℕ)
  rows = zip (map row_of filter) (map key_of joined)

  rows_are : paired filters keys ≡ rows
  rows_are =
      ap (λ (s : List ℕ). zip s (as_first_rows keys)) (numbers_of_cells texts differ kind filter are_filter)
      ∙ ap (λ (s : List ℕ). zip (map row_of filter) s) (numbers_of_cells texts differ other joined are_joined)

  same_lengths : length (map row_of filter) ≡ length (map key_of joined)
  same_lengths = omega (arith, length-map filter row_of, length-map joined key_of, same_length)

  first_of_rows : filter_values rows ≡ map row_of filter
  first_of_rows = (zip_of_columns (map row_of filter) (map key_of joined) same_lengths).0

  second_of_rows : joined_keys rows ≡ map key_of joined
  second_of_rows = (zip_of_columns (map row_of filter) (map key_of joined) same_lengths).1

  first_of_cells : filter_values cells ≡ filter
  first_of_cells = (zip_of_columns filter joined same_length).0

  second_of_cells : joined_keys cells ≡ joined
  second_of_cells = (zip_of_columns filter joined same_length).1

  -- ---- the value of a cell is the value in the first row that has it

  abbrev of_cell : ℕ → Value
  of_cell cell = value_of_cell texts kind cell

  same_value : (cell : ℕ) → Contains filter cell → datum_of_row filters (row_of cell) ≡ datum_of (of_cell cell)
  same_value cell has =
      let low : has.0 < length filter = has.1 in
      let here : get_or filters has.0 (Int (pos 0)) ≡ of_cell cell = get_or-map of_cell filter has.0 cell (Int (pos 0)) low ∙ ap of_cell has.2 in
      let below : row_of cell < length filters =
      first_row_exists filters (of_cell cell) has.0 (Int (pos 0)) (omega (arith, low, length-map filter of_cell))
      (ap (λ (v : Value). is_equal v (of_cell cell)) here ∙ equal_itself (of_cell cell)) in
      let within : row_of cell < length filter = omega (arith, below, length-map filter of_cell) in
      let first : ℕ = get_or filter (row_of cell) 0 in
      let its : value_of_row filters (row_of cell) ≡ of_cell first = get_or-map of_cell filter (row_of cell) 0 (Int (pos 0)) within in
      let is_cell : IsCell texts kind cell = subst (IsCell texts kind) has.2 (are_filter has.0 cell has.1) in
      let same : first ≡ cell =
      equal_cells texts differ kind kind first cell (are_filter (row_of cell) 0 within) is_cell
      (ap (λ (v : Value). is_equal v (of_cell cell)) (sym its) ∙ first_has filters (of_cell cell) below) in
      ap datum_of (its ∙ ap of_cell same)

  -- ---- equal frequent values, cuts and nodes

  found : (column : List ℕ) (n : ℕ) → Contains (frequent column) n → (pairs : List (ℕ × ℕ)) → filter_values pairs ≡ column → is_frequent pairs n ≡ true
  found column n has pairs are =
      ap (λ (s : List ℕ). is_frequent_in (frequent s) n) are ∙ any-is_in (frequent column) n ∙ test_of_member (frequent column) n has
    where
      is_frequent_in : List ℕ → ℕ → Bool
      is_frequent_in values n = list_any (λ other. eqb other n) values

  same_list : (cell : ℕ) → Contains (frequent filter) cell → Contains filter cell
      → compressed_degrees accuracy (keys_with (row_of cell) rows) ≡ compressed_degrees accuracy (keys_with cell cells)
  same_list cell often has =
      let also : Contains (frequent (map row_of filter)) (row_of cell) =
      subst (λ (s : List ℕ). Contains s (row_of cell)) (sym (frequent_is row_of filter apart)) (in_map row_of (frequent filter) cell often) in
      sym (list_of_frequent_value accuracy rows (row_of cell) (found (map row_of filter) (row_of cell) also rows first_of_rows))
      ∙ value_list_unchanged accuracy row_of key_of filter joined cell apart keys_apart has
      ∙ list_of_frequent_value accuracy cells cell (found filter cell often cells first_of_cells)

  abbrev one_of_rows : ℕ → Datum × List ℕ
  one_of_rows n = frequent_in (datum_of_row filters) (frequent_list accuracy rows n)

  abbrev one_of_cells : ℕ → Datum × List ℕ
  one_of_cells n = frequent_in (λ cell. datum_of (of_cell cell)) (frequent_list accuracy cells n)

  same_pair : (a b : Datum) (s t : List ℕ) → a ≡ b → s ≡ t → (let p : Datum × List ℕ = (a, s) in p) ≡ (b, t)
  same_pair a b s t h k = rw (h, k) refl

  each_frequent : (cell : ℕ) → Contains (frequent filter) cell → one_of_cells cell ≡ one_of_rows (row_of cell)
  each_frequent cell often =
      let has : Contains filter cell = at_member (Contains filter) (frequent filter) (All-frequent (Contains filter) filter (column_contains_each filter)) cell often in
      sym (same_pair (datum_of_row filters (row_of cell)) (datum_of (of_cell cell)) (compressed_degrees accuracy (keys_with (row_of cell) rows))
      (compressed_degrees accuracy (keys_with cell cells)) (same_value cell has) (same_list cell often has))

  same_frequent : map (frequent_in (λ cell. datum_of (of_cell cell))) (frequent_lists accuracy cells) ≡ map (frequent_in (datum_of_row filters)) (frequent_lists accuracy rows)
  same_frequent =
      map_of_map (frequent_in (λ cell. datum_of (of_cell cell))) (frequent_list accuracy cells) one_of_cells (λ n. refl) (frequent (filter_values cells))
      ∙ ap (λ (s : List ℕ). map one_of_cells (frequent s)) first_of_cells
      ∙ map_pairs one_of_cells (λ cell. one_of_rows (row_of cell)) (frequent filter) each_frequent
      ∙ sym (map_of_map one_of_rows row_of (λ cell. one_of_rows (row_of cell)) (λ n. refl) (frequent filter))
      ∙ ap (map one_of_rows) (sym (frequent_is row_of filter apart))
      ∙ ap (λ (s : List ℕ). map one_of_rows (frequent s)) (sym first_of_rows)
      ∙ sym (map_of_map (frequent_in (datum_of_row filters)) (frequent_list accuracy rows) one_of_rows (λ n. refl) (frequent (filter_values rows)))
    where
      map_pairs : (f g : ℕ → Datum × List ℕ) (xs : List ℕ) → ((x : ℕ) → Contains xs x → f x ≡ g x) → map f xs ≡ map g xs
      map_pairs f g xs h = map_same_on_members f g xs h

  same_cuts : map (λ cell. datum_of (of_cell cell)) (cuts (cell_le texts kind) (filter_values cells)) ≡ map (datum_of_row filters) (cuts (row_le filters) (filter_values rows))
  same_cuts =
      let le : ℕ → ℕ → Bool = cell_le texts kind in
      let every : AllByRecursion (Contains filter) (cuts le filter) = All-cuts (Contains filter) le (row_le filters) row_of alike filter (column_contains_each filter) in
      ap (λ (s : List ℕ). map (λ cell. datum_of (of_cell cell)) (cuts le s)) first_of_cells
      ∙ map_same_on_members (λ cell. datum_of (of_cell cell)) (λ cell. datum_of_row filters (row_of cell)) (cuts le filter)
      (λ cell has. sym (same_value cell (at_member (Contains filter) (cuts le filter) every cell has)))
      ∙ sym (map_of_map (datum_of_row filters) row_of (λ cell. datum_of_row filters (row_of cell)) (λ n. refl) (cuts le filter))
      ∙ ap (map (datum_of_row filters)) (sym (cuts_are le (row_le filters) row_of filter alike))
      ∙ ap (λ (s : List ℕ). map (datum_of_row filters) (cuts (row_le filters) s)) (sym first_of_rows)

  -- ---- the pair of cells and the pair of values are equal

  same_rows : (a b : ℕ) → pair_stats_of (cell_le texts kind) (λ cell. datum_of (of_cell cell)) accuracy cells a b ≡ pair_stats_of (row_le filters) (datum_of_row filters) accuracy rows a b
  same_rows a b =
      same_parts a b (whole accuracy cells) (whole accuracy rows) (rest accuracy cells) (rest accuracy rows)
      (map (frequent_in (λ cell. datum_of (of_cell cell))) (frequent_lists accuracy cells)) (map (frequent_in (datum_of_row filters)) (frequent_lists accuracy rows))
      (map (λ cell. datum_of (of_cell cell)) (cuts (cell_le texts kind) (filter_values cells))) (map (datum_of_row filters) (cuts (row_le filters) (filter_values rows)))
      (node_lists (cell_le texts kind) accuracy cells) (node_lists (row_le filters) accuracy rows)
      (ap (compressed_degrees accuracy) second_of_cells ∙ sym (whole_list_unchanged accuracy key_of joined keys_apart) ∙ ap (compressed_degrees accuracy) (sym second_of_rows))
      same_frequent
      (sym (rest_list_unchanged accuracy row_of key_of filter joined apart keys_apart))
      same_cuts
      (same_nodes (cell_le texts kind) (row_le filters) accuracy cells rows row_count_is
      (λ size leaf. sym (node_list_unchanged (cell_le texts kind) (row_le filters) accuracy row_of key_of filter joined size leaf alike keys_apart)))
    where
      row_count_is : length cells ≡ length rows
      row_count_is = omega (
        arith,
        length-map cells (λ row. row.0),
        length-map rows (λ row. row.0),
        ap (λ (s : List ℕ). length s) first_of_cells,
        ap (λ (s : List ℕ). length s) first_of_rows,
        length-map filter row_of,
      )

  pub pair_is : (a b : ℕ) → pair_stats_of (cell_le texts kind) (λ cell. datum_of (of_cell cell)) accuracy cells a b ≡ pair_of_values accuracy filters keys a b
  pair_is a b = same_rows a b ∙ ap (λ (s : List (ℕ × ℕ)). pair_stats_of (row_le filters) (datum_of_row filters) accuracy s a b) (sym rows_are)
