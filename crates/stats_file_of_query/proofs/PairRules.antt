-- The pair that is made from two columns of cells keeps the rules of statistics files.
use Rattle.std.proofs.Common.{◌≡◌, ◌≢◌, ℕ, zero, suc, ◌*◌, ◌/◌, ◌<◌, ◌≤◌, Bool, List, [], ◌∷◌, length, length-take, map, get_or, Some, slice_get, refl, ap, sym, ◌∙◌, subst, arith}
use Rattle.std.specs.List.{All, AllByRecursion, AllPairs, flat_map, range_with_len, zip}
use Rattle.std.specs.declared.cmp.Ordering.TheVariants.{Greater}
use Rattle.std.specs.Int.{w64}
use Rattle.std.specs.Str.{IsUtf8}
use Rattle.std.proofs.Math.Facts.{Fits-of_lt, sfits_to_z}
use Rattle.std.proofs.lemmas.Bool.Decides.{Decides-eqb}
use Rattle.std.proofs.lemmas.List.{get_or-map, length-map}
use Rattle.std.proofs.lemmas.List.Elements.{All-append, All-from_recursion, All-map, recursion_from_All}
use Rattle.std.proofs.lemmas.Map.Made.{AllPairs-from_IsDistinct}
use Rattle.std.proofs.lemmas.Slice.Zip.{length-zip}
use Rattle.schema_types.specs.declared.types.Column.{Column}
use Rattle.schema_types.specs.declared.types.Kind.{Kind}
use Rattle.schema_types.specs.declared.types.Kind.TheVariants as kind
use Rattle.schema_types.specs.declared.types.Table.{Table}
use Rattle.csv_tables.specs.Cells.{IsCell, value_of_cell}
use Rattle.csv_tables.specs.Values as values
use Rattle.csv_tables.specs.Values.{Value}
use Rattle.cond_stats.specs.Columns.{cell_le}
use Rattle.cond_stats.specs.Frequency.{by_frequency, frequent}
use Rattle.cond_stats.specs.Leaves.{cuts}
use Rattle.cond_stats.specs.Lists.{list_of_node, rest, whole}
use Rattle.cond_stats.specs.Rows.{filter_values}
use Rattle.cond_stats.proofs.LeavesFound.{no_cuts}
use Rattle.cond_stats.proofs.Ranges.{length-cuts}
use Rattle.cond_stats.proofs.Sums.{sum-whole}
use Rattle.column_stats.specs.Nodes.{lists_of_size, node_lists, node_sizes}
use Rattle.column_stats.specs.Stats.{frequent_list, frequent_lists}
use Rattle.column_stats.proofs.FrequentLists.{IsDistinct-frequent}
use Rattle.column_stats.proofs.NodeLists.{node_count}
use Rattle.level_bounds.specs.Keys.{HaveDifferentCharacters}
use Rattle.level_bounds.proofs.CellKeys.{equal_cells}
use Rattle.level_bounds.proofs.Lists.{map_of_map}
use Rattle.relabelling_laws.proofs.Ordered.{All-cuts, All-frequent}
use Rattle.relabelling_laws.proofs.Rows.{zip_of_columns}
use Rattle.stats_file.specs.declared.types.Datum.{Datum}
use Rattle.stats_file.specs.Rules.{AreFrequent, IsList, IsOfKind, IsPair, IsHistogramOf, datum_cmp}
use Rattle.table_stats.proofs.EqualValues.{equal_itself, is_equal}
use Rattle.stats_file_of_query.specs.Data.{datum_of, value_of}
use Rattle.stats_file_of_query.specs.Pairs.{frequent_in, pair_stats_of}
use Rattle.stats_file_of_query.proofs.Ascending.{IsText, cuts_ascend, not_above}
use Rattle.stats_file_of_query.proofs.Lists.{node_list_is_valid, rest_list_is_valid, value_list_is_valid, whole_list_is_valid}

value_round_trip : (v : Value) → value_of (datum_of v) ≡ v
value_round_trip (values.Int number) = refl
value_round_trip (values.Text text) = refl

pub pairs_mapped : {X Y : Type 0} (R : X → X → Type 0) (S : Y → Y → Type 0) (f : X → Y) (xs : List X) (d : X) → AllPairs R xs
    → ((i j : ℕ) → i < j → j < length xs → R (get_or xs i d) (get_or xs j d) → S (f (get_or xs i d)) (f (get_or xs j d))) → AllPairs S (map f xs)
pairs_mapped R S f xs d all each i j e before low =
    let within : j < length xs = omega (arith, low, length-map xs f) in
    let at : (k : ℕ) → k < length xs → get_or (map f xs) k e ≡ f (get_or xs k d) = λ k below. get_or-map f xs k d e below in
    subst (λ y. S y (get_or (map f xs) j e)) (sym (at i (omega (arith, before, within))))
    (subst (λ y. S (f (get_or xs i d)) y) (sym (at j within)) (each i j before within (all i j d before within)))

module _ (texts : List (List ℕ)) (differ : HaveDifferentCharacters texts) (utf8 : All IsUtf8 texts) (k : Kind) (filter joined : List ℕ)
    (are_filter : All (IsCell texts k) filter) (n : ℕ) (filter_length : length filter ≡ n) (joined_length : length joined ≡ n) (accuracy : ℕ) where
  abbrev cells : List (ℕ × ℕ)
  cells = zip filter joined

  abbrev of_cell : ℕ → Value
  of_cell cell = value_of_cell texts k cell

  abbrev le : ℕ → ℕ → Bool
  le = cell_le texts k

  abbrev datum : ℕ → Datum
  datum cell = datum_of (of_cell cell)

  same_lengths : length filter ≡ length joined
  same_lengths = filter_length ∙ sym joined_length

  firsts : filter_values cells ≡ filter
  firsts = (zip_of_columns filter joined same_lengths).0

  row_count_is : length cells ≡ n
  row_count_is = omega (arith, length-zip filter joined, filter_length, joined_length)

  within_limit : length cells ≤ n
  within_limit = omega (arith, row_count_is)

  own : AllByRecursion (IsCell texts k) filter
  own = recursion_from_All (IsCell texts k) filter are_filter

  -- ---- the values of a pair

  text_cell : (kd : Kind) (cell : ℕ) → IsCell texts kd cell → IsText (value_of_cell texts kd cell)
  text_cell kind.Int cell is = tt
  text_cell (kind.Text most) cell is = utf8 cell [] is

  of_kind : (kd : Kind) (cell : ℕ) → IsCell texts kd cell → IsOfKind kd (datum_of (value_of_cell texts kd cell))
  of_kind kind.Int cell is = sfits_to_z {w = w64} {n = cell} (Fits-of_lt {w = w64} {n = cell} is)
  of_kind (kind.Text most) cell is = utf8 cell [] is

  apart : (a b : ℕ) → IsCell texts k a → IsCell texts k b → a ≢ b → datum a ≢ datum b
  apart a b is_a is_b differs same =
      let values_same : of_cell a ≡ of_cell b = sym (value_round_trip (of_cell a)) ∙ ap value_of same ∙ value_round_trip (of_cell b) in
      differs (equal_cells texts differ k k a b is_a is_b (ap (λ (v : Value). is_equal (of_cell a) v) (sym values_same) ∙ equal_itself (of_cell a)))

  frequent_are_cells : All (IsCell texts k) (frequent filter)
  frequent_are_cells = All-from_recursion (IsCell texts k) (frequent filter) (All-frequent (IsCell texts k) filter own)

  cut_cells : All (IsCell texts k) (cuts le filter)
  cut_cells = All-from_recursion (IsCell texts k) (cuts le filter) (All-cuts (IsCell texts k) le le (λ cell. cell) (λ a b has_a has_b. refl) filter own)

  abbrev one : ℕ → Datum × List ℕ
  one cell = frequent_in datum (frequent_list accuracy cells cell)

  frequent_is : map (frequent_in datum) (frequent_lists accuracy cells) ≡ map one (frequent filter)
  frequent_is =
      map_of_map (frequent_in datum) (frequent_list accuracy cells) one (λ c. refl) (frequent (filter_values cells)) ∙ ap (λ (s : List ℕ). map one (frequent s)) firsts

  differ_all : AllPairs (λ (a b : ℕ). a ≢ b) (frequent filter)
  differ_all = AllPairs-from_IsDistinct Decides-eqb (frequent filter) (IsDistinct-frequent filter)

  pub are_frequent : AreFrequent k n (map (frequent_in datum) (frequent_lists accuracy cells))
  are_frequent = subst (AreFrequent k n) (sym frequent_is) (record {
    within_limit = omega (arith, length-map (frequent filter) one, length-take 32 (by_frequency filter));
    differ = pairs_mapped (λ (a b : ℕ). a ≢ b) (λ (a b : Datum × List ℕ). a.0 ≢ b.0) one (frequent filter) 0 differ_all
        (λ i j before low differs. apart (get_or (frequent filter) i 0) (get_or (frequent filter) j 0) (frequent_are_cells i 0 (omega (arith, before, low))) (frequent_are_cells j 0 low) differs);
    values = All-map (λ (f : Datum × List ℕ). IsOfKind k f.0) one (frequent filter) (λ i d low. of_kind k (get_or (frequent filter) i d) (frequent_are_cells i d low));
    lists = All-map (λ (f : Datum × List ℕ). IsList n f.1) one (frequent filter) (λ i d low. value_list_is_valid accuracy n cells within_limit (get_or (frequent filter) i d));
  })

  -- ---- the lists of nodes

  all_nodes : (size : ℕ) → All (IsList n) (lists_of_size le accuracy cells size)
  all_nodes size = All-map (IsList n) (λ i. list_of_node le accuracy cells size (size * i)) (range_with_len 0 (32 / size))
      (λ i d low. node_list_is_valid accuracy n cells within_limit le size (size * get_or (range_with_len 0 (32 / size)) i d))

  node_lists_are_valid : (rows : List (ℕ × ℕ)) → rows ≡ cells → All (IsList n) (node_lists le accuracy rows)
  node_lists_are_valid [] is = λ i d low. absurd (omega (arith, low))
  node_lists_are_valid (row ∷ rows) is =
      subst (λ (s : List (ℕ × ℕ)). All (IsList n) (flat_map (lists_of_size le accuracy s) node_sizes)) (sym is) (all_lists node_sizes)
    where
      all_lists : (sizes : List ℕ) → All (IsList n) (flat_map (lists_of_size le accuracy cells) sizes)
      all_lists [] = λ i d low. absurd (omega (arith, low))
      all_lists (size ∷ sizes) = All-append (IsList n) (lists_of_size le accuracy cells size) (flat_map (lists_of_size le accuracy cells) sizes) (all_nodes size) (all_lists sizes)

  cuts_count : (f : List ℕ) → 0 < length f → length (cuts le f) ≡ 32
  unfolding cuts
  cuts_count [] some = absurd (omega (arith, some))
  cuts_count (x ∷ f) some = refl

  cuts_in_order : 0 < length filter → AllPairs (λ a b. datum_cmp a b ≢ Greater) (map datum (cuts le filter))
  cuts_in_order some =
      pairs_mapped (λ (a b : ℕ). Unit {0}) (λ a b. datum_cmp a b ≢ Greater) datum (cuts le filter) 0 (λ i j d before low. tt)
      (λ i j before low nothing. not_above (of_cell (get_or (cuts le filter) i 0)) (of_cell (get_or (cuts le filter) j 0))
      (text_cell k (get_or (cuts le filter) i 0) (cut_cells i 0 (omega (arith, before, low)))) (text_cell k (get_or (cuts le filter) j 0) (cut_cells j 0 low))
      (cuts_ascend of_cell filter some i j before (omega (arith, low, length-cuts le filter))))

  pub is_tree : IsHistogramOf k n (map datum (cuts le (filter_values cells))) (node_lists le accuracy cells)
  is_tree = subst (λ (s : List ℕ). IsHistogramOf k n (map datum (cuts le s)) (node_lists le accuracy cells)) (sym firsts) (by n filter_length joined_length)
    where
      by : (m : ℕ) → length filter ≡ m → length joined ≡ m → IsHistogramOf k m (map datum (cuts le filter)) (node_lists le accuracy cells)
      by zero none none_too = (ap (map datum) (no_cuts le filter (omega (arith, none))), no_nodes filter joined none)
        where
          no_nodes : (f j : List ℕ) → length f ≡ 0 → node_lists le accuracy (zip f j) ≡ []
          no_nodes [] j none = refl
          no_nodes (x ∷ f) j none = absurd (omega (arith, none))
      by (suc m) some some_too =
          let same : n ≡ suc m = sym filter_length ∙ some in
          record {
            leaves = omega (arith, length-map (cuts le filter) datum, cuts_count filter (omega (arith, some)));
            values = All-map (IsOfKind k) datum (cuts le filter) (λ i d low. of_kind k (get_or (cuts le filter) i d) (cut_cells i d low));
            order = cuts_in_order (omega (arith, some));
            all = nodes_all filter joined some some_too;
            lists = subst (λ (r : ℕ). All (IsList r) (node_lists le accuracy cells)) same (node_lists_are_valid cells refl);
          }
        where
          nodes_all : (f j : List ℕ) → length f ≡ suc m → length j ≡ suc m → length (node_lists le accuracy (zip f j)) ≡ 63
          nodes_all [] j some also = absurd (omega (arith, some))
          nodes_all (x ∷ f) [] some also = absurd (omega (arith, also))
          nodes_all (x ∷ f) (y ∷ j) some also = node_count le accuracy (x, y) (zip f j)

  -- ---- the pair with all its lists

  pub is_pair : (table : Table) (a b : ℕ) (column : Column) → slice_get table.columns a ≡ Some column → column.kind ≡ k → b < length table.columns
      → IsPair table n (pair_stats_of le datum accuracy cells a b)
  is_pair table a b column at kind_is low = record {
    filter = column;
    filter_is = at;
    joined = low;
    whole = whole_list_is_valid accuracy n cells within_limit;
    all_rows = sum-whole accuracy cells ∙ row_count_is;
    frequent = subst (λ (kd : Kind). AreFrequent kd n (map (frequent_in datum) (frequent_lists accuracy cells))) (sym kind_is) are_frequent;
    rest = rest_list_is_valid accuracy n cells within_limit;
    tree = subst (λ (kd : Kind). IsHistogramOf kd n (map datum (cuts le (filter_values cells))) (node_lists le accuracy cells)) (sym kind_is) is_tree;
  }
