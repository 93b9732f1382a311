-- The lists in the code's buffers are the scans of the query. Two rows satisfy an equality exactly if their cells are equal.
use Rattle.std.proofs.Common.{◌≡◌, ℕ, zero, suc, ◌+◌, ◌<◌, ◌≤◌, Bool, not, ◌||◌, List, [], ◌∷◌, ◌++◌, Option, None, Some, length, get_or, take, ap, sym, ◌∙◌, subst, arith, inl, inr}
use Rattle.std.specs.Prelude.{◌==◌, All, IsUtf8}
use Rattle.std.specs.List.{Contains, cons_option, filter_map, list_all, range_with_len}
use Rattle.std.specs.Ordering.{is_eq}
use Rattle.std.proofs.lemmas.Bool.{cases_lt}
use Rattle.std.proofs.lemmas.List.{get_or_past, map-append}
use Rattle.std.proofs.lemmas.List.Elements.{All-contains, Contains-get_or}
use Rattle.std.proofs.lemmas.List.FromFn.{length-range_with_len}
use Rattle.berge_tree.specs.declared.edges.Edge.{Edge}
use Rattle.csv_tables.specs.declared.types.Database.{Database}
use Rattle.csv_tables.specs.Pools.{TextsAreDifferent}
use Rattle.csv_tables.specs.Values.{value_cmp}
use Rattle.schema_types.specs.declared.types.Kind.TheVariants as kind
use Rattle.query_types.specs.declared.types.ColumnRef.{ColumnRef}
use Rattle.query_types.specs.declared.types.Operand.TheVariants as operand
use Rattle.query_types.specs.declared.types.Cond.{Cond, every_here-Cond}
use Rattle.query_types.specs.declared.types.Cond.TheViews.{out-Cond}
use Rattle.query_types.specs.declared.types.Query.{Query}
use Rattle.query_types.specs.Typing.{IsTypedLayer, Compares}
use Rattle.row_buf.specs.Rows.{Rows}
use Rattle.join_graph.specs.Conjuncts.{equalities_of, equality_of}
use Rattle.sql_meaning.specs.Answers.{conjuncts_of}
use Rattle.sql_meaning.specs.Databases.{AreTables, IsWellTyped, IsColumnOfKind, IsDatabaseOf}
use Rattle.sql_meaning.specs.Levels.{is_own_conjunct}
use Rattle.sql_meaning.specs.Tables.{cells_of, row_counts, tables_of}
use Rattle.sql_meaning.proofs.LoopFacts.{rows_are}
use Rattle.join_steps.specs.Columns.{column_cells}
use Rattle.join_steps.specs.Lists.{scan_of, list_at, lists_of, scans_of}
use Rattle.join_steps.proofs.Cells.{cell_of_row, same_cells, value_by_cell, kind_at}
use Rattle.level_bounds.specs.Keys.{are_equal_at, cell_at, value_at}
use Rattle.level_bounds.proofs.EqualityFacts.{IsJoin, is_join}
use Rattle.level_bounds.proofs.Lists.{from_filter_map}
use Rattle.limits.specs.Profile.{most_rows}
use Rattle.reduced_scans.specs.Lists.{AreRowLists, JoinsColumns, column_of}
use Rattle.reduced_scans.specs.Wiring.{HoldsByKey, first_item, marked_family, marked_rows}
use Rattle.reduced_scans.proofs.MarkedRows.{family-take}
use Rattle.reduced_scans.proofs.OneReduced.{same_lists}
use Rattle.join_steps.proofs.WholeScans.{scans_of_length, length-lists_of, scans_of_at, scans_of_past_end}
use Rattle.reduced_scans.proofs.ByRounds.{filter_shrinks}
use Rattle.reduced_scans.proofs.QueryScans.{scanned_row_in_range}

-- ---- reading a list from a buffer

pub read_list : (lists : List (Rows ℕ)) (entry : ℕ) (list : Rows ℕ) → entry < length lists → list ≡ get_or lists entry list → list.items ≡ list_at (lists_of lists) entry
read_list [] entry list entry_in_range is = absurd (omega arith)
read_list (first ∷ lists) zero list entry_in_range is = ap (λ (l : Rows ℕ). l.items) is
read_list (first ∷ lists) (suc entry) list entry_in_range is = read_list lists entry list (omega arith) is

pub read_list_within_limit : (lists : List (Rows ℕ)) → ((entry : ℕ) → length (list_at (lists_of lists) entry) ≤ most_rows) → (entry : ℕ) (list : Rows ℕ) → entry < length lists
    → list ≡ get_or lists entry list → length list.items ≤ most_rows
read_list_within_limit lists short entry list entry_in_range is = omega (arith, ap (λ (l : List ℕ). length l) (read_list lists entry list entry_in_range is), short entry)

pub marked_after_step : (is_kept : ℕ → Bool) (scans lists new : List (Rows ℕ)) (entry first : ℕ) (rows : Rows ℕ) (list : List ℕ) → entry < length scans → new ≡ lists ++ rows ∷ []
    → first ≡ first_item (lists_of scans) entry → list ≡ list_at (lists_of scans) entry → rows.items ≡ marked_rows is_kept first list
    → lists_of lists ≡ marked_family is_kept 0 (take entry (lists_of scans)) → lists_of new ≡ marked_family is_kept 0 (take (entry + 1) (lists_of scans))
marked_after_step is_kept scans lists new entry first rows list entry_in_range more is_first is_list is_rows so_far =
    let begin : first ≡ 0 + first_item (lists_of scans) entry = omega (arith, is_first) in
    let made : rows.items ≡ marked_rows is_kept (0 + first_item (lists_of scans) entry) (list_at (lists_of scans) entry) = is_rows ∙ ap (λ n. marked_rows is_kept n list) begin ∙ ap (marked_rows is_kept (0 + first_item (lists_of scans) entry)) is_list in
    ap lists_of more ∙ map-append (λ (l : Rows ℕ). l.items) lists (rows ∷ []) ∙ ap (λ (ls : List (List ℕ)). ls ++ rows.items ∷ []) so_far
    ∙ ap (λ (l : List ℕ). marked_family is_kept 0 (take entry (lists_of scans)) ++ l ∷ []) made ∙ sym (family-take is_kept 0 (lists_of scans) entry (omega (arith, length-lists_of scans)))

-- ---- the lengths of scans

pub length-scan : (query : Query) (db : Database) (entry : ℕ) → length (scan_of query db entry) ≤ row_counts (tables_of db) entry
length-scan query db entry =
    omega (
      arith,
      filter_shrinks (λ row. list_all (λ c. not (is_own_conjunct c entry) || c.holds (λ e. row)) (conjuncts_of query (tables_of db))) (range_with_len 0 (row_counts (tables_of db) entry)),
      length-range_with_len 0 (row_counts (tables_of db) entry),
    )

length-cons_option : (o : Option Edge) (es : List Edge) → length (cons_option o es) ≤ suc (length es)
length-cons_option None es = omega arith
length-cons_option (Some e) es = omega arith

length-equalities : (conds : List Cond) → length (filter_map equality_of conds) ≤ length conds
length-equalities [] = omega arith
length-equalities (cond ∷ conds) = omega (arith, length-cons_option (equality_of cond) (filter_map equality_of conds), length-equalities conds)

pub equalities_within_conjuncts : (query : Query) → length (equalities_of query) ≤ length query.conjuncts
equalities_within_conjuncts query = length-equalities query.conjuncts

-- ---- the lists in the buffers are the scans of the query

module _ (query : Query) (db : Database) (scans : List (Rows ℕ)) (of : IsDatabaseOf query db) (count : length scans ≡ length query.from)
    (are : (entry : ℕ) → entry < length query.from → list_at (lists_of scans) entry ≡ scan_of query db entry) where
  pub lists_are : lists_of scans ≡ scans_of query (tables_of db)
  lists_are = same_lists (lists_of scans) (scans_of query (tables_of db)) (length-lists_of scans ∙ count ∙ sym (scans_of_length query (tables_of db)))
      (λ entry. elim (cases_lt entry (length query.from)) [
        | inl low ↦ are entry low ∙ sym (scans_of_at query (tables_of db) entry low)
        | inr past ↦ get_or_past (lists_of scans) entry [] (omega (arith, length-lists_of scans)) ∙ sym (scans_of_past_end query (tables_of db) entry past)
      ])

  pub scans_are_row_lists : AreRowLists db scans
  scans_are_row_lists = record {
    tables = of.tables;
    count = count ∙ sym of.entries;
    few = omega (arith, of.few);
    rows = λ entry entry_in_range. subst (All (λ row. row < (cells_of db entry).rows)) (sym (are entry (omega (arith, count))))
        (λ i d within. omega (arith, scanned_row_in_range query (tables_of db) entry (get_or (scan_of query db entry) i d) (Contains-get_or (scan_of query db entry) i d within), rows_are db entry));
    sizes = λ entry. elim (cases_lt entry (length query.from)) [
      | inl entry_in_range ↦ omega (arith, ap (λ (l : List ℕ). length l) (are entry entry_in_range), length-scan query db entry, of.rows_within_limit entry entry_in_range)
      | inr past ↦ omega (arith, ap (λ (l : List ℕ). length l) (get_or_past (lists_of scans) entry [] (omega (arith, length-lists_of scans))))
    ];
  }

-- ---- the columns of equalities are in the database

pub record JoinsKinds (db : Database) (e : Edge) : Type 0 where
  pub text : Bool
  pub left : IsColumnOfKind db (column_of e.left) text
  pub right : IsColumnOfKind db (column_of e.right) text

pub joins_kinds : (query : Query) (db : Database) (e : Edge) → IsDatabaseOf query db → Contains (equalities_of query) e → JoinsKinds db e
joins_kinds query db e of there =
    let found : (cond : Cond) × Contains query.conjuncts cond × (equality_of cond ≡ Some e) = from_filter_map equality_of query.conjuncts e there in
    let j : IsJoin (out-Cond found.0) e = is_join found.0 e found.2 in
    let asked : IsWellTyped db found.0 = All-contains (IsWellTyped db) query.conjuncts found.0 of.conjuncts found.1 in
    let can : Compares (IsColumnOfKind db) (operand.Column j.left) (operand.Column j.right) = subst (IsTypedLayer (IsColumnOfKind db)) j.compares (every_here-Cond (IsTypedLayer (IsColumnOfKind db)) found.0 asked) in
    subst (JoinsKinds db) (sym j.joins) (record { text = can.text; left = can.left_kind; right = can.right_kind })

pub joins_columns : (query : Query) (db : Database) → IsDatabaseOf query db → All (JoinsColumns db) (equalities_of query)
joins_columns query db of i d i_in_range =
    let kinds : JoinsKinds db (get_or (equalities_of query) i d) = joins_kinds query db (get_or (equalities_of query) i d) of (Contains-get_or (equalities_of query) i d i_in_range) in
    record { left = kinds.left.exists; right = kinds.right.exists }

columns_tell : (db : Database) (a b : ColumnRef) (text : Bool) (left right : ℕ) → AreTables db → TextsAreDifferent db.pool → All IsUtf8 db.pool → IsColumnOfKind db a text → IsColumnOfKind db b text
    → left < (cells_of db a.from).rows → right < (cells_of db b.from).rows
    → is_eq (value_cmp (value_at (tables_of db) a.from a.column left) (value_at (tables_of db) b.from b.column right)) ≡ (cell_at db a.from a.column left == cell_at db b.from b.column right)
columns_tell db a b text left right tables different utf8 kind_a kind_b left_in_range right_in_range =
    rw (value_by_cell db a (λ e. left) tables kind_a.exists left_in_range, value_by_cell db b (λ e. right) tables kind_b.exists right_in_range)
    (same_cells db.pool different utf8 (get_or (cells_of db a.from).kinds a.column kind.Int) (get_or (cells_of db b.from).kinds b.column kind.Int)
    (get_or (column_cells db a) left 0) (get_or (column_cells db b) right 0)
    (kind_at db a text kind_a ∙ sym (kind_at db b text kind_b))
    (cell_of_row db a left tables kind_a.exists left_in_range) (cell_of_row db b right tables kind_b.exists right_in_range))

pub tells : (query : Query) (db : Database) → IsDatabaseOf query db → TextsAreDifferent db.pool → All IsUtf8 db.pool
    → HoldsByKey (scans_of query (tables_of db)) (equalities_of query) (cell_at db) (are_equal_at (tables_of db))
tells query db of different utf8 e there left right in_left in_right =
    let kinds : JoinsKinds db e = joins_kinds query db e of there in
    let left_in_range : left < (cells_of db e.left.entry).rows = omega (arith, listed_row_in_range e.left.entry left (omega (arith, kinds.left.exists.entry, of.entries)) in_left, rows_are db e.left.entry) in
    let right_in_range : right < (cells_of db e.right.entry).rows = omega (arith, listed_row_in_range e.right.entry right (omega (arith, kinds.right.exists.entry, of.entries)) in_right, rows_are db e.right.entry) in
    columns_tell db (column_of e.left) (column_of e.right) kinds.text left right of.tables different utf8 kinds.left kinds.right left_in_range right_in_range
  where
    listed_row_in_range : (entry row : ℕ) → entry < length query.from → Contains (list_at (scans_of query (tables_of db)) entry) row → row < row_counts (tables_of db) entry
    listed_row_in_range entry row entry_in_range has = scanned_row_in_range query (tables_of db) entry row (subst (λ l. Contains l row) (scans_of_at query (tables_of db) entry entry_in_range) has)
