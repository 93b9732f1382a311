-- The cells of a database serve as keys: equal values have equal cells.
use Rattle.std.proofs.Common.{◌≡◌, ℕ, ℤ, ◌<◌, true, List, [], ◌∷◌, length, get_or, pos, refl, ap, sym, ◌∙◌, subst, arith, inl, inr, Some}
use Rattle.std.specs.Prelude.{All, encode_utf8_all, slice_index, slice_index_or}
use Rattle.std.specs.List.{AllByRecursion, Contains}
use Rattle.std.specs.Cmp.Lexicographic.{slice_cmp}
use Rattle.std.specs.Ordering.{int_cmp, is_eq, nat_cmp, ordering_then}
use Rattle.std.specs.Str.{IsUtf8, chars}
use Rattle.std.specs.declared.cmp.Ordering.{Ordering}
use Rattle.std.specs.declared.cmp.Ordering.TheVariants.{Less, Equal, Greater}
use Rattle.std.proofs.lemmas.Bool.{cases_eq, cases_lt, false≢true}
use Rattle.std.proofs.lemmas.Cmp.{int_ranked, ranked}
use Rattle.std.proofs.lemmas.List.Elements.{All-contains}
use Rattle.std.proofs.lemmas.List.FromFn.{fill_by_all}
use Rattle.std.proofs.lemmas.Str.{encodes-chars}
use Rattle.berge_tree.specs.declared.edges.Edge.{Edge}
use Rattle.berge_tree.specs.Equalities.{place}
use Rattle.schema_types.specs.declared.types.Kind.{Kind}
use Rattle.schema_types.specs.declared.types.Kind.TheVariants as kind
use Rattle.csv_tables.specs.Cells.{IsCell, IsColumn, value_of_cell}
use Rattle.csv_tables.specs.Numbers.{bits_of, number_in}
use Rattle.csv_tables.specs.Pools.{TextsAreDifferent}
use Rattle.csv_tables.specs.Values.{Value, Int, value_cmp}
use Rattle.csv_tables.specs.declared.types.Cells.{Cells}
use Rattle.csv_tables.specs.declared.types.Database.{Database}
use Rattle.query_types.specs.declared.types.ColumnRef.{ColumnRef}
use Rattle.query_types.specs.declared.types.Operand.TheVariants as operand
use Rattle.query_types.specs.declared.types.Cond.{Cond, every_here-Cond}
use Rattle.query_types.specs.declared.types.Cond.TheViews.{out-Cond}
use Rattle.query_types.specs.declared.types.Query.{Query}
use Rattle.query_types.specs.Typing.{IsTypedLayer, Compares}
use Rattle.join_graph.specs.Conjuncts.{equalities_of, equality_of}
use Rattle.sql_meaning.specs.Databases.{AreCells, AreTables, IsWellTyped, IsColumnOf, IsDatabaseOf, IsColumnOfKind}
use Rattle.sql_meaning.specs.Tables.{cells_of, no_cells, row_counts, tables_of}
use Rattle.sql_meaning.proofs.ColumnFacts.{column_at, value_at as cell_value}
use Rattle.sql_meaning.proofs.LoopFacts.{rows_are}
use Rattle.csv_tables.proofs.KeyFacts.{bits_back}
use Rattle.level_bounds.specs.Keys.{HaveDifferentCharacters, JoinsEqualKeys, cell_at, value_at}
use Rattle.level_bounds.specs.WholeTables.{keys_of}
use Rattle.level_bounds.proofs.EqualityFacts.{IsJoin, is_join}
use Rattle.level_bounds.proofs.Lists.{from_members, from_filter_map}

-- ---- values that compare as equal

equal_numbers : (a b : ℤ) (r : Ordering) → r ≡ int_cmp a b → is_eq r ≡ true → a ≡ b
equal_numbers a b Less e h = absurd (false≢true h)
equal_numbers a b Equal e h = int_ranked a b Equal e
equal_numbers a b Greater e h = absurd (false≢true h)

equal_first : (x y : ℕ) (r rest : Ordering) → r ≡ nat_cmp x y → is_eq (ordering_then r rest) ≡ true → (x ≡ y) × (is_eq rest ≡ true)
equal_first x y Less rest e h = absurd (false≢true h)
equal_first x y Equal rest e h = (ranked x y Equal e, h)
equal_first x y Greater rest e h = absurd (false≢true h)

equal_lists : (a b : List ℕ) → is_eq (slice_cmp nat_cmp a b) ≡ true → a ≡ b
equal_lists [] [] h = refl
equal_lists [] (y ∷ b) h = absurd (false≢true h)
equal_lists (x ∷ a) [] h = absurd (false≢true h)
equal_lists (x ∷ a) (y ∷ b) h =
    let parts : (x ≡ y) × (is_eq (slice_cmp nat_cmp a b) ≡ true) = equal_first x y (nat_cmp x y) (slice_cmp nat_cmp a b) refl h in
    rw (parts.0, equal_lists a b parts.1) refl

equal_texts_have_one_index : (texts : List (List ℕ)) → HaveDifferentCharacters texts → (a b : ℕ) → a < length texts → b < length texts → chars (get_or texts a []) ≡ chars (get_or texts b []) → a ≡ b
equal_texts_have_one_index texts differ a b low high same = elim (cases_lt a b) [
  | inl less ↦ absurd (differ a b [] less high same)
  | inr most ↦ elim (cases_eq a b) [
    | inl is ↦ is
    | inr apart ↦ (let less : b < a = omega arith in absurd (differ b a [] less low (sym same)))
  ]
]

pub equal_cells : (texts : List (List ℕ)) → HaveDifferentCharacters texts → (k l : Kind) (x y : ℕ) → IsCell texts k x → IsCell texts l y
    → is_eq (value_cmp (value_of_cell texts k x) (value_of_cell texts l y)) ≡ true → x ≡ y
equal_cells texts differ kind.Int kind.Int x y p q h =
    sym (bits_back x p) ∙ ap bits_of (equal_numbers (number_in x) (number_in y) (int_cmp (number_in x) (number_in y)) refl h) ∙ bits_back y q
equal_cells texts differ kind.Int (kind.Text m) x y p q h = absurd (false≢true h)
equal_cells texts differ (kind.Text n) kind.Int x y p q h = absurd (false≢true h)
equal_cells texts differ (kind.Text n) (kind.Text m) x y p q h =
    equal_texts_have_one_index texts differ x y p q (equal_lists (chars (get_or texts x [])) (chars (get_or texts y [])) h)

-- ---- the cells of a column

module _ (db : Database) (tables_are_valid : AreTables db) where
  table_cells_are_valid : (entry : ℕ) → entry < length db.slots → AreCells db.pool (cells_of db entry)
  table_cells_are_valid entry low = tables_are_valid.cells (slice_index db.slots entry) no_cells (tables_are_valid.slots entry 0 low)

  abbrev kind_at : ℕ → ℕ → Kind
  kind_at entry column = get_or (cells_of db entry).kinds column kind.Int

  column_is_valid : (ref : ColumnRef) → IsColumnOf db ref → IsColumn db.pool (cells_of db ref.from).rows (kind_at ref.from ref.column) (get_or (cells_of db ref.from).columns ref.column [])
  column_is_valid ref exists =
      let cells : Cells = cells_of db ref.from in
      column_at db.pool cells.rows cells.kinds cells.columns (table_cells_are_valid ref.from exists.entry) ref.column kind.Int [] exists.exists

  cell_is_valid : (ref : ColumnRef) → IsColumnOf db ref → (row : ℕ) → row < row_counts (tables_of db) ref.from → IsCell db.pool (kind_at ref.from ref.column) (cell_at db ref.from ref.column row)
  cell_is_valid ref exists row low =
      (column_is_valid ref exists).cells row 0 (omega (arith, (column_is_valid ref exists).height, rows_are db ref.from))

  value_of_cell_at : (ref : ColumnRef) → IsColumnOf db ref → (row : ℕ) → row < row_counts (tables_of db) ref.from
      → value_at (tables_of db) ref.from ref.column row ≡ value_of_cell db.pool (kind_at ref.from ref.column) (cell_at db ref.from ref.column row)
  value_of_cell_at ref exists row low =
      let cells : Cells = cells_of db ref.from in
      cell_value db.pool cells.rows cells.kinds cells.columns (table_cells_are_valid ref.from exists.entry) row ref.column kind.Int [] (Int (pos 0)) (omega (arith, rows_are db ref.from)) exists.exists

  columns_join : HaveDifferentCharacters db.pool → (l r : ColumnRef) → IsColumnOf db l → IsColumnOf db r
      → JoinsEqualKeys (tables_of db) (cell_at db) (record { left = place l.from l.column; right = place r.from r.column })
  columns_join differ l r left right i j low high h =
      equal_cells db.pool differ (kind_at l.from l.column) (kind_at r.from r.column) (cell_at db l.from l.column i) (cell_at db r.from r.column j)
      (cell_is_valid l left i low) (cell_is_valid r right j high)
      (ap (λ (v : Value). is_eq (value_cmp v (value_of_cell db.pool (kind_at r.from r.column) (cell_at db r.from r.column j)))) (sym (value_of_cell_at l left i low))
      ∙ ap (λ (v : Value). is_eq (value_cmp (value_at (tables_of db) l.from l.column i) v)) (sym (value_of_cell_at r right j high)) ∙ h)

-- ---- the equalities of a query

pub cells_join : (query : Query) (db : Database) → IsDatabaseOf query db → HaveDifferentCharacters db.pool → AllByRecursion (JoinsEqualKeys (tables_of db) (cell_at db)) (equalities_of query)
cells_join query db of differ = from_members (JoinsEqualKeys (tables_of db) (cell_at db)) (equalities_of query) each
  where
    each : (e : Edge) → Contains (equalities_of query) e → JoinsEqualKeys (tables_of db) (cell_at db) e
    each e there =
        let found : (cond : Cond) × Contains query.conjuncts cond × (equality_of cond ≡ Some e) = from_filter_map equality_of query.conjuncts e there in
        let j : IsJoin (out-Cond found.0) e = is_join found.0 e found.2 in
        let asked : IsWellTyped db found.0 = All-contains (IsWellTyped db) query.conjuncts found.0 of.conjuncts found.1 in
        let can : Compares (IsColumnOfKind db) (operand.Column j.left) (operand.Column j.right) = subst (IsTypedLayer (IsColumnOfKind db)) j.compares (every_here-Cond (IsTypedLayer (IsColumnOfKind db)) found.0 asked) in
        subst (JoinsEqualKeys (tables_of db) (cell_at db)) (sym j.joins) (columns_join db of.tables differ j.left j.right can.left_kind.exists can.right_kind.exists)

pub keys_are_cells : (query : Query) (db : Database) (ref : ColumnRef) → IsDatabaseOf query db → IsColumnOf db ref
    → keys_of (tables_of db) (cell_at db) ref.from ref.column ≡ slice_index_or (cells_of db ref.from).columns ref.column []
keys_are_cells query db ref of exists =
    sym (fill_by_all (cell_at db ref.from ref.column) (get_or (cells_of db ref.from).columns ref.column []) (row_counts (tables_of db) ref.from) 0
    ((column_is_valid db of.tables ref exists).height ∙ sym (rows_are db ref.from)) (λ k low. refl))

-- ---- no two texts of a pool have the same characters

pub characters_differ : (texts : List (List ℕ)) → All IsUtf8 texts → TextsAreDifferent texts → HaveDifferentCharacters texts
characters_differ texts utf8 differ i j d less within same =
    differ i j d less within
    (sym (encodes-chars (get_or texts i d) (utf8 i d (omega arith))) ∙ ap encode_utf8_all same ∙ encodes-chars (get_or texts j d) (utf8 j d within))
