-- A query over a schema can be evaluated on the database of its tables.
use Rattle.std.proofs.Common.{◌≡◌, ℕ, ◌<◌, ◌≤◌, Bool, List, [], ◌∷◌, length, map, Some, option_map, get_or, refl, ap, sym, ◌∙◌, subst, arith}
use Rattle.std.specs.List.{All, AllByRecursion, slice_get}
use Rattle.std.proofs.lemmas.List as list
use Rattle.std.proofs.lemmas.List.{length-map}
use Rattle.std.proofs.lemmas.List.Elements.{All-from_get_or, All-from_recursion, All-map, recursion_from_All}
use Rattle.std.proofs.lemmas.Option.{get_or_from_slice_get, slice_get_within, slice_get-map}
use Rattle.schema_types.specs.declared.types.Column.{Column}
use Rattle.schema_types.specs.declared.types.Schema.{Schema}
use Rattle.schema_types.specs.declared.types.Table.{Table}
use Rattle.csv_tables.specs.declared.types.Cells.{Cells}
use Rattle.csv_tables.specs.declared.types.Database.{Database}
use Rattle.query_grammar.specs.declared.tree.Op.{Op}
use Rattle.query_types.specs.Typing.{IsOfKind, IsTypedLayer}
use Rattle.query_types.specs.Validity as valid
use Rattle.query_types.specs.declared.types.ColumnRef.{ColumnRef}
use Rattle.query_types.specs.declared.types.Operand.{Operand}
use Rattle.query_types.specs.declared.types.Operand.TheVariants as operand
use Rattle.query_types.specs.declared.types.Cond.{Cond, every-Cond, every_made-Cond, map-Cond, roll-Cond}
use Rattle.query_types.specs.declared.types.Cond.TheFolds.{ind-Cond}
use Rattle.query_types.specs.declared.types.Cond.TheOpen.{Cond-F}
use Rattle.query_types.specs.declared.types.Cond.TheOpen as layer
use Rattle.query_types.specs.declared.types.Cond.TheVariants.{rolls-And, rolls-Or, rolls-Not, rolls-Compare}
use Rattle.query_types.specs.declared.types.Query.{Query}
use Rattle.query_types.specs.declared.types.Source.{Source}
use Rattle.query_types.proofs.CondFacts.{every_and, every_or, every_not, every_compare}
use Rattle.sql_meaning.specs.Databases as asked
use Rattle.sql_meaning.specs.Tables.{cells_of}
use Rattle.table_files.specs.EntryTables.{AreCellsOfEach, HasCells}
use Rattle.table_files.specs.Stage.{no_table, numbers_of, index_of, table_at, tables_of_query}
use Rattle.table_files.proofs.FewRows.{HasRowsWithinLimit, tables_within_row_limit}
use Rattle.table_files.proofs.EntryRows.{db, each_count, each_sound, has_cells, index_within, slot_is}
use Rattle.table_files.proofs.IndexFacts.{different_all, without_repeats_short}

-- ---- if property Q of a comparison implies property R, the same holds for AND, OR and NOT of comparisons

module _ (Q R : Cond-F Cond → Type 0) (and : (all : List Cond) → R (layer.And all)) (or : (any : List Cond) → R (layer.Or any)) (not' : (inner : Cond) → R (layer.Not inner))
    (one : (op : Op) (left right : Operand) → Q (layer.Compare op left right) → R (layer.Compare op left right)) where
  abbrev Carried : Cond → Type 0
  Carried c = every-Cond Q c → every-Cond R c

  members : (ys : List ((c : Cond) × Carried c)) → AllByRecursion (every-Cond Q) (map (λ y. y.0) ys) → List ((c : Cond) × every-Cond R c)
  members [] h = []
  members (y ∷ ys) h = (y.0, y.1 h.0) ∷ members ys h.1

  same_members : (ys : List ((c : Cond) × Carried c)) (h : AllByRecursion (every-Cond Q) (map (λ y. y.0) ys)) → map (λ e. e.0) (members ys h) ≡ map (λ y. y.0) ys
  unfolding members
  same_members [] h = refl
  same_members (y ∷ ys) h = ap (λ cs. y.0 ∷ cs) (same_members ys h.1)

  layers : (y : Cond-F ((c : Cond) × Carried c)) → every-Cond Q (roll-Cond (map-Cond ((c : Cond) × Carried c) Cond (λ e. e.0) y)) → every-Cond R (roll-Cond (map-Cond ((c : Cond) × Carried c) Cond (λ e. e.0) y))
  layers (layer.And ys) h =
      let all = every_and Q (map (λ y. y.0) ys) (subst (every-Cond Q) (rolls-And (map (λ y. y.0) ys)) h) in
      every_made-Cond R (layer.And (map (λ y. y.0) ys)) (layer.And (members ys all)) (ap (λ (cs : List Cond). layer.And cs) (same_members ys all)) (and (map (λ y. y.0) ys))
  layers (layer.Or ys) h =
      let all = every_or Q (map (λ y. y.0) ys) (subst (every-Cond Q) (rolls-Or (map (λ y. y.0) ys)) h) in
      every_made-Cond R (layer.Or (map (λ y. y.0) ys)) (layer.Or (members ys all)) (ap (λ (cs : List Cond). layer.Or cs) (same_members ys all)) (or (map (λ y. y.0) ys))
  layers (layer.Not y) h =
      every_made-Cond R (layer.Not y.0) (layer.Not (y.0, y.1 (every_not Q y.0 (subst (every-Cond Q) (rolls-Not y.0) h)))) refl (not' y.0)
  layers (layer.Compare op left right) h =
      every_made-Cond R (layer.Compare op left right) (layer.Compare op left right) refl (one op left right (every_compare Q op left right (subst (every-Cond Q) (rolls-Compare op left right) h)))

  pub carried : (c : Cond) → Carried c
  carried = ind-Cond Carried (λ x y is. subst (λ x. Carried (roll-Cond x)) is (layers y))

-- ---- columns

module _ (schema : Schema) (query : Query) (d : Database) (cells_there : HasCells schema query.from d) (slot_count : length d.slots ≡ length query.from) where
  declared_at : (ref' : ColumnRef) (column : Column) → valid.FindsColumn schema query.from ref' column
      → slice_get (table_at schema (get_or (numbers_of query.from) ref'.from 0)).columns ref'.column ≡ Some column
  declared_at ref' column f =
      let number : get_or (numbers_of query.from) ref'.from 0 ≡ f.source.table =
      get_or_from_slice_get (numbers_of query.from) ref'.from f.source.table 0
      (slice_get-map (λ (source : Source). source.table) query.from ref'.from ∙ ap (option_map (λ (source : Source). source.table)) f.entry) in
      let table : table_at schema f.source.table ≡ f.table = get_or_from_slice_get schema.tables f.source.table f.table no_table f.exists in
      ap (λ (n : ℕ). slice_get (table_at schema n).columns ref'.column) number ∙ ap (λ (t : Table). slice_get t.columns ref'.column) table ∙ f.declared

  column_of : (ref' : ColumnRef) (column : Column) → valid.FindsColumn schema query.from ref' column → asked.IsColumnOf d ref'
  column_of ref' column f =
      let low : ref'.from < length query.from = slice_get_within query.from ref'.from f.source f.entry in
      let table : Table = table_at schema (get_or (numbers_of query.from) ref'.from 0) in
      let within : ref'.column < length table.columns = slice_get_within table.columns ref'.column column (declared_at ref' column f) in
      let wide : length (cells_of d ref'.from).kinds ≡ length table.columns = ap length (cells_there ref'.from low).kinds ∙ length-map table.columns (λ (c : Column). c.kind) in
      record { entry = omega arith; exists = omega arith }

  kind_of : (ref' : ColumnRef) (text : Bool) → valid.IsColumnOf schema query.from ref' text → asked.IsColumnOfKind d ref' text
  kind_of ref' text h =
      let low : ref'.from < length query.from = slice_get_within query.from ref'.from h.finds.source h.finds.entry in
      let table : Table = table_at schema (get_or (numbers_of query.from) ref'.from 0) in
      let found : slice_get (cells_of d ref'.from).kinds ref'.column ≡ Some h.column.kind =
      ap (λ ks. slice_get ks ref'.column) (cells_there ref'.from low).kinds ∙ slice_get-map (λ (c : Column). c.kind) table.columns ref'.column
      ∙ ap (option_map (λ (c : Column). c.kind)) (declared_at ref' h.column h.finds) in
      record { exists = column_of ref' h.column h.finds; kind = ap (option_map valid.is_text) found ∙ ap Some h.kind }

  operand_of : (o : Operand) (text : Bool) → IsOfKind (valid.IsColumnOf schema query.from) o text → IsOfKind (asked.IsColumnOfKind d) o text
  operand_of (operand.Column ref') text h = kind_of ref' text h
  operand_of (operand.Int number) text h = h
  operand_of (operand.Text t) text h = h

  pub well_typed : (c : Cond) → valid.IsCondOf schema query.from c → asked.IsWellTyped d c
  well_typed = carried (IsTypedLayer (valid.IsColumnOf schema query.from)) (IsTypedLayer (asked.IsColumnOfKind d)) (λ all. tt) (λ any. tt) (λ inner. tt)
      (λ op left right h. record { text = h.text; left_kind = operand_of left h.text h.left_kind; right_kind = operand_of right h.text h.right_kind })

  pub output_of : (ref' : ColumnRef) (column : Column) → valid.FindsColumn schema query.from ref' column → asked.IsColumnOf d ref'
  output_of = column_of

-- ---- the query can be evaluated on the database

module _ (schema : Schema) (query : Query) (texts : List (List ℕ)) (cells : List Cells) (is_of : valid.IsQueryOf schema query)
    (are : AreCellsOfEach schema texts (tables_of_query query.from) cells) (rows_limited : All HasRowsWithinLimit cells) where
  abbrev d : Database
  d = db schema query.from texts cells

  long_slots : length d.slots ≡ length query.from
  long_slots = length-map (numbers_of query.from) (index_of (tables_of_query query.from)) ∙ length-map query.from (λ (source : Source). source.table)

  slots_within : All (λ slot. slot < length cells) d.slots
  slots_within = All-from_get_or (λ slot. slot < length cells) d.slots 0
      (λ i low. omega (arith, slot_is schema query.from texts cells i (omega (arith, long_slots)), index_within schema query.from texts cells i (omega (arith, long_slots)), each_count schema texts (tables_of_query query.from) cells are))

  pub database_is : asked.IsDatabaseOf query d
  database_is = record {
    some = is_of.has_entries;
    few = is_of.entries_within_limit;
    conjuncts_within_limit = is_of.conjuncts_within_limit;
    entries = long_slots;
    tables = record {
      cells = All-from_recursion (asked.AreCells texts) cells (each_sound schema texts (tables_of_query query.from) cells are);
      slots = slots_within;
    };
    rows_within_limit = λ entry low. tables_within_row_limit d rows_limited entry;
    same_slot = λ i j lowi lowj same. slot_is schema query.from texts cells i lowi ∙ ap (index_of (tables_of_query query.from)) same
        ∙ sym (slot_is schema query.from texts cells j lowj);
    conjuncts = λ i e low. well_typed schema query d (has_cells schema query.from texts cells are) long_slots (get_or query.conjuncts i e) (is_of.conjuncts i e low);
    outputs = λ i e low. let out = is_of.outs i e low in
        output_of schema query d (has_cells schema query.from texts cells are) long_slots (get_or query.select i e).column out.column out.finds;
  }

-- ---- which tables a query names

pub table_numbers_within : (schema : Schema) (query : Query) → valid.IsQueryOf schema query → All (λ number. number < length schema.tables) (tables_of_query query.from)
table_numbers_within schema query is_of = All-from_recursion (λ number. number < length schema.tables) (tables_of_query query.from)
    (different_all (λ number. number < length schema.tables) (numbers_of query.from)
    (recursion_from_All (λ number. number < length schema.tables) (numbers_of query.from)
    (All-map (λ number. number < length schema.tables) (λ (source : Source). source.table) query.from is_of.sources)))

pub at_most_twelve_tables : (schema : Schema) (query : Query) → valid.IsQueryOf schema query → length (tables_of_query query.from) ≤ 12
at_most_twelve_tables schema query is_of = omega (arith, without_repeats_short (numbers_of query.from), length-map query.from (λ (source : Source). source.table), is_of.entries_within_limit)
