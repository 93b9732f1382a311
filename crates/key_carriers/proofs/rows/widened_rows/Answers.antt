use Rattle.std.proofs.Common.{◌≡◌, ℕ, List, length, map, get_or, ap, ◌∙◌, subst, arith}
use Rattle.sql_meaning.specs.Tables.{row_counts, tables_of}
use Rattle.link_index.specs.Places.{IsPlaceOf}
use Rattle.join_steps.specs.Columns.{column_cells}
use Rattle.key_carriers.specs.Cells.{column_at_place, widened_to}
use Rattle.key_carriers.specs.Widened.{referred_row}
use Rattle.key_carriers.proofs.Finding.{first_is, left_count, other_added, right_count, row_added}
use Rattle.key_carriers.proofs.rows.widened_rows.Goals as goal

pub new-requires : goal.new-requires
new-requires c =
    let is : c.cells_of_column-right.result.now ≡ column_cells c.args.db.now (column_at_place c.args.edge.right) =
    c.cells_of_column-right.ensures.cells ∙ ap (column_cells c.args.db.now) c.column_at_place-2.ensures in
    record {
      within_limit = omega (
        arith,
        ap (λ (s : List ℕ). length s) is,
        right_count c.args.db.now c.args.edge c.requires.tables c.recall_texts_are_different.ensures.different c.recall_texts_are_different.ensures.utf8 c.requires.kinds,
        c.requires.within_limit,
      );
    }

pub rows-init : goal.rows-init
rows-init c = (
  c.in_ok-with_capacity.ensures.items,
  c.in_ok-with_capacity-2.ensures.items,
  c.in_ok-key.ensures ∙ c.cells_of_column-right.ensures.cells ∙ ap (column_cells c.args.db.now) c.column_at_place-2.ensures,
)

pub row_of-other-requires : goal.row_of-other-requires
row_of-other-requires c = record {
  within_limit = omega (
    arith,
    ap (λ (s : List ℕ). length s) c.rows.invariant.2,
    right_count c.args.db.now c.args.edge c.requires.tables c.recall_texts_are_different.ensures.different c.recall_texts_are_different.ensures.utf8 c.requires.kinds,
    c.requires.within_limit,
  );
}

pub overflow_cast-row : goal.overflow_cast-row
overflow_cast-row c =
    let is : c.cells_of_column-left.result.now ≡ column_cells c.args.db.now (column_at_place c.args.edge.left) =
    c.cells_of_column-left.ensures.cells ∙ ap (column_cells c.args.db.now) c.column_at_place.ensures in
    omega (
      arith,
      ap (λ (s : List ℕ). length s) is,
      left_count c.args.db.now c.args.edge c.requires.tables c.recall_texts_are_different.ensures.different c.recall_texts_are_different.ensures.utf8 c.requires.kinds,
      c.requires.rows,
      c.rows-test.true,
    )

pub rows-preserved : goal.rows-preserved
rows-preserved c =
    let left : c.cells_of_column-left.result.now ≡ column_cells c.args.db.now (column_at_place c.args.edge.left) =
    c.cells_of_column-left.ensures.cells ∙ ap (column_cells c.args.db.now) c.column_at_place.ensures in
    let is : c.row_of-other.result ≡ referred_row (tables_of c.args.db.now) c.args.edge c.rows.row =
    first_is c.args.db.now c.args.edge c.requires.tables c.recall_texts_are_different.ensures.different c.recall_texts_are_different.ensures.utf8 c.requires.kinds c.rows.row
    (omega (
      arith,
      ap (λ (s : List ℕ). length s) left,
      left_count c.args.db.now c.args.edge c.requires.tables c.recall_texts_are_different.ensures.different c.recall_texts_are_different.ensures.utf8 c.requires.kinds,
      c.rows-test.true,
    )) c.row_of-other.result
    (subst (λ (s : List ℕ). IsPlaceOf (column_cells c.args.db.now (column_at_place c.args.edge.right)) (get_or s c.rows.row 0) 0 c.row_of-other.result) left
    (subst (λ (s : List ℕ). IsPlaceOf s (get_or c.cells_of_column-left.result.now c.rows.row 0) 0 c.row_of-other.result) c.rows.invariant.2 c.row_of-other.ensures)) in (
      row_added c.args.db.now c.args.edge c.rows.row c.row_of-other.result is c.rows.made.rows.items c.add.new.self.rows.items c.rows.invariant.0 c.in_ok-add.ensures.rows,
      other_added c.args.db.now c.args.edge c.rows.row c.row_of-other.result is c.rows.made.others.items c.add.new.self.others.items c.rows.invariant.1 c.in_ok-add.ensures.others,
      c.rows.invariant.2,
    )

pub returns-clause-rows : goal.returns-clause-rows
returns-clause-rows c =
    let left : c.cells_of_column-left.result.now ≡ column_cells c.args.db.now (column_at_place c.args.edge.left) =
    c.cells_of_column-left.ensures.cells ∙ ap (column_cells c.args.db.now) c.column_at_place.ensures in
    let all : c.rows.row ≡ row_counts (tables_of c.args.db.now) c.args.edge.left.entry =
    omega (
      arith,
      ap (λ (s : List ℕ). length s) left,
      left_count c.args.db.now c.args.edge c.requires.tables c.recall_texts_are_different.ensures.different c.recall_texts_are_different.ensures.utf8 c.requires.kinds,
      c.rows-test.false,
      c.rows.auto.row-end,
    ) in
    c.rows.invariant.0 ∙ ap (λ (n : ℕ). map (λ (pair : ℕ × ℕ). pair.0) (widened_to (tables_of c.args.db.now) c.args.edge n)) all

pub returns-clause-others : goal.returns-clause-others
returns-clause-others c =
    let left : c.cells_of_column-left.result.now ≡ column_cells c.args.db.now (column_at_place c.args.edge.left) =
    c.cells_of_column-left.ensures.cells ∙ ap (column_cells c.args.db.now) c.column_at_place.ensures in
    let all : c.rows.row ≡ row_counts (tables_of c.args.db.now) c.args.edge.left.entry =
    omega (
      arith,
      ap (λ (s : List ℕ). length s) left,
      left_count c.args.db.now c.args.edge c.requires.tables c.recall_texts_are_different.ensures.different c.recall_texts_are_different.ensures.utf8 c.requires.kinds,
      c.rows-test.false,
      c.rows.auto.row-end,
    ) in
    c.rows.invariant.1 ∙ ap (λ (n : ℕ). map (λ (pair : ℕ × ℕ). pair.1) (widened_to (tables_of c.args.db.now) c.args.edge n)) all
