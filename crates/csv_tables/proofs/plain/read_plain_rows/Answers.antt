use Rattle.std.proofs.Common.{◌≡◌, ◌∙◌, ℕ, ◌+◌, ap, sym, subst, arith, drop, length, List}
use Rattle.std.proofs.lemmas.List.{length-map}
use Rattle.std.proofs.lemmas.Result.{err_from_is_err_and}
use Rattle.schema_types.specs.declared.types.Column.{Column}
use Rattle.plain_records.specs.Plain.{after_line, first_record, plain_records}
use Rattle.plain_records.proofs.OffsetFacts.{one_record}
use Rattle.csv_tables.specs.declared.fields.Field.{Field}
use Rattle.csv_tables.specs.Fields.{IsAfterLine}
use Rattle.csv_tables.specs.NumberRows.{AreNumbersInOrder}
use Rattle.csv_tables.specs.Reads.{kinds_of, AddsRow}
use Rattle.csv_tables.specs.Records.{Record}
use Rattle.csv_tables.specs.Refused.{IsRefusalOrNoMemory}
use Rattle.csv_tables.specs.Rows.{row_of_record}
use Rattle.csv_tables.proofs.PlainFacts.{row_behind, rows_refused}
use Rattle.csv_tables.proofs.TableFacts.{columns_long, rows_more, rows_none, RowsSoFar}
use Rattle.csv_tables.proofs.plain.read_plain_rows.Goals as goal

pub rows-init : goal.rows-init
rows-init c = record {
  within = c.skip_line_ends-at.ensures.within;
  cut = c.skip_line_ends-at.ensures.text c.requires.text c.requires.cut;
  at_text = c.skip_line_ends-at.ensures.at_text;
  lengths = ap (λ (fs : List Field). length fs) c.as_mut_slice-fields.ensures.value ∙ c.in_ok-read.ensures;
  values_long = ap (λ (cells : List ℕ). length cells) c.as_mut_slice-values.ensures.value ∙ c.in_ok-read_cells.ensures;
  so_far = subst (λ (remaining : List Record). RowsSoFar c.args.columns.now c.args.places.now c.args.width (plain_records (drop c.args.start c.args.bytes.now)) remaining
      c.args.pool.now c.args.pool.now c.in_ok-found.found.items 0) c.skip_line_ends-at.ensures.records
      (rows_none c.args.columns.now c.args.places.now c.args.width (plain_records (drop c.args.start c.args.bytes.now)) c.args.pool.now c.in_ok-found.found.items c.in_ok-found.ensures);
}

pub read_row_at-requires-clause-numeric : goal.read_row_at-requires-clause-numeric
read_row_at-requires-clause-numeric c = λ yes.
    let width : length c.deref.result.now ≡ c.args.width = ap length c.deref.ensures.value ∙ c.in_ok-numbers.ensures in
    subst (AreNumbersInOrder c.args.columns.now c.args.places.now) (sym width) (c.are_numbers_in_order-is_numeric.ensures.0 yes)

pub read_row_at-requires-clause-wide : goal.read_row_at-requires-clause-wide
read_row_at-requires-clause-wide c =
    let lengths : length c.rows.found.items ≡ length c.args.columns.now =
    columns_long c.rows.pool c.rows.rows (kinds_of c.args.columns.now) c.rows.found.items c.rows.invariant.so_far.are ∙ length-map c.args.columns.now (λ (column : Column). column.kind) in
    omega (arith, lengths, c.rows.found.ok)

pub rows-preserved : goal.rows-preserved
rows-preserved c =
    let bytes = c.args.bytes.now in
    let at = c.rows.at in
    let after = c.skip_line_ends-at-in-rows.result in
    let width : length c.deref.result.now ≡ c.args.width = ap length c.deref.ensures.value ∙ c.in_ok-numbers.ensures in
    let next : IsAfterLine bytes at c.in_ok-next.next = c.in_ok-next.ensures.next in
    let adds : AddsRow (row_of_record c.args.columns.now c.args.places.now c.args.width (c.rows.rows + 1) (first_record (drop at bytes))) c.read_row_at.new.pool
    (kinds_of c.args.columns.now) c.rows.found.items c.read_row_at.new.found.items =
    subst (λ (w : ℕ). AddsRow (row_of_record c.args.columns.now c.args.places.now w (c.rows.rows + 1) (first_record (drop at bytes))) c.read_row_at.new.pool
    (kinds_of c.args.columns.now) c.rows.found.items c.read_row_at.new.found.items) width c.in_ok-next.ensures.ok in
    record {
      within = c.skip_line_ends-at-in-rows.ensures.within;
      cut = c.skip_line_ends-at-in-rows.ensures.text c.requires.text next.text;
      at_text = c.skip_line_ends-at-in-rows.ensures.at_text;
      lengths = omega (arith, c.read_row_at.auto.fields, c.rows.invariant.lengths);
      values_long = omega (arith, c.read_row_at.auto.values, c.rows.invariant.values_long);
      so_far = rw adds.added
          (rows_more c.args.columns.now c.args.places.now c.args.width (plain_records (drop c.args.start bytes)) (plain_records (drop at bytes)) (plain_records (drop after bytes))
          (first_record (drop at bytes)) c.args.pool.now c.rows.pool c.read_row_at.new.pool c.rows.found.items c.rows.rows adds.cells
          c.rows.invariant.so_far
          (row_behind bytes at c.in_ok-next.next after c.rows-test.true (c.rows.invariant.at_text c.rows-test.true) next c.skip_line_ends-at-in-rows.ensures.records)
          adds.row c.in_ok-next.ensures.begins (c.in_ok-next.ensures.few c.in_ok-next.ensures.number) c.in_ok-next.ensures.number);
    }

pub returns-in_err-next-clause-refused : goal.returns-in_err-next-clause-refused
returns-in_err-next-clause-refused c =
    let bytes = c.args.bytes.now in
    let at = c.rows.at in
    let p = err_from_is_err_and c.from_residual-in_err-next.result c.from_residual-in_err-next.ensures.1 in
    let width : length c.deref.result.now ≡ c.args.width = ap length c.deref.ensures.value ∙ c.in_ok-numbers.ensures in
    let refused : IsRefusalOrNoMemory (row_of_record c.args.columns.now c.args.places.now c.args.width (c.rows.rows + 1) (first_record (drop at bytes))) c.in_err-next.field-0.0 =
    subst (λ (w : ℕ). IsRefusalOrNoMemory (row_of_record c.args.columns.now c.args.places.now w (c.rows.rows + 1) (first_record (drop at bytes))) c.in_err-next.field-0.0) width c.in_err-next.ensures.refused in
    rw (p.1, p.2)
    (rows_refused c.args.columns.now c.args.places.now c.args.width (plain_records (drop c.args.start bytes)) (plain_records (drop at bytes)) (plain_records (after_line (drop at bytes)))
    (first_record (drop at bytes)) c.args.pool.now c.rows.pool c.rows.found.items c.rows.rows c.in_err-next.field-0.0
    c.rows.invariant.so_far (one_record bytes at c.rows-test.true (c.rows.invariant.at_text c.rows-test.true)) refused)
