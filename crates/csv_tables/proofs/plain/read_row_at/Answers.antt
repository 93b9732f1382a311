use Rattle.std.proofs.Common.{◌≡◌, ◌∙◌, ap, arith, length}
use Rattle.std.proofs.lemmas.List.{length-map}
use Rattle.schema_types.specs.declared.types.Column.{Column}
use Rattle.csv_tables.specs.Reads.{kinds_of}
use Rattle.csv_tables.proofs.NumberRowFacts.{row_of_numbers}
use Rattle.csv_tables.proofs.TableFacts.{row_long}
use Rattle.csv_tables.proofs.plain.read_row_at.Goals as goal

pub returns-in-Some-clause-ok : goal.returns-in-Some-clause-ok
returns-in-Some-clause-ok c =
    let lengths : length c.read_numbers.new.cells ≡ length c.args.numbers.now = omega (arith, c.read_numbers.auto.cells, c.requires.values) in
    record {
      cells = c.read_numbers.new.cells;
      row = row_of_numbers c.args.pool.now c.args.columns.now c.args.places.now (length c.args.numbers.now) c.args.number c.args.bytes.now c.args.start c.read_numbers.new.cells c.in-Some.next
          (c.requires.numeric c.if-is_numeric.true) c.requires.paired lengths c.if-number-le-MOST_ROWS.true c.in-Some.ensures;
      added = c.in_ok-push_row.ensures;
    }

pub push_row-requires-2 : goal.push_row-requires-2
push_row-requires-2 c =
    let row = c.in_ok-next.ensures.ok in
    let lengths : length c.read_record_at.new.cells.items ≡ length c.args.columns.now =
    row_long c.read_record_at.new.pool (kinds_of c.args.columns.now) row.row c.read_record_at.new.cells.items row.cells_of_row
    ∙ length-map c.args.columns.now (λ (column : Column). column.kind) in
    omega (arith, lengths, c.requires.wide, ap length c.deref.ensures.value)
