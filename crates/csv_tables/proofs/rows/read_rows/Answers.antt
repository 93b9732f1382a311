use Rattle.std.proofs.Common.{◌≡◌, ◌∙◌, ap, sym, arith, length}
use Rattle.csv.specs.Records.{fields_of}
use Rattle.csv_tables.specs.Reads.{kinds_of}
use Rattle.csv_tables.specs.Records.{unread_records}
use Rattle.csv_tables.proofs.TableFacts.{as_wide, rows_more, rows_none}
use Rattle.csv_tables.proofs.rows.read_rows.Goals as goal

pub rows-init : goal.rows-init
rows-init c = record {
  reading = c.requires.reading;
  so_far = rows_none c.args.columns.now c.args.places.now c.args.width (unread_records c.args.reader.now) c.args.pool.now c.in_ok-found.found.items c.in_ok-found.ensures;
}

pub push_row-requires : goal.push_row-requires
push_row-requires c =
    let wide : length c.rows.found.items ≡ length c.deref.result.now =
    as_wide c.rows.pool c.read_record.new.pool c.rows.rows (kinds_of c.args.columns.now) c.rows.found.items _ c.read_record.new.cells.items
    c.rows.invariant.so_far.are c.in_ok-read_record.ensures.ok
    ∙ ap length (sym c.deref.ensures.value) in
    omega (arith, wide, c.rows.found.ok)

pub rows-preserved : goal.rows-preserved
rows-preserved c = record {
  reading = c.in_ok-next_record.ensures.reading c.if-branch.true;
  so_far = rw (c.in_ok-push_row.ensures, c.deref.ensures.value) (rows_more c.args.columns.now c.args.places.now c.args.width (unread_records c.args.reader.now) _ _ (fields_of c.next_record.new.row) c.args.pool.now c.rows.pool c.read_record.new.pool c.rows.found.items c.rows.rows _
      c.rows.invariant.so_far (c.in_ok-next_record.ensures.more c.if-branch.true) c.in_ok-read_record.ensures.ok c.in_ok-read_record.ensures.begins
      (c.in_ok-read_record.ensures.few c.in_ok-read_record.ensures.number) c.in_ok-read_record.ensures.number);
}
