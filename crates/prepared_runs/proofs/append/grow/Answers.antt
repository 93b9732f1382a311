use Rattle.std.proofs.Common.{◌∙◌, sym}
use Rattle.csv_tables.proofs.KeyFacts.{rows-length}
use Rattle.table_files.specs.EntryTables.{rows_of_read}
use Rattle.prepared_runs.proofs.AppendStages.{grown_within_limit, grown_above_limit}
use Rattle.prepared_runs.proofs.append.grow.Goals as goal

pub returns-then-not-fits_with-clause-refused : goal.returns-then-not-fits_with-clause-refused
returns-then-not-fits_with-clause-refused c =
    rw c.from.ensures (grown_above_limit c.args.schema.now c.args.stats c.args.found.table c.args.found.rows (rows_of_read c.args.rows) c.args.rows.cells.rows
    (sym (rows-length c.args.rows.pool c.args.rows.cells.kinds c.args.rows.cells.columns c.args.rows.cells.rows)) (sym c.if-not-fits_with.true ∙ c.fits_with.ensures))

pub returns-clause-made : goal.returns-clause-made
returns-clause-made c =
    grown_within_limit c.args.schema.now c.args.stats c.args.found.table c.args.found.rows (rows_of_read c.args.rows) c.args.rows.cells.rows
    (sym (rows-length c.args.rows.pool c.args.rows.cells.kinds c.args.rows.cells.columns c.args.rows.cells.rows)) c.in_ok-file.file (sym c.if-not-fits_with.false ∙ c.fits_with.ensures)
    c.in_ok-file.ensures.file
