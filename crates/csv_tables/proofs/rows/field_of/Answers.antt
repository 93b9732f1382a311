use Rattle.std.proofs.Common.{sym}
use Rattle.csv.specs.Records.{fields_of}
use Rattle.csv.proofs.RecordFacts.{field-get, text-of}
use Rattle.csv_tables.proofs.TextFacts.{no_field}
use Rattle.csv_tables.proofs.rows.field_of.Goals as goal

pub returns-in-Some-clause-field : goal.returns-in-Some-clause-field
returns-in-Some-clause-field c = sym (field-get (fields_of c.args.row.now) c.args.place c.in-Some.field.now (sym c.in-Some.ensures.value))

pub returns-in-Some-clause-text : goal.returns-in-Some-clause-text
returns-in-Some-clause-text c = text-of (fields_of c.args.row.now) c.args.place c.in-Some.field.now c.requires (sym c.in-Some.ensures.value)

pub returns-in-None-clause-field : goal.returns-in-None-clause-field
returns-in-None-clause-field c = sym (no_field (fields_of c.args.row.now) c.args.place (sym c.in-None.ensures.value))
