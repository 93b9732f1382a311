use Rattle.std.proofs.Common.{◌≤◌, arith, length}
use Rattle.csv_tables.proofs.SpanFacts.{fields_more, last_count, last_field, more_fields}
use Rattle.csv_tables.proofs.fields.read_fields.Goals as goal

pub returns-then-place-numbers : goal.returns-then-place-numbers
returns-then-place-numbers c =
    rw c.min.ensures (last_field c.args.bytes.now c.args.start c.places.at c.places.place c.places.fields c.read_field-field.result c.places.invariant c.requires.text c.read_field-field.ensures
    (c.is_comma.ensures.no c.if-not-is_comma.true) (omega (arith, c.requires.lengths, c.places-test.true)) (omega (arith, c.requires.lengths)))

pub returns-else-place-numbers : goal.returns-else-place-numbers
returns-else-place-numbers c = λ same.
    omega (
      arith,
      c.requires.lengths,
      same,
      last_count c.args.bytes.now c.args.start c.places.at c.places.place c.places.fields c.read_field-field.result c.places.invariant c.read_field-field.ensures
          (c.is_comma.ensures.no c.if-not-is_comma.true) (omega (arith, c.requires.lengths, c.places-test.true)),
    )

pub places-preserved : goal.places-preserved
places-preserved c =
    let comma = c.is_comma.ensures.yes c.if-not-is_comma.false in
    fields_more c.args.bytes.now c.args.start c.places.at c.places.place c.places.fields c.read_field-field.result c.places.invariant c.requires.text c.read_field-field.ensures
    comma.0 comma.1 (omega (arith, c.requires.lengths, c.places-test.true))

pub returns : goal.returns
returns c = λ same.
    let inside : c.places.place ≤ length c.places.fields = omega (arith, c.requires.lengths) in
    omega (arith, same, c.requires.lengths, more_fields c.args.bytes.now c.args.start c.places.at c.places.place c.places.fields c.places.invariant inside)
