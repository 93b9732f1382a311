use Rattle.std.proofs.Common.{◌<◌, length, arith, sym}
use Rattle.csv.specs.Records.{fields_of}
use Rattle.csv.proofs.RecordFacts.{field-there}
use Rattle.csv_tables.proofs.HeaderFacts.{found_one, found_two, passed_over}
use Rattle.csv_tables.proofs.header.place_of.Goals as goal

pub returns-in_default : goal.returns-in_default
returns-in_default c =
    let within : c.fields.at < length (fields_of c.args.header.now) = omega (arith, c.fields-test.true, c.len-at-end.ensures) in
    absurd (field-there (fields_of c.args.header.now) c.fields.at within (sym c.in_default.ensures.value))

pub returns-then-is_some : goal.returns-then-is_some
returns-then-is_some c =
    let within : c.fields.at < length (fields_of c.args.header.now) = omega (arith, c.fields-test.true, c.len-at-end.ensures) in
    sym (found_two c.args.name.now (fields_of c.args.header.now) c.fields.found c.fields.at c.in-Some.field.now within (sym c.in-Some.ensures.value)
    (sym c.if-not-is_named.ensures) (sym c.if-is_some.ensures) c.fields.invariant)

pub fields-preserved : goal.fields-preserved
fields-preserved c =
    let within : c.fields.at < length (fields_of c.args.header.now) = omega (arith, c.fields-test.true, c.len-at-end.ensures) in
    found_one c.args.name.now (fields_of c.args.header.now) c.fields.found c.fields.at c.in-Some.field.now within (sym c.in-Some.ensures.value)
    (sym c.if-not-is_named.ensures) (sym c.if-is_some.ensures) c.fields.invariant

pub fields-preserved-then-not-is_named : goal.fields-preserved-then-not-is_named
fields-preserved-then-not-is_named c =
    let within : c.fields.at < length (fields_of c.args.header.now) = omega (arith, c.fields-test.true, c.len-at-end.ensures) in
    passed_over c.args.name.now (fields_of c.args.header.now) c.fields.found c.fields.at c.in-Some.field.now within (sym c.in-Some.ensures.value)
    (sym c.if-not-is_named.ensures) c.fields.invariant
