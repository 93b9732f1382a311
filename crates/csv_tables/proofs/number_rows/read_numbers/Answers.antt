use Rattle.std.proofs.Common.{◌≡◌, ◌≢◌, ◌∙◌, ◌+◌, ap, arith, drop, length, rules, sym, w64, Some}
use Rattle.std.specs.Int.RustNames.{FitsSigned}
use Rattle.std.proofs.lemmas.Int.{to_z-of_z}
use Rattle.plain_records.specs.Plain.{first_field}
use Rattle.csv_tables.specs.NumberRows.{IsNumberCell}
use Rattle.csv_tables.specs.Numbers.{number_in, number_of}
use Rattle.csv_tables.proofs.NumberRowFacts.{more_numbers, no_number, numbers_last, numbers_more, numbers_none, other_count}
use Rattle.csv_tables.proofs.number_rows.read_numbers.Goals as goal

pub places-init : goal.places-init
places-init c = numbers_none c.args.bytes.now c.args.start c.args.cells.now c.requires.within

pub returns-in_default : goal.returns-in_default
returns-in_default c =
    no_number c.args.bytes.now c.args.start c.places.at c.places.place c.places.cells (length c.args.cells.now) c.places.invariant
    (sym c.number_at.ensures ∙ c.in_default.is)

pub returns-else-place-count : goal.returns-else-place-count
returns-else-place-count c =
    let differs : c.places.place + 1 ≢ length c.args.cells.now = λ same. omega (arith, same) in
    other_count c.args.bytes.now c.args.start c.places.at c.places.place c.places.cells c.read_number-field.result (length c.args.cells.now) c.places.invariant c.read_number-field.ensures
    (c.is_comma.ensures.no c.if-not-is_comma.true) (omega arith) differs

pub returns : goal.returns
returns c = more_numbers c.args.bytes.now c.args.start c.places.at c.places.place c.places.cells (length c.args.cells.now) c.places.invariant (omega arith) (omega arith)

pub returns-then-place-count : goal.returns-then-place-count
returns-then-place-count c =
    let field = first_field (drop c.places.at c.args.bytes.now) in
    let spelled : number_of field ≡ Some c.in-Some.number = sym c.in-Some.ensures in
    let fits : FitsSigned w64 c.in-Some.number = search rules in
    let inverse : number_in c.cell_of.result ≡ c.in-Some.number = c.cell_of.ensures.inverse ∙ to_z-of_z w64 c.in-Some.number fits in
    let one : IsNumberCell field c.cell_of.result = record { spelled = spelled ∙ ap Some (sym inverse); small = omega arith } in
    rw c.min.ensures (numbers_last c.args.bytes.now c.args.start c.places.at c.places.place c.places.cells c.read_number-field.result c.cell_of.result c.places.invariant c.requires.text c.read_number-field.ensures one
    (c.is_comma.ensures.no c.if-not-is_comma.true) (omega arith) (omega arith))

pub places-preserved : goal.places-preserved
places-preserved c =
    let field = first_field (drop c.places.at c.args.bytes.now) in
    let spelled : number_of field ≡ Some c.in-Some.number = sym c.in-Some.ensures in
    let fits : FitsSigned w64 c.in-Some.number = search rules in
    let inverse : number_in c.cell_of.result ≡ c.in-Some.number = c.cell_of.ensures.inverse ∙ to_z-of_z w64 c.in-Some.number fits in
    let one : IsNumberCell field c.cell_of.result = record { spelled = spelled ∙ ap Some (sym inverse); small = omega arith } in
    let comma = c.is_comma.ensures.yes c.if-not-is_comma.false in
    numbers_more c.args.bytes.now c.args.start c.places.at c.places.place c.places.cells c.read_number-field.result c.cell_of.result c.places.invariant c.read_number-field.ensures one comma.0 comma.1 (omega arith)
