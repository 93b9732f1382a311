use Rattle.std.proofs.Common.{◌∙◌, sym, ap}
use Rattle.csv.specs.Records.{fields_of}
use Rattle.csv_tables.specs.Header.{column_place}
use Rattle.csv_tables.specs.Steps.{or_refuse}
use Rattle.csv_tables.specs.declared.types.TableError.TheVariants as error
use Rattle.csv_tables.proofs.HeaderFacts.{places_of_next}
use Rattle.csv_tables.proofs.StepFacts.{read_refused}
use Rattle.csv_tables.proofs.header.places_of.Goals as goal

pub returns-in_default-clause-refused : goal.returns-in_default-clause-refused
returns-in_default-clause-refused c =
    let name = c.as_bytes.ensures.value ∙ c.as_str.ensures in
    read_refused _ _ _ _ _ _ c.columns.invariant.read
    (places_of_next c.args.columns.now c.columns.number c.index-columns-number.result (fields_of c.args.header.now) c.columns-test.true c.index-columns-number.is)
    (ap (or_refuse (error.Header c.columns.number)) (ap (λ n. column_place n (fields_of c.args.header.now)) (sym name) ∙ sym c.in_default.ensures))
