-- Values in the form that a statistics file has.
use Rattle.csv_tables.specs.Values as values
use Rattle.csv_tables.specs.Values.{Value}
use Rattle.stats_file.specs.declared.types.Datum.{Datum}
use Rattle.stats_file.specs.declared.types.Datum.TheVariants as datum

abbrev pub datum_of : Value → Datum
datum_of (values.Int number) = datum.Int number
datum_of (values.Text text) = datum.Text text

abbrev pub value_of : Datum → Value
value_of (datum.Int number) = values.Int number
value_of (datum.Text text) = values.Text text
