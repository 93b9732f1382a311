-- The value that a `ValueRef` has.
use Rattle.csv_tables.specs.Values.{Value, Int, Text}
use Rattle.sql_meaning.specs.declared.values.ValueRef.{ValueRef}
use Rattle.sql_meaning.specs.declared.values.ValueRef.TheVariants as «ref»

abbrev pub value_of_ref : ValueRef → Value
value_of_ref («ref».Int number) = Int number
value_of_ref («ref».Text text) = Text text.now
