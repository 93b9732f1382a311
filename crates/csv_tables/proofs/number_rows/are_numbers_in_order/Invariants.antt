use Rattle.std.proofs.Common.{◌≡◌, ◌<◌, ℕ, All, get_or, take}
use Rattle.schema_types.specs.declared.types.Column.{Column}
use Rattle.schema_types.specs.declared.types.Kind.TheVariants as kind
use Rattle.csv_tables.proofs.number_rows.are_numbers_in_order.Given as goal

abbrev pub invariant-columns : goal.invariant-columns
invariant-columns l = record {
  order : (i : ℕ) → i < l.at → get_or l.places i 0 ≡ i;
  kinds : All (λ (column : Column). column.kind ≡ kind.Int) (take l.at l.columns);
}
