-- Values and ranges that are turned into literals and back don't change.
use Rattle.std.proofs.Common.{◌≡◌, List, [], ◌∷◌, map, Option, None, Some, option_map, refl, ap, ◌∙◌}
use Rattle.csv_tables.specs.Values as values
use Rattle.csv_tables.specs.Values.{Value}
use Rattle.filtered_lists.specs.Ranges as ranges
use Rattle.predicate_bounds.specs.Steps.{literal_of, value_of, literal_range_of, range_of}

pub value_of_literal_of : (v : Value) → value_of (literal_of v) ≡ v
value_of_literal_of (values.Int number) = refl
value_of_literal_of (values.Text text) = refl

option_values_of_literals : (o : Option Value) → option_map value_of (option_map literal_of o) ≡ o
option_values_of_literals None = refl
option_values_of_literals (Some v) = ap Some (value_of_literal_of v)

pub range_of_in : (r : ranges.Range) → range_of (literal_range_of r) ≡ r
range_of_in r = ap (λ (low : Option Value). record { column = r.column; low = low; high = option_map value_of (option_map literal_of r.high) }) (option_values_of_literals r.low)
    ∙ ap (λ (high : Option Value). record { column = r.column; low = r.low; high = high }) (option_values_of_literals r.high)

pub ranges_of_ranges_in : (rs : List ranges.Range) → map range_of (map literal_range_of rs) ≡ rs
ranges_of_ranges_in [] = refl
ranges_of_ranges_in (r ∷ rs) = ap (λ (x : ranges.Range). x ∷ map range_of (map literal_range_of rs)) (range_of_in r) ∙ ap (λ (xs : List ranges.Range). r ∷ xs) (ranges_of_ranges_in rs)
