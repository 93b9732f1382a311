use Rattle.std.proofs.Common.{◌≡◌, ◌≤◌, drop}
use Rattle.std.specs.Str.{all_ascii_digits}
use Rattle.csv_tables.specs.Numbers.{decimal_after}
use Rattle.csv_tables.proofs.number.long_value.Given as goal

abbrev pub invariant-digits : goal.invariant-digits
invariant-digits l = record {
  digits : all_ascii_digits l.digits ≡ all_ascii_digits (drop l.digit-index l.digits);
  spelled : decimal_after 0 l.digits ≡ decimal_after l.size (drop l.digit-index l.digits);
  within : l.size ≤ l.most;
}
