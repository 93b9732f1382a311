use Rattle.std.proofs.Common.{◌≤◌, ◌+◌, ◌-◌, length}
use Rattle.csv_tables.specs.Fields.{DigitsSoFar}
use Rattle.csv_tables.proofs.fields.read_digits.Given as goal

abbrev pub invariant-digits : goal.invariant-digits
invariant-digits l = record {
  so_far : DigitsSoFar l.bytes l.first l.end l.size;
  few : l.end ≤ l.first + 18;
}

abbrev pub decreases-digits : goal.decreases-digits
decreases-digits l = length l.bytes - l.end
