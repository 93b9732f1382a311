use Rattle.std.proofs.Common.{◌≡◌, length}
use Rattle.csv_tables.proofs.plain.numbers_of.Given as goal

abbrev pub invariant-columns : goal.invariant-columns
invariant-columns l = length l.numbers.items ≡ l.width
