use Rattle.std.proofs.Common.{◌≡◌, ◌≤◌, min, drop}
use Rattle.sql_tokens.specs.Words.{digits_from}
use Rattle.sql_tokens.proofs.names.number.Given as goal

abbrev pub invariant-all : goal.invariant-all
invariant-all l = record {
  so_far : min (digits_from l.value (drop l.digit-index l.digits)) 18446744073709551615 ≡ min (digits_from 0 l.digits) 18446744073709551615;
  fits : l.value ≤ 18446744073709551615;
}
