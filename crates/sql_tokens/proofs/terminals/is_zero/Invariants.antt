use Rattle.std.proofs.Common.{◌≡◌, drop}
use Rattle.std.specs.List.{list_all}
use Rattle.sql_tokens.specs.Words.{is_zero_digit}
use Rattle.sql_tokens.proofs.terminals.is_zero.Given as goal

abbrev pub invariant-all : goal.invariant-all
invariant-all l = list_all is_zero_digit (drop l.digit-index l.digits) ≡ list_all is_zero_digit l.digits
