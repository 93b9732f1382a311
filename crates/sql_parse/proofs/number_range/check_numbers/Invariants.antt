use Rattle.std.proofs.Common.{◌≡◌, drop}
use Rattle.query_names.specs.Answers.{first}
use Rattle.query_names.specs.Numbers.{number_offences, offences_after}
use Rattle.sql_parse.proofs.number_range.check_numbers.Given as goal

abbrev pub invariant-all : goal.invariant-all
invariant-all l = first (number_offences l.text l.tokens) ≡ first (offences_after l.text l.before (drop l.token-index l.tokens))
