use Rattle.std.proofs.Common.{◌≡◌, drop}
use Rattle.std.specs.Str.{bytes_eq}
use Rattle.sql_tokens.specs.Words.{in_upper_case}
use Rattle.sql_tokens.proofs.keywords.is_spelled.Given as goal

abbrev pub invariant-all : goal.invariant-all
invariant-all l = bytes_eq (drop l.i l.word) (in_upper_case (drop l.i l.bytes)) ≡ bytes_eq l.word (in_upper_case l.bytes)
