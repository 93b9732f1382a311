use Rattle.std.proofs.Common.{◌≡◌, map, drop}
use Rattle.sql_tokens.specs.Words.{word_and_terminal, in_upper_case, terminal_in}
use Rattle.sql_tokens.proofs.keywords.find.Given as goal

abbrev pub invariant-all : goal.invariant-all
invariant-all l = terminal_in (map word_and_terminal (drop l.word-index l.keywords)) (in_upper_case l.bytes) ≡ terminal_in (map word_and_terminal l.keywords) (in_upper_case l.bytes)
