use Rattle.std.proofs.Common.{◌≡◌, map, take}
use Rattle.sql_tokens.specs.Words.{lexeme_of}
use Rattle.sql_tokens.proofs.terminals.lexemes.Given as goal

abbrev pub invariant-all : goal.invariant-all
invariant-all l = l.found ≡ map (lexeme_of l.text) (take l.token-index l.tokens)
