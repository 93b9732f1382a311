use Rattle.std.proofs.Common.{◌≡◌, ◌+◌, length}
use Rattle.sql_tokens.specs.Pieces.{tokens_at, with_front}
use Rattle.sql_tokens.proofs.lexer.tokens_from.Given as goal

abbrev pub decreases-pieces : goal.decreases-pieces
decreases-pieces l = length l.rest

abbrev pub invariant-pieces : goal.invariant-pieces
invariant-pieces l = record { place : l.at + length l.rest ≡ l.start + length l.text; so_far : with_front l.tokens (tokens_at l.at l.rest) ≡ tokens_at l.start l.text }
