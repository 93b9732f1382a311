use Rattle.std.proofs.Common.{◌≡◌, ◌++◌, length}
use denote.Shadow.{shadow}
use denote.Text.{Utf8}
use Rattle.std.specs.Prelude.{string_bytes}
use Rattle.sql_tokens.specs.Words.{unquoted}
use Rattle.sql_tokens.proofs.names.unquote.Given as goal

abbrev pub decreases-quotes : goal.decreases-quotes
decreases-quotes l = length l.rest

abbrev pub invariant-quotes : goal.invariant-quotes
invariant-quotes l = record { so_far : string_bytes l.found ++ unquoted l.quote l.rest ≡ unquoted l.quote l.text; utf8 : shadow (Utf8 l.rest) }
