use Rattle.std.proofs.Common.{◌≡◌, ◌-◌, ◌≤◌, length, drop}
use Rattle.sql_tokens.specs.Pieces.{closing_length, further}
use Rattle.sql_tokens.proofs.pieces.closed_len.Given as goal

abbrev pub decreases-all : goal.decreases-all
decreases-all l = length l.bytes - l.n

abbrev pub invariant-all : goal.invariant-all
invariant-all l = record { within : l.n ≤ length l.bytes; so_far : further l.n (closing_length l.quote (drop l.n l.bytes)) ≡ closing_length l.quote l.bytes }
