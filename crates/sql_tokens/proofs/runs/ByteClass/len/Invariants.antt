use Rattle.std.proofs.Common.{◌≡◌, ◌+◌, ◌-◌, ◌≤◌, length, drop}
use Rattle.std.specs.List.{prefix_len}
use Rattle.sql_tokens.specs.Pieces.{is_in}
use Rattle.sql_tokens.proofs.runs.ByteClass.len.Given as goal

abbrev pub decreases-all : goal.decreases-all
decreases-all l = length l.bytes - l.n

abbrev pub invariant-all : goal.invariant-all
invariant-all l = record { within : l.n ≤ length l.bytes; so_far : l.n + prefix_len (is_in l.self) (drop l.n l.bytes) ≡ prefix_len (is_in l.self) l.bytes }
