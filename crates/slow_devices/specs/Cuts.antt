-- How many bytes of a call a slow device hands on.
use Rattle.std.specs.Prelude.{ℕ, max, min}

-- how many of the `wanted` bytes of a call are handed on: at most `most`, where 0 counts as 1
abbrev pub bytes_handed_on : ℕ → ℕ → ℕ
bytes_handed_on most wanted = min (max most 1) wanted
