-- A limit of memory: a plan whose buffers take more bytes is refused.
use Rattle.std.specs.Prelude.{ℕ, ◌≤◌, nat_le, if◌then◌else◌, Option, None, Some, Result, Ok, Err, ⊤}
use Rattle.outcomes.specs.declared.refusal.Refusal.{Refusal}
use Rattle.outcomes.specs.declared.refusal.Refusal.TheVariants as refusal

-- the value, if there is no limit or `bytes` is within it; otherwise the refusal
abbrev pub within_limit : {A : Type 0} → Option ℕ → ℕ → A → Result A Refusal
within_limit None bytes value = Ok value
within_limit (Some limit) bytes value = if nat_le bytes limit then Ok value else Err (refusal.MemoryLimit bytes)

-- whether `bytes` is within the limit
abbrev pub limit_test : Option ℕ → ℕ → Result (Unit {0}) Refusal
limit_test limit bytes = within_limit limit bytes tt

-- `bytes` is within the limit, if there is one
abbrev pub IsWithinLimit : Option ℕ → ℕ → Type 0
IsWithinLimit None bytes = ⊤
IsWithinLimit (Some limit) bytes = bytes ≤ limit
