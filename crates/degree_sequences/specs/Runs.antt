-- Runs of equal neighbours.
use Rattle.std.specs.Prelude.{ℕ, ◌+◌, ◌==◌, if◌then◌else◌, List, [], ◌∷◌}

-- how many runs the list has, not counting a run that continues the value before the list
abbrev pub runs_after : ℕ → List ℕ → ℕ
runs_after before [] = 0
runs_after before (x ∷ s) = (if x == before then 0 else 1) + runs_after x s

-- how many runs a list of positive numbers has
abbrev pub runs : List ℕ → ℕ
runs s = runs_after 0 s
