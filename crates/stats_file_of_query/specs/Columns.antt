-- Lists that have each column once.
use Rattle.std.specs.Prelude.{ℕ, ◌==◌, if◌then◌else◌, List, [], ◌∷◌, ◌++◌, Option, None, Some}
use Rattle.std.specs.List.{list_any}

-- the list with a column added at the end, if there is a column and the list doesn't have it yet
abbrev pub with_column : List ℕ → Option ℕ → List ℕ
with_column columns None = columns
with_column columns (Some column) = if list_any (λ other. column == other) columns then columns else (columns ++ column ∷ [])
