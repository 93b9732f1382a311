-- Two small tables, for examples.
use Rattle.std.specs.Prelude.{ℕ, if◌then◌else◌, ◌==◌, List, [], ◌∷◌, map, pos}
use Rattle.csv_tables.specs.Values.{Int}
use Rattle.sql_meaning.specs.Tables.{Tables}

-- the columns of R(X) and S(X)
abbrev pub r_column : List ℕ
r_column = 1 ∷ 1 ∷ 1 ∷ 2 ∷ 2 ∷ 3 ∷ []

abbrev pub s_column : List ℕ
s_column = 1 ∷ 1 ∷ 4 ∷ 5 ∷ 6 ∷ []

-- the tables as rows of values: entry 0 is R, and any other entry is S
abbrev pub small_tables : Tables
small_tables entry = map (λ n. Int (pos n) ∷ []) (if entry == 0 then r_column else s_column)
