-- Lists as runs. A run has a degree and a number of keys. Each of these keys is in as many rows as the degree says.
use Rattle.std.specs.Prelude.{ℕ, ◌+◌, ◌<◌, ◌≤◌, List, [], ◌∷◌, ◌++◌, map, length, take, slice_index_or}
use Rattle.std.specs.List.{AllByRecursion, sum}
use Rattle.limits.specs.Profile.{greatest_rows, most_accuracy}
use Rattle.degree_sequences.specs.ByRank.{rank_maximum}
use Rattle.piece_math.specs.declared.pieces.Piece.{Piece}
use Rattle.piece_math.specs.Expanded.{expanded}
use Rattle.safebound_lists.specs.declared.runs.Run.{Run}

-- a run as a piece of a list
abbrev pub piece_of : Run → Piece
piece_of run = record { value = run.degree; count = run.keys }

-- the list that runs stand for: the degree of each run, once for each of the run's keys
abbrev pub list_of : List Run → List ℕ
list_of runs = expanded (map piece_of runs)

-- `run_at` gives the run at an index, and `no_run` past the end
abbrev pub no_run : Run
no_run = record { degree = 0; keys = 0 }

abbrev pub run_at : List Run → ℕ → Run
run_at runs i = slice_index_or runs i no_run

-- `run` may follow the runs `before`. Its degree and its number of keys are above 0, and no earlier degree is lower. The list of `before` and `run`
-- sums to at most 2^48
pub record MayFollow (before : List Run) (run : Run) : Type 0 where
  pub degree : 0 < run.degree
  pub keys : 0 < run.keys
  pub descends : AllByRecursion (λ earlier. run.degree ≤ earlier.degree) before
  pub sum : sum (list_of (before ++ run ∷ [])) ≤ greatest_rows

-- the run at index i may follow the runs before it
abbrev pub IsValidAt : List Run → ℕ → Type 0
IsValidAt runs i = MayFollow (take i runs) (run_at runs i)

-- the runs are valid: each run may follow the runs before it
abbrev pub AreValid : List Run → Type 0
AreValid runs = (i : ℕ) → i < length runs → IsValidAt runs i

-- ---- what calls need of their arguments

-- compression needs a valid list, and an accuracy from 1 to 64
pub record MayBeCompressed (runs : List Run) (accuracy : ℕ) : Type 0 where
  pub positive : 0 < accuracy
  pub most : accuracy ≤ most_accuracy
  pub valid : AreValid runs

-- a sum needs two valid lists whose degrees sum to at most 2^48 together
pub record MayBeAdded (runs others : List Run) : Type 0 where
  pub valid : AreValid runs
  pub others_are_valid : AreValid others
  pub small : sum (list_of runs) + sum (list_of others) ≤ greatest_rows

-- `lesser_of` needs two valid lists. It gives the list whose running sums are the lesser of theirs
pub record AreBothValid (runs others : List Run) : Type 0 where
  pub valid : AreValid runs
  pub others_are_valid : AreValid others

-- `greater_of` needs two valid lists. At each rank take the greater of the two degrees: these sum to at most 2^48
pub record MayTakeGreater (runs others : List Run) : Type 0 where
  pub both : AreBothValid runs others
  pub small : sum (rank_maximum (list_of runs) (list_of others)) ≤ greatest_rows
