-- The runs of a list of numbers.
use Rattle.std.specs.Prelude.{ℕ, ◌+◌, ◌==◌, if◌then◌else◌, List, [], ◌∷◌}
use Rattle.piece_math.specs.declared.pieces.Piece.{Piece}

abbrev pub run_of : ℕ → ℕ → Piece
run_of value count = record { value = value; count = count }

-- the runs after a number is put in front: the first run grows, or a new run begins
abbrev pub with_number_in_front : ℕ → List Piece → List Piece
with_number_in_front x [] = run_of x 1 ∷ []
with_number_in_front x (run ∷ runs) = if x == run.value then run_of x (run.count + 1) ∷ runs else run_of x 1 ∷ (run ∷ runs)

-- the runs of equal neighbours, each as a value and a count
unfoldable pub runs_of : List ℕ → List Piece
runs_of [] = []
runs_of (x ∷ list) = with_number_in_front x (runs_of list)
