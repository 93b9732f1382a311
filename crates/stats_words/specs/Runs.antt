-- Runs that may come next in a list, and the text of a list.
use Rattle.std.specs.Prelude.{ℕ, ◌*◌, ◌<◌, ◌≤◌, List}
use Rattle.piece_math.specs.declared.pieces.Piece.{Piece}
use Rattle.stats_file.specs.Lines.{runs_text}
use Rattle.stats_file.specs.Runs.{runs_of}

-- a run that may come next in a descending list of positive numbers. Its value is below `below`, the value of the run before it. Its sum is at most
-- `left`
pub record RunMayFollow (below left : ℕ) (run : Piece) : Type 0 where
  pub value : 0 < run.value
  pub count : 0 < run.count
  pub lower : run.value < below
  pub within : run.count * run.value ≤ left

-- the text of a list, as its runs
abbrev pub list_text : List ℕ → List ℕ
list_text list = runs_text (runs_of list)
