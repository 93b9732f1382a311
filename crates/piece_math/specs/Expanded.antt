-- A list in descending order, kept as pieces. Each piece stands for equal elements.
use Rattle.std.specs.Prelude.{◌≡◌, ℕ, ◌+◌, ◌^◌, ◌<◌, ◌≤◌, ⊤, List, [], ◌∷◌, ◌++◌, replicate, length}
use Rattle.degree_sequences.specs.Runs.{runs}
use Rattle.piece_math.specs.declared.pieces.Piece.{Piece}

-- the list that pieces stand for: for each piece, `count` elements of its value
abbrev pub expanded : List Piece → List ℕ
expanded [] = []
expanded (p ∷ ps) = replicate p.count p.value ++ expanded ps

-- the value of the first piece, or 0 if there is no piece
abbrev pub first_value : List Piece → ℕ
first_value [] = 0
first_value (p ∷ ps) = p.value

-- each piece is a run of its own: values are strictly descending, and values and counts are positive
abbrev pub AreRuns : List Piece → Type 0
AreRuns [] = ⊤
AreRuns (p ∷ ps) = (first_value ps < p.value) × (0 < p.count) × AreRuns ps

-- pieces that stand for a list whose length fits 64 bits
pub record ArePieces (ps : List Piece) : Type 0 where
  pub descends : AreRuns ps
  pub fits : length (expanded ps) < 2 ^ 64

-- `new` is `old` with `count` more elements of this value, or `old` itself if the value is 0. `new` has at most one run more than `old`. The value
-- has 128 bits
pub record IsAppended (old new : List ℕ) (value count : ℕ) : Type 0 where
  pub fits : value < 2 ^ 128
  pub some : 0 < value → new ≡ old ++ replicate count value
  pub zeros : value ≡ 0 → new ≡ old
  pub few : runs new ≤ runs old + 1
