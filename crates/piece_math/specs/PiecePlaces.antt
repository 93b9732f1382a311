-- Positions in pieces (`PiecePlace`), for a walk along a list by its runs.
use Rattle.std.specs.Prelude.{◌≡◌, ℕ, ◌+◌, ◌-◌, ◌^◌, ◌<◌, ◌≤◌, List, [], ◌∷◌, length, drop, slice_index}
use Rattle.piece_math.specs.declared.pieces.Piece.{Piece}
use Rattle.piece_math.specs.declared.walk.PiecePlace.{PiecePlace}
use Rattle.piece_math.specs.declared.walk.PiecePlaces.{PiecePlaces}
use Rattle.piece_math.specs.declared.walk.Stretch.{Stretch}
use Rattle.piece_math.specs.Expanded.{expanded}

-- the list from a position on
abbrev pub rest_from : List Piece → PiecePlace → List ℕ
rest_from ps place = drop place.used (expanded (drop place.at ps))

-- the first piece without its first `used` elements. At the end of a list it is a piece of 2 ^ 64 - 1 zeros
abbrev pub first_remaining : List Piece → ℕ → Piece
first_remaining [] used = record { value = 0; count = 2 ^ 64 - 1 }
first_remaining (p ∷ ps) used = record { value = p.value; count = p.count - used }

-- the equal elements from a position on, within its piece
abbrev pub ahead_of : List Piece → PiecePlace → Piece
ahead_of ps place = first_remaining (drop place.at ps) place.used

-- a position within pieces, or their end
pub record IsPiecePlace (ps : List Piece) (place : PiecePlace) : Type 0 where
  pub within : place.at ≤ length ps
  pub inside : 0 < (ahead_of ps place).count

-- a stretch of a walk along two lists: the next ranks on which neither list changes. It uses up a piece of at least one list
pub record IsStretch (a b : List Piece) (places : PiecePlaces) (stretch : Stretch) : Type 0 where
  pub some : 0 < stretch.count
  pub equal_left : (k : ℕ) → k < stretch.count → slice_index (rest_from a places.left) k ≡ stretch.left
  pub equal_right : (k : ℕ) → k < stretch.count → slice_index (rest_from b places.right) k ≡ stretch.right
  pub next_left : IsPiecePlace a stretch.next.left
  pub next_right : IsPiecePlace b stretch.next.right
  pub rest_left : rest_from a stretch.next.left ≡ drop stretch.count (rest_from a places.left)
  pub rest_right : rest_from b stretch.next.right ≡ drop stretch.count (rest_from b places.right)
  pub stays_left : places.left.at ≤ stretch.next.left.at
  pub stays_right : places.right.at ≤ stretch.next.right.at
  pub onward : places.left.at + places.right.at < stretch.next.left.at + stretch.next.right.at
