-- A walk along two lists, rank by rank: its two positions are at the same rank.
use Rattle.std.proofs.Common.{◌≡◌, ℕ, ◌+◌, ◌<◌, ◌≤◌, List, [], length, get_or, drop, refl, ap, sym, ◌∙◌, arith, length-drop}
use Rattle.std.proofs.lemmas.List.{get_or-drop, drop_all}
use Rattle.std.proofs.Math.Seq.{drop-nil}
use Rattle.piece_math.specs.declared.pieces.Piece.{Piece}
use Rattle.piece_math.specs.declared.walk.PiecePlace.{PiecePlace}
use Rattle.piece_math.specs.declared.walk.PiecePlaces.{PiecePlaces}
use Rattle.piece_math.specs.declared.walk.Stretch.{Stretch}
use Rattle.piece_math.specs.Expanded.{expanded, ArePieces}
use Rattle.piece_math.specs.PiecePlaces.{rest_from, IsPiecePlace, IsStretch}
use Rattle.piece_math.proofs.PiecePlaces.{drop-drop, IsPiecePlace-start}

pub record Walked (a b : List Piece) (places : PiecePlaces) : Type 0 where
  pub rank : ℕ
  pub left : rest_from a places.left ≡ drop rank (expanded a)
  pub right : rest_from b places.right ≡ drop rank (expanded b)
  pub left_place : IsPiecePlace a places.left
  pub right_place : IsPiecePlace b places.right

abbrev pub walk_start : (a b : List Piece) → ArePieces a → ArePieces b → Walked a b (record { left = record { at = 0; used = 0 }; right = record { at = 0; used = 0 } })
walk_start a b are_a are_b = record {
  rank = 0;
  left = refl;
  right = refl;
  left_place = IsPiecePlace-start a are_a;
  right_place = IsPiecePlace-start b are_b;
}

pub element_ahead : (ps : List Piece) (place : PiecePlace) (n k x : ℕ) → rest_from ps place ≡ drop n (expanded ps) → get_or (rest_from ps place) k 0 ≡ x → get_or (expanded ps) (n + k) 0 ≡ x
element_ahead ps place n k x at_n same = sym (get_or-drop n (expanded ps) k 0) ∙ ap (λ (s : List ℕ). get_or s k 0) (sym at_n) ∙ same

pub rest_after : (ps : List Piece) (place next : PiecePlace) (n c : ℕ) → rest_from ps place ≡ drop n (expanded ps) → rest_from ps next ≡ drop c (rest_from ps place)
    → rest_from ps next ≡ drop (n + c) (expanded ps)
rest_after ps place next n c at_n after = after ∙ ap (drop c) at_n ∙ drop-drop n c (expanded ps)

pub rest_past_end : (ps : List Piece) (place : PiecePlace) (n : ℕ) → rest_from ps place ≡ drop n (expanded ps) → length ps ≤ place.at → length (expanded ps) ≤ n
rest_past_end ps place n at_n ended =
    let nothing : rest_from ps place ≡ [] = rw (drop_all place.at ps ended) (drop-nil place.used) in
    omega (arith, length-drop n (expanded ps), ap length at_n, ap length nothing)

module _ {a b : List Piece} {places : PiecePlaces} {stretch : Stretch} (t : IsStretch a b places stretch) (w : Walked a b places) where
  abbrev pub walk_on : Walked a b stretch.next
  walk_on = record {
    rank = w.rank + stretch.count;
    left = rest_after a places.left stretch.next.left w.rank stretch.count w.left t.rest_left;
    right = rest_after b places.right stretch.next.right w.rank stretch.count w.right t.rest_right;
    left_place = t.next_left;
    right_place = t.next_right;
  }

  pub at_left : (k : ℕ) → k < stretch.count → get_or (expanded a) (w.rank + k) 0 ≡ stretch.left
  at_left k h = element_ahead a places.left w.rank k stretch.left w.left (t.equal_left k h)

  pub at_right : (k : ℕ) → k < stretch.count → get_or (expanded b) (w.rank + k) 0 ≡ stretch.right
  at_right k h = element_ahead b places.right w.rank k stretch.right w.right (t.equal_right k h)
