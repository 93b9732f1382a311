-- Positions of a walk along pieces: which elements are ahead of a position, and which position comes next.
use Rattle.std.proofs.Common.{◌≡◌, ℕ, zero, suc, ◌+◌, ◌-◌, ◌^◌, ◌<◌, ◌≤◌, min, List, [], ◌∷◌, ◌++◌, length, get_or, drop, replicate, refl, ap, sym, ◌∙◌, arith, length-append, zero-add, ◌⊎◌, inl, inr}
use Rattle.std.proofs.Math.Nat.{suc-add}
use Rattle.std.proofs.Math.Seq.{drop-nil}
use Rattle.std.proofs.Math.ListN.{get_or-append}
use Rattle.std.proofs.lemmas.List.{get_or-drop, get_or-replicate, length-replicate, drop_all}
use Rattle.std.proofs.lemmas.Bool.{cases_lt}
use Rattle.piece_math.specs.declared.pieces.Piece.{Piece}
use Rattle.piece_math.specs.declared.walk.PiecePlace.{PiecePlace}
use Rattle.piece_math.specs.Expanded.{expanded, AreRuns, ArePieces}
use Rattle.piece_math.specs.PiecePlaces.{rest_from, first_remaining, ahead_of, IsPiecePlace}

pub drop-drop : (m n : ℕ) (s : List ℕ) → drop n (drop m s) ≡ drop (m + n) s
drop-drop zero n s = ap (λ k. drop k s) (sym (zero-add n))
drop-drop (suc m) n [] = drop-nil n ∙ sym (drop-nil (suc m + n))
drop-drop (suc m) n (x ∷ s) = drop-drop m n s ∙ ap (λ k. drop k (x ∷ s)) (sym (suc-add m n))

-- Past the last piece a position has 2 ^ 64 - 1 zeros ahead. So a walk along two lists can go on to the end of the longer one.
pub first_remaining-end : (ps : List Piece) (i used : ℕ) → length ps ≤ i → first_remaining (drop i ps) used ≡ record { value = 0; count = 2 ^ 64 - 1 }
first_remaining-end ps i used h = rw (drop_all i ps h) refl

equal_first : (ps : List Piece) (used k : ℕ) → k < (first_remaining ps used).count → get_or (drop used (expanded ps)) k 0 ≡ (first_remaining ps used).value
equal_first [] used k h = rw (drop-nil used) refl
equal_first (p ∷ ps) used k h =
    get_or-drop used (replicate p.count p.value ++ expanded ps) k 0
    ∙ get_or-append (replicate p.count p.value) (expanded ps) 0 (used + k) (omega (arith, length-replicate p.count p.value))
    ∙ get_or-replicate p.count (used + k) p.value 0 (omega arith)

pub equal_ahead : (ps : List Piece) (place : PiecePlace) (k : ℕ) → k < (ahead_of ps place).count → get_or (rest_from ps place) k 0 ≡ (ahead_of ps place).value
equal_ahead ps place k h = equal_first (drop place.at ps) place.used k h

-- ---- the next position

some_first : (ps : List Piece) → AreRuns ps → (i : ℕ) → 0 < (first_remaining (drop i ps) 0).count
some_first [] fall i = rw (drop-nil i) (omega arith)
some_first (p ∷ ps) fall zero = omega (arith, fall.1)
some_first (p ∷ ps) fall (suc i) = some_first ps fall.2 i

pub IsPiecePlace-next : (ps : List Piece) (i : ℕ) → ArePieces ps → i < length ps → IsPiecePlace ps (record { at = i + 1; used = 0 })
IsPiecePlace-next ps i are h = record { within = omega arith; inside = some_first ps are.descends (i + 1) }

pub IsPiecePlace-start : (ps : List Piece) → ArePieces ps → IsPiecePlace ps (record { at = 0; used = 0 })
IsPiecePlace-start ps are = record { within = omega arith; inside = some_first ps are.descends 0 }

pub place_fits : (ps : List Piece) (i used n : ℕ) → i < length ps → 0 < (first_remaining (drop i ps) used).count → n ≤ (first_remaining (drop i ps) used).count → used + n ≤ length (expanded ps)
place_fits [] i used n h some le = absurd (omega arith)
place_fits (p ∷ ps) zero used n h some le = omega (arith, length-append (replicate p.count p.value) (expanded ps), length-replicate p.count p.value)
place_fits (p ∷ ps) (suc i) used n h some le = omega (arith, place_fits ps i used n (omega arith) some le, length-append (replicate p.count p.value) (expanded ps))

-- The walk passes the shorter of the two runs ahead. So a piece of at least one list ends.
pub places_onward : (a b : List Piece) (x y x' y' : PiecePlace) (n : ℕ) → ArePieces a → ArePieces b → IsPiecePlace a x → IsPiecePlace b y
    → n ≡ min (ahead_of a x).count (ahead_of b y).count → (x.at < length a) ⊎ (y.at < length b) → x.at ≤ x'.at → y.at ≤ y'.at
    → (x.at < length a → n ≡ (ahead_of a x).count → x'.at ≡ x.at + 1) → (y.at < length b → n ≡ (ahead_of b y).count → y'.at ≡ y.at + 1)
    → x.at + y.at < x'.at + y'.at
places_onward a b x y x' y' n are_a are_b in_a in_b shorter more stays_a stays_b ends_a ends_b = elim (cases_lt (ahead_of a x).count (ahead_of b y).count) [
  | inl less ↦ elim (cases_lt x.at (length a)) [
    | inl inside ↦ omega (arith, ends_a inside (omega (arith, shorter)))
    | inr over ↦ absurd (omega (arith, end_count a x over, at_most b y are_b in_b))
  ]
  | inr no_less ↦ elim (cases_lt y.at (length b)) [
    | inl inside ↦ omega (arith, ends_b inside (omega (arith, shorter)))
    | inr over ↦ elim more [
      | inl inside ↦ omega (arith, ends_a inside (omega (arith, shorter, end_count b y over, at_most a x are_a in_a)))
      | inr inside ↦ absurd (omega arith)
    ]
  ]
]
  where
    end_count : (ps : List Piece) (z : PiecePlace) → length ps ≤ z.at → (ahead_of ps z).count ≡ 2 ^ 64 - 1
    end_count ps z over = ap (λ (p : Piece). p.count) (first_remaining-end ps z.at z.used over)

    at_most : (ps : List Piece) (z : PiecePlace) → ArePieces ps → IsPiecePlace ps z → (ahead_of ps z).count ≤ 2 ^ 64 - 1
    at_most ps z are place = elim (cases_lt z.at (length ps)) [
      | inl inside ↦ omega (arith, are.fits, place_fits ps z.at z.used (ahead_of ps z).count inside place.inside (omega arith))
      | inr over ↦ omega (arith, end_count ps z over)
    ]
