-- The walk along two lists that combines them rank by rank.
use Rattle.std.proofs.Common.{◌≡◌, ℕ, ◌+◌, ◌^◌, ◌<◌, ◌≤◌, max, List, [], ◌∷◌, length, get_or, map, take, refl, ap, sym, ◌∙◌, arith}
use Rattle.std.specs.List.{AllByRecursion, All}
use Rattle.std.proofs.Math.Nat.{mul-pos}
use Rattle.std.proofs.lemmas.List.{length-map, take_all}
use Rattle.degree_sequences.proofs.ByRank.{get_or-rank_product, get_or-rank_maximum, IsDescending-rank_product, IsDescending-rank_sum, IsDescending-rank_maximum, get_or-rank_sum}
use Rattle.degree_sequences.specs.Descending.{IsDescending}
use Rattle.degree_sequences.specs.Saturation.{saturated}
use Rattle.degree_sequences.specs.ByRank.{rank_product}
use Rattle.degree_sequences.specs.Runs.{runs}
use Rattle.piece_math.specs.declared.pieces.Piece.{Piece}
use Rattle.piece_math.specs.declared.walk.PiecePlaces.{PiecePlaces}
use Rattle.piece_math.specs.declared.walk.Stretch.{Stretch}
use Rattle.piece_math.specs.declared.by_rank.Combination.{Combination}
use Rattle.piece_math.specs.declared.by_rank.Combination.TheVariants.{Product, Sum, Maximum}
use Rattle.piece_math.specs.Expanded.{expanded, ArePieces, IsAppended}
use Rattle.piece_math.specs.PiecePlaces.{IsStretch}
use Rattle.piece_math.specs.ByRank.{combined, combined_by_rank}
use Rattle.piece_math.proofs.Expansion.{IsDescending-expanded, positive-expanded}
use Rattle.piece_math.proofs.Building.{HasRun, run_falls, run_fits, run_built, get_or-saturated, IsDescending-saturated, positive-saturated}
use Rattle.piece_math.proofs.Walking.{Walked, at_left, at_right, walk_on, walk_start, rest_past_end}

pub get_or-combined : (how : Combination) (s t : List ℕ) (r : ℕ) → get_or (combined_by_rank how s t) r 0 ≡ combined how (get_or s r 0) (get_or t r 0)
get_or-combined Product s t r = get_or-rank_product s t r
get_or-combined Sum s t r = get_or-rank_sum s t r
get_or-combined Maximum s t r = get_or-rank_maximum s t r

IsDescending-combined : (how : Combination) (s t : List ℕ) → IsDescending s → IsDescending t → IsDescending (combined_by_rank how s t)
IsDescending-combined Product s t fs ft = IsDescending-rank_product s t fs ft
IsDescending-combined Sum s t fs ft = IsDescending-rank_sum s t fs ft
IsDescending-combined Maximum s t fs ft = IsDescending-rank_maximum s t fs ft

pub positive-rank_product : (s t : List ℕ) → AllByRecursion (λ x. 0 < x) s → AllByRecursion (λ x. 0 < x) t → AllByRecursion (λ x. 0 < x) (rank_product s t)
positive-rank_product [] t ps pt = tt
positive-rank_product (x ∷ s) [] ps pt = tt
positive-rank_product (x ∷ s) (y ∷ t) ps pt = (mul-pos ps.0 pt.0, positive-rank_product s t ps.1 pt.1)

positive-combined : (how : Combination) (s t : List ℕ) → AllByRecursion (λ x. 0 < x) s → AllByRecursion (λ x. 0 < x) t → AllByRecursion (λ x. 0 < x) (combined_by_rank how s t)
positive-combined Product s t ps pt = positive-rank_product s t ps pt
positive-combined Sum [] t ps pt = pt
positive-combined Sum (x ∷ s) [] ps pt = ps
positive-combined Sum (x ∷ s) (y ∷ t) ps pt = (omega (arith, ps.0), positive-combined Sum s t ps.1 pt.1)
positive-combined Maximum [] t ps pt = pt
positive-combined Maximum (x ∷ s) [] ps pt = ps
positive-combined Maximum (x ∷ s) (y ∷ t) ps pt = (omega (arith, ps.0), positive-combined Maximum s t ps.1 pt.1)

length-combined-le : (how : Combination) (s t : List ℕ) → length (combined_by_rank how s t) ≤ max (length s) (length t)
length-combined-le Product [] t = omega arith
length-combined-le Product (x ∷ s) [] = omega arith
length-combined-le Product (x ∷ s) (y ∷ t) = omega (arith, length-combined-le Product s t)
length-combined-le Sum [] t = omega arith
length-combined-le Sum (x ∷ s) [] = omega arith
length-combined-le Sum (x ∷ s) (y ∷ t) = omega (arith, length-combined-le Sum s t)
length-combined-le Maximum [] t = omega arith
length-combined-le Maximum (x ∷ s) [] = omega arith
length-combined-le Maximum (x ∷ s) (y ∷ t) = omega (arith, length-combined-le Maximum s t)

-- ---- the list that the walk builds

-- the walk builds the combined list, in which a number above 2 ^ 128 - 1 becomes 2 ^ 128 - 1
abbrev pub goal_of : Combination → List Piece → List Piece → List ℕ
goal_of how a b = map saturated (combined_by_rank how (expanded a) (expanded b))

-- this is the state of the walk: the list is built up to the rank of the positions
pub record CombinedSoFar (how : Combination) (a b : List Piece) (places : PiecePlaces) (list : List ℕ) : Type 0 where
  pub walked : Walked a b places
  pub built : list ≡ take walked.rank (goal_of how a b)
  pub few : runs list ≤ places.left.at + places.right.at

pub goal_falls : (how : Combination) (a b : List Piece) → ArePieces a → ArePieces b → IsDescending (goal_of how a b)
goal_falls how a b are_a are_b =
    IsDescending-saturated (combined_by_rank how (expanded a) (expanded b))
    (IsDescending-combined how (expanded a) (expanded b) (IsDescending-expanded a are_a.descends) (IsDescending-expanded b are_b.descends))

pub goal_positive : (how : Combination) (a b : List Piece) → ArePieces a → ArePieces b → AllByRecursion (λ x. 0 < x) (goal_of how a b)
goal_positive how a b are_a are_b =
    positive-saturated (combined_by_rank how (expanded a) (expanded b))
    (positive-combined how (expanded a) (expanded b) (positive-expanded a are_a.descends) (positive-expanded b are_b.descends))

pub goal_length : (how : Combination) (a b : List Piece) → length (goal_of how a b) ≤ max (length (expanded a)) (length (expanded b))
goal_length how a b = omega (arith, length-map (combined_by_rank how (expanded a) (expanded b)) saturated, length-combined-le how (expanded a) (expanded b))

pub goal_run : (how : Combination) (a b : List Piece) (places : PiecePlaces) (stretch : Stretch) (v : ℕ) → (t : IsStretch a b places stretch) (w : Walked a b places)
    → v ≡ saturated (combined how stretch.left stretch.right) → HasRun (goal_of how a b) w.rank stretch.count v
goal_run how a b places stretch v t w is = record {
  same = λ k h. get_or-saturated (combined_by_rank how (expanded a) (expanded b)) (w.rank + k)
      ∙ ap saturated (get_or-combined how (expanded a) (expanded b) (w.rank + k) ∙ rw (at_left t w k h, at_right t w k h) refl)
      ∙ sym is;
}

pub combine_start : (how : Combination) (a b : List Piece) → ArePieces a → ArePieces b
    → CombinedSoFar how a b (record { left = record { at = 0; used = 0 }; right = record { at = 0; used = 0 } }) []
combine_start how a b are_a are_b = record { walked = walk_start a b are_a are_b; built = refl; few = omega arith }

module _ {how : Combination} {a b : List Piece} {places : PiecePlaces} {stretch : Stretch} {list : List ℕ} {v : ℕ} (are_a : ArePieces a) (are_b : ArePieces b)
    (so_far : CombinedSoFar how a b places list) (t : IsStretch a b places stretch) (value : v ≡ saturated (combined how stretch.left stretch.right)) where
  pub combine_falls : 0 < stretch.count → All (λ x. v ≤ x) list
  combine_falls some = run_falls so_far.built (goal_run how a b places stretch v t so_far.walked value) (goal_falls how a b are_a are_b) some

  pub combine_fits : 0 < v → length list + stretch.count < 2 ^ 64
  combine_fits pos = omega (arith, run_fits so_far.built (goal_run how a b places stretch v t so_far.walked value) pos, goal_length how a b, are_a.fits, are_b.fits)

  pub combine_step : {new : List ℕ} → IsAppended list new v stretch.count → CombinedSoFar how a b stretch.next new
  combine_step put = record {
    walked = walk_on t so_far.walked;
    built = run_built so_far.built (goal_run how a b places stretch v t so_far.walked value) (goal_positive how a b are_a are_b) put;
    few = omega (arith, put.few, so_far.few, t.onward);
  }

pub combine_end : (how : Combination) (a b : List Piece) (places : PiecePlaces) (list : List ℕ) → CombinedSoFar how a b places list → length a ≤ places.left.at → length b ≤ places.right.at
    → list ≡ goal_of how a b
combine_end how a b places list so_far over_a over_b =
    so_far.built
    ∙ take_all so_far.walked.rank (goal_of how a b)
    (omega (
      arith,
      goal_length how a b,
      rest_past_end a places.left so_far.walked.rank so_far.walked.left over_a,
      rest_past_end b places.right so_far.walked.rank so_far.walked.right over_b,
    ))
