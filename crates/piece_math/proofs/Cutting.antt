-- The code caps the running sums of a list at n, piece by piece. Elements stay while their sum is at most n. The next element is lowered to the
-- remainder, and no element follows.
use Rattle.std.proofs.Common.{◌≡◌, ℕ, zero, suc, ◌+◌, ◌-◌, ◌*◌, ◌/◌, ◌%◌, ◌^◌, ◌<◌, ◌≤◌, min, List, [], ◌∷◌, ◌++◌, length, get_or, take, drop, replicate, ap, sym, ◌∙◌, arith}
use Rattle.std.specs.List.{AllByRecursion}
use Rattle.std.proofs.Math.Nat.{mul-le-mul_right, div-mul-le_self}
use Rattle.std.proofs.lemmas.List.{get_or-drop, take_all, drop_more, drop_all, length-drop}
use Rattle.degree_sequences.proofs.Blocks.{drop-run}
use Rattle.degree_sequences.proofs.Minima.{running_sum-capped_at, IsDescending-capped_at}
use Rattle.degree_sequences.proofs.RunningSums.{running_sum-mono, running_sum-past}
use Rattle.degree_sequences.proofs.Spread.{get_or-front}
use Rattle.degree_sequences.specs.Descending.{IsDescending}
use Rattle.degree_sequences.specs.RunningSums.{running_sum, with_running_sums, capped_at}
use Rattle.degree_sequences.specs.Runs.{runs}
use Rattle.piece_math.specs.declared.pieces.Piece.{Piece}
use Rattle.piece_math.specs.Expanded.{expanded, AreRuns, ArePieces, IsAppended}
use Rattle.piece_math.proofs.Building.{HasRun, run_built, ends_at_zero}
use Rattle.piece_math.proofs.Expansion.{IsDescending-expanded}
use Rattle.piece_math.proofs.PiecePlaces.{drop-drop}
use Rattle.piece_math.proofs.RunningMinima.{element_from_sums, running_sum-has_run, positive-falling_trimmed}

-- ---- the rank at which piece i begins

pub record PieceBeginsAt (ps : List Piece) (i rank : ℕ) : Type 0 where
  pub rest : drop rank (expanded ps) ≡ expanded (drop i ps)

expanded-drop : (ps : List Piece) (i : ℕ) (d : Piece) → i < length ps → expanded (drop i ps) ≡ replicate (get_or ps i d).count (get_or ps i d).value ++ expanded (drop (i + 1) ps)
expanded-drop ps i d h = ap expanded (drop_more ps i d h)

pub piece_run : (ps : List Piece) (i rank : ℕ) (d : Piece) → i < length ps → PieceBeginsAt ps i rank → HasRun (expanded ps) rank (get_or ps i d).count (get_or ps i d).value
piece_run ps i rank d h before = record {
  same = λ k j. sym (get_or-drop rank (expanded ps) k 0)
      ∙ ap (λ (s : List ℕ). get_or s k 0) (before.rest ∙ expanded-drop ps i d h)
      ∙ get_or-front (get_or ps i d).count (get_or ps i d).value (expanded (drop (i + 1) ps)) k j;
}

pub piece_passed : (ps : List Piece) (i rank : ℕ) (d : Piece) → i < length ps → PieceBeginsAt ps i rank → PieceBeginsAt ps (i + 1) (rank + (get_or ps i d).count)
piece_passed ps i rank d h before = record {
  rest = sym (drop-drop rank (get_or ps i d).count (expanded ps))
      ∙ ap (drop (get_or ps i d).count) (before.rest ∙ expanded-drop ps i d h)
      ∙ drop-run (get_or ps i d).count (get_or ps i d).value (expanded (drop (i + 1) ps));
}

-- ---- the capped list

pub positive-capped_at : (s : List ℕ) (n : ℕ) → IsDescending s → AllByRecursion (λ y. 0 < y) (capped_at s n)
positive-capped_at s n fall = positive-falling_trimmed (with_running_sums (λ r. min (running_sum s r) n) (length s)) (IsDescending-capped_at s n fall)

pub cut_no_longer : (s : List ℕ) (n r : ℕ) → IsDescending s → length s ≤ r → length (capped_at s n) ≤ r
cut_no_longer s n r fall over =
    ends_at_zero (capped_at s n) (positive-capped_at s n fall) r
    (element_from_sums (capped_at s n) r 0
    (omega (arith, running_sum-capped_at s n r, running_sum-capped_at s n (r + 1), running_sum-past s r over, running_sum-past s (r + 1) (omega arith))))

-- this is the state of the loop: the capped list is built up to piece i, and `left` is what remains of n
pub record CutSoFar (ps : List Piece) (n i left : ℕ) (list : List ℕ) : Type 0 where
  pub rank : ℕ
  pub before : PieceBeginsAt ps i rank
  pub built : list ≡ take rank (capped_at (expanded ps) n)
  pub left_over : left + running_sum (expanded ps) rank ≡ n
  pub few : runs list ≤ i

module _ {ps : List Piece} (are_pieces : ArePieces ps) {n i left : ℕ} {list : List ℕ} (so_far : CutSoFar ps n i left list) where
  pub cut_falls : IsDescending (capped_at (expanded ps) n)
  cut_falls = IsDescending-capped_at (expanded ps) n (IsDescending-expanded ps are_pieces.descends)

  pub cut_positive : AllByRecursion (λ y. 0 < y) (capped_at (expanded ps) n)
  cut_positive = positive-capped_at (expanded ps) n (IsDescending-expanded ps are_pieces.descends)

  pub cut_fits : length (capped_at (expanded ps) n) < 2 ^ 64
  cut_fits = omega (arith, are_pieces.fits, cut_no_longer (expanded ps) n (length (expanded ps)) (IsDescending-expanded ps are_pieces.descends) (omega arith))

  pub cut_end : length ps ≤ i → list ≡ capped_at (expanded ps) n
  cut_end over =
      let nothing : drop so_far.rank (expanded ps) ≡ [] = so_far.before.rest ∙ ap expanded (drop_all i ps over) in
      so_far.built
      ∙ take_all so_far.rank (capped_at (expanded ps) n)
      (cut_no_longer (expanded ps) n so_far.rank (IsDescending-expanded ps are_pieces.descends) (omega (arith, ap length nothing, length-drop so_far.rank (expanded ps))))

  module _ (d : Piece) (piece_exists : i < length ps) where
    cut_sums : (k : ℕ) → k ≤ (get_or ps i d).count → running_sum (capped_at (expanded ps) n) (so_far.rank + k) ≡ min (running_sum (expanded ps) so_far.rank + k * (get_or ps i d).value) n
    cut_sums k h =
        omega (
          arith,
          running_sum-capped_at (expanded ps) n (so_far.rank + k),
          running_sum-has_run (expanded ps) so_far.rank (get_or ps i d).count (get_or ps i d).value (piece_run ps i so_far.rank d piece_exists so_far.before) k h,
        )

    pub kept_run : (c : ℕ) → c ≤ (get_or ps i d).count → c * (get_or ps i d).value ≤ left → HasRun (capped_at (expanded ps) n) so_far.rank c (get_or ps i d).value
    kept_run c within_piece below = record {
      same = λ k h. element_from_sums (capped_at (expanded ps) n) (so_far.rank + k) (get_or ps i d).value
          (let e : so_far.rank + k + 1 ≡ so_far.rank + (k + 1) = omega arith in
          let le : (k + 1) * (get_or ps i d).value ≤ c * (get_or ps i d).value = mul-le-mul_right (get_or ps i d).value (omega arith) in
          omega (arith, ap (running_sum (capped_at (expanded ps) n)) e, cut_sums k (omega arith), cut_sums (k + 1) (omega arith), so_far.left_over, le, below));
    }

    pub cut_run : (q rest : ℕ) → q < (get_or ps i d).count → left ≡ q * (get_or ps i d).value + rest → rest < (get_or ps i d).value
        → HasRun (capped_at (expanded ps) n) (so_far.rank + q) 1 rest
    cut_run q rest within_piece split less = record {
      same = λ k h. element_from_sums (capped_at (expanded ps) n) (so_far.rank + q + k) rest
          (let here : so_far.rank + q + k ≡ so_far.rank + q = omega arith in
          let there : so_far.rank + q + k + 1 ≡ so_far.rank + (q + 1) = omega arith in
          omega (
            arith,
            ap (running_sum (capped_at (expanded ps) n)) here,
            ap (running_sum (capped_at (expanded ps) n)) there,
            cut_sums q (omega arith),
            cut_sums (q + 1) (omega arith),
            so_far.left_over,
            split,
            less,
          ));
    }

    cut_over : (q rest : ℕ) → q < (get_or ps i d).count → left ≡ q * (get_or ps i d).value + rest → rest < (get_or ps i d).value → length (capped_at (expanded ps) n) ≤ so_far.rank + q + 1
    cut_over q rest within_piece split less =
        let here : so_far.rank + q + 1 ≡ so_far.rank + (q + 1) = omega arith in
        ends_at_zero (capped_at (expanded ps) n) cut_positive (so_far.rank + q + 1)
        (element_from_sums (capped_at (expanded ps) n) (so_far.rank + q + 1) 0
        (omega (
          arith,
          running_sum-capped_at (expanded ps) n (so_far.rank + q + 1),
          running_sum-capped_at (expanded ps) n (so_far.rank + q + 1 + 1),
          running_sum-mono (expanded ps) (so_far.rank + q + 1) (so_far.rank + q + 1 + 1) (omega arith),
          ap (running_sum (capped_at (expanded ps) n)) here,
          cut_sums (q + 1) (omega arith),
          so_far.left_over,
          split,
          less,
        )))

    pub built_kept : {one : List ℕ} (c : ℕ) → c ≤ (get_or ps i d).count → c * (get_or ps i d).value ≤ left → IsAppended list one (get_or ps i d).value c
        → one ≡ take (so_far.rank + c) (capped_at (expanded ps) n)
    built_kept c within_piece below put = run_built so_far.built (kept_run c within_piece below) cut_positive put

    pub cut_step : {new : List ℕ} → (get_or ps i d).count * (get_or ps i d).value ≤ left → IsAppended list new (get_or ps i d).value (get_or ps i d).count
        → CutSoFar ps n (i + 1) (left - (get_or ps i d).value * (get_or ps i d).count) new
    cut_step below put = record {
      rank = so_far.rank + (get_or ps i d).count;
      before = piece_passed ps i so_far.rank d piece_exists so_far.before;
      built = built_kept (get_or ps i d).count (omega arith) below put;
      left_over = omega (
        arith,
        below,
        so_far.left_over,
        running_sum-has_run (expanded ps) so_far.rank (get_or ps i d).count (get_or ps i d).value (piece_run ps i so_far.rank d piece_exists so_far.before) (get_or ps i d).count (omega arith),
      );
      few = omega (arith, put.few, so_far.few);
    }

    pub cut_done : {one two : List ℕ} (q rest : ℕ) → q < (get_or ps i d).count → left ≡ q * (get_or ps i d).value + rest → rest < (get_or ps i d).value
        → IsAppended list one (get_or ps i d).value q → IsAppended one two rest 1 → two ≡ capped_at (expanded ps) n
    cut_done q rest within_piece split less put1 put2 =
        run_built (built_kept q (omega arith) (omega arith) put1) (cut_run q rest within_piece split less) cut_positive put2
        ∙ take_all (so_far.rank + q + 1) (capped_at (expanded ps) n) (cut_over q rest within_piece split less)

-- ---- what remains of n, divided by a value

pub value_positive : (ps : List Piece) (i : ℕ) (d : Piece) → ArePieces ps → i < length ps → 0 < (get_or ps i d).value
value_positive ps i d are h = go ps i are.descends h
  where
    go : (ps : List Piece) (i : ℕ) → AreRuns ps → i < length ps → 0 < (get_or ps i d).value
    go [] i fall h = absurd (omega arith)
    go (p ∷ ps) zero fall h = omega (arith, fall.0)
    go (p ∷ ps) (suc i) fall h = go ps i fall.2 (omega arith)

pub quotient_times_divisor : (left v c : ℕ) → c ≤ left / v → c * v ≤ left
quotient_times_divisor left v c h = omega (arith, mul-le-mul_right v h, div-mul-le_self left v)

pub quotient_and_remainder : (left v : ℕ) → 0 < v → left ≡ left / v * v + left % v
quotient_and_remainder left v pos = omega arith
