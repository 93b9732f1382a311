-- The walk that builds the lesser of two lists, which is defined by its running sums.
use Rattle.std.proofs.Common.{◌≡◌, ℕ, zero, suc, ◌+◌, ◌*◌, ◌^◌, ◌<◌, ◌≤◌, min, max, List, [], ◌∷◌, length, get_or, take, refl, ap, sym, ◌∙◌, subst, sum, arith, add-zero}
use Rattle.std.specs.List.{AllByRecursion}
use Rattle.std.proofs.lemmas.List.{take_all}
use Rattle.degree_sequences.specs.Descending.{IsDescending, trimmed, cons_unless_zero_at_end}
use Rattle.degree_sequences.specs.RunningSums.{running_sum, with_running_sums, lesser}
use Rattle.degree_sequences.specs.Runs.{runs}
use Rattle.degree_sequences.proofs.RunningSums.{running_sum-suc, running_sum-past, running_sum-le-sum}
use Rattle.degree_sequences.proofs.Minima.{running_sum-lesser, IsDescending-lesser}
use Rattle.piece_math.specs.declared.pieces.Piece.{Piece}
use Rattle.piece_math.specs.declared.walk.PiecePlaces.{PiecePlaces}
use Rattle.piece_math.specs.declared.walk.Stretch.{Stretch}
use Rattle.piece_math.specs.declared.minima.Bend.{Bend}
use Rattle.piece_math.specs.Expanded.{expanded, ArePieces, IsAppended}
use Rattle.piece_math.specs.PiecePlaces.{IsStretch}
use Rattle.piece_math.specs.Lines.{lower_at, IsBend}
use Rattle.piece_math.proofs.Expansion.{IsDescending-expanded}
use Rattle.piece_math.proofs.Building.{HasRun, run_built, ends_at_zero}
use Rattle.piece_math.proofs.Walking.{Walked, at_left, at_right, walk_on, walk_start, rest_past_end}

pub element_from_sums : (s : List ℕ) (r v : ℕ) → running_sum s (r + 1) ≡ running_sum s r + v → get_or s r 0 ≡ v
element_from_sums s r v h = let e : r + 1 ≡ suc r = omega arith in omega (arith, running_sum-suc s r, ap (running_sum s) e, h)

pub running_sum-has_run : (s : List ℕ) (n c x : ℕ) → HasRun s n c x → (k : ℕ) → k ≤ c → running_sum s (n + k) ≡ running_sum s n + k * x
running_sum-has_run s n c x run zero h = omega (arith, ap (running_sum s) (add-zero n))
running_sum-has_run s n c x run (suc k) h =
    let e : n + suc k ≡ suc (n + k) = omega arith in
    omega (arith, ap (running_sum s) e, running_sum-suc s (n + k), run.same k (omega arith), running_sum-has_run s n c x run k (omega arith))

tail_descends : (x : ℕ) (s : List ℕ) → IsDescending (cons_unless_zero_at_end x s) → IsDescending s
tail_descends zero [] fall = λ r. omega arith
tail_descends zero (y ∷ s) fall = λ r. fall (suc r)
tail_descends (suc x) s fall = λ r. fall (suc r)

cons_is_positive : (x : ℕ) (s : List ℕ) → IsDescending (cons_unless_zero_at_end x s) → AllByRecursion (λ y. 0 < y) s → AllByRecursion (λ y. 0 < y) (cons_unless_zero_at_end x s)
cons_is_positive zero [] fall all = tt
cons_is_positive zero (y ∷ s) fall all = absurd (omega (arith, fall 0, all.0))
cons_is_positive (suc x) s fall all = (omega arith, all)

pub positive-falling_trimmed : (s : List ℕ) → IsDescending (trimmed s) → AllByRecursion (λ y. 0 < y) (trimmed s)
positive-falling_trimmed [] fall = tt
positive-falling_trimmed (x ∷ s) fall = cons_is_positive x (trimmed s) fall (positive-falling_trimmed s (tail_descends x (trimmed s) fall))

-- ---- the lesser of two lists

positive-lesser : (s t : List ℕ) → IsDescending s → IsDescending t → AllByRecursion (λ y. 0 < y) (lesser s t)
positive-lesser s t fs ft =
    positive-falling_trimmed (with_running_sums (λ r. min (running_sum s r) (running_sum t r)) (max (length s) (length t))) (IsDescending-lesser s t fs ft)

lesser_ends : (s t : List ℕ) (r : ℕ) → length s ≤ r → length t ≤ r → IsDescending s → IsDescending t → length (lesser s t) ≤ r
lesser_ends s t r over_s over_t fs ft =
    ends_at_zero (lesser s t) (positive-lesser s t fs ft) r
    (element_from_sums (lesser s t) r 0
    (omega (
      arith,
      running_sum-lesser s t r,
      running_sum-lesser s t (r + 1),
      running_sum-past s r over_s,
      running_sum-past s (r + 1) (omega arith),
      running_sum-past t r over_t,
      running_sum-past t (r + 1) (omega arith),
    )))

-- This is the state of the walk. `list` is built up to the positions; `left_sum` and `right_sum` are the two running sums there
pub record LesserSoFar (a b : List Piece) (places : PiecePlaces) (list : List ℕ) (left_sum right_sum : ℕ) : Type 0 where
  pub walked : Walked a b places
  pub left : left_sum ≡ running_sum (expanded a) walked.rank
  pub right : right_sum ≡ running_sum (expanded b) walked.rank
  pub built : list ≡ take walked.rank (lesser (expanded a) (expanded b))
  pub few : runs list ≤ 3 * (places.left.at + places.right.at)

pub lesser_start : (a b : List Piece) → ArePieces a → ArePieces b
    → LesserSoFar a b (record { left = record { at = 0; used = 0 }; right = record { at = 0; used = 0 } }) [] 0 0
lesser_start a b are_a are_b = record { walked = walk_start a b are_a are_b; left = refl; right = refl; built = refl; few = omega arith }

module _ {a b : List Piece} (are_a : ArePieces a) (are_b : ArePieces b) where
  falls_a : IsDescending (expanded a)
  falls_a = IsDescending-expanded a are_a.descends

  falls_b : IsDescending (expanded b)
  falls_b = IsDescending-expanded b are_b.descends

  pub lesser_fits : length (lesser (expanded a) (expanded b)) < 2 ^ 64
  lesser_fits =
      let n : ℕ = max (length (expanded a)) (length (expanded b)) in
      omega (arith, are_a.fits, are_b.fits, lesser_ends (expanded a) (expanded b) n (omega arith) (omega arith) falls_a falls_b)

  pub lesser_falls : IsDescending (lesser (expanded a) (expanded b))
  lesser_falls = IsDescending-lesser (expanded a) (expanded b) falls_a falls_b

  pub lesser_positive : AllByRecursion (λ y. 0 < y) (lesser (expanded a) (expanded b))
  lesser_positive = positive-lesser (expanded a) (expanded b) falls_a falls_b

  pub lesser_end : (places : PiecePlaces) (list : List ℕ) (left_sum right_sum : ℕ) → LesserSoFar a b places list left_sum right_sum → length a ≤ places.left.at → length b ≤ places.right.at
      → list ≡ lesser (expanded a) (expanded b)
  lesser_end places list left_sum right_sum so_far over_a over_b =
      so_far.built
      ∙ take_all so_far.walked.rank (lesser (expanded a) (expanded b))
      (lesser_ends (expanded a) (expanded b) so_far.walked.rank
      (rest_past_end a places.left so_far.walked.rank so_far.walked.left over_a)
      (rest_past_end b places.right so_far.walked.rank so_far.walked.right over_b) falls_a falls_b)

  module _ {places : PiecePlaces} {list : List ℕ} {left_sum right_sum : ℕ} {stretch : Stretch} (so_far : LesserSoFar a b places list left_sum right_sum) (t : IsStretch a b places stretch) where
    pub left_sum_rises : (k : ℕ) → k ≤ stretch.count → running_sum (expanded a) (so_far.walked.rank + k) ≡ left_sum + k * stretch.left
    left_sum_rises k h = omega (arith, so_far.left, running_sum-has_run (expanded a) so_far.walked.rank stretch.count stretch.left (record { same = at_left t so_far.walked }) k h)

    pub right_sum_rises : (k : ℕ) → k ≤ stretch.count → running_sum (expanded b) (so_far.walked.rank + k) ≡ right_sum + k * stretch.right
    right_sum_rises k h = omega (arith, so_far.right, running_sum-has_run (expanded b) so_far.walked.rank stretch.count stretch.right (record { same = at_right t so_far.walked }) k h)

    -- Along a stretch the running sums of both lists are lines. Those of `lesser` are the lower line.
    lesser_sum_rises : (k : ℕ) → k ≤ stretch.count
        → running_sum (lesser (expanded a) (expanded b)) (so_far.walked.rank + k) ≡ lower_at (record { sum = left_sum; step = stretch.left }) (record { sum = right_sum; step = stretch.right }) k
    lesser_sum_rises k h = omega (arith, running_sum-lesser (expanded a) (expanded b) (so_far.walked.rank + k), left_sum_rises k h, right_sum_rises k h)

    pub left_fits : left_sum + stretch.left * stretch.count ≤ sum (expanded a)
    left_fits = omega (arith, left_sum_rises stretch.count (omega arith), running_sum-le-sum (expanded a) (so_far.walked.rank + stretch.count))

    pub right_fits : right_sum + stretch.right * stretch.count ≤ sum (expanded b)
    right_fits = omega (arith, right_sum_rises stretch.count (omega arith), running_sum-le-sum (expanded b) (so_far.walked.rank + stretch.count))

    lower_run : (o n v : ℕ) → o + n ≤ stretch.count
        → ((k : ℕ) → k < n → lower_at (record { sum = left_sum; step = stretch.left }) (record { sum = right_sum; step = stretch.right }) (o + k + 1)
        ≡ lower_at (record { sum = left_sum; step = stretch.left }) (record { sum = right_sum; step = stretch.right }) (o + k) + v)
        → HasRun (lesser (expanded a) (expanded b)) (so_far.walked.rank + o) n v
    lower_run o n v within rises = record {
      same = λ k h. element_from_sums (lesser (expanded a) (expanded b)) (so_far.walked.rank + o + k) v
          (let here : so_far.walked.rank + o + k ≡ so_far.walked.rank + (o + k) = omega arith in
          let there : so_far.walked.rank + o + k + 1 ≡ so_far.walked.rank + (o + k + 1) = omega arith in
          ap (running_sum (lesser (expanded a) (expanded b))) there ∙ lesser_sum_rises (o + k + 1) (omega arith) ∙ rises k h
          ∙ ap (λ n. n + v) (sym (lesser_sum_rises (o + k) (omega arith)) ∙ ap (running_sum (lesser (expanded a) (expanded b))) (sym here)));
    }

    module _ {bend : Bend} (bent : IsBend (record { sum = left_sum; step = stretch.left }) (record { sum = right_sum; step = stretch.right }) stretch.count bend) where
      pub before_run : HasRun (lesser (expanded a) (expanded b)) so_far.walked.rank bend.before.count bend.before.value
      before_run =
          subst (λ n. HasRun (lesser (expanded a) (expanded b)) n bend.before.count bend.before.value) (add-zero so_far.walked.rank)
          (lower_run 0 bend.before.count bend.before.value (omega (arith, bent.counts)) (λ k h. omega (arith, bent.before k h)))

      pub between_run : HasRun (lesser (expanded a) (expanded b)) (so_far.walked.rank + bend.before.count) bend.between.count bend.between.value
      between_run = lower_run bend.before.count bend.between.count bend.between.value (omega (arith, bent.counts)) (λ k h. bent.between k h)

      pub after_run : HasRun (lesser (expanded a) (expanded b)) (so_far.walked.rank + bend.before.count + bend.between.count) bend.after.count bend.after.value
      after_run =
          let e : so_far.walked.rank + (bend.before.count + bend.between.count) ≡ so_far.walked.rank + bend.before.count + bend.between.count = omega arith in
          subst (λ n. HasRun (lesser (expanded a) (expanded b)) n bend.after.count bend.after.value) e
          (lower_run (bend.before.count + bend.between.count) bend.after.count bend.after.value (omega (arith, bent.counts)) (λ k h. bent.after k h))

      pub built_before : {one : List ℕ} → IsAppended list one bend.before.value bend.before.count → one ≡ take (so_far.walked.rank + bend.before.count) (lesser (expanded a) (expanded b))
      built_before put = run_built so_far.built before_run lesser_positive put

      pub built_between : {one two : List ℕ} → IsAppended list one bend.before.value bend.before.count → IsAppended one two bend.between.value bend.between.count
          → two ≡ take (so_far.walked.rank + bend.before.count + bend.between.count) (lesser (expanded a) (expanded b))
      built_between put1 put2 = run_built (built_before put1) between_run lesser_positive put2

      pub lesser_step : {one two new : List ℕ} → IsAppended list one bend.before.value bend.before.count → IsAppended one two bend.between.value bend.between.count
          → IsAppended two new bend.after.value bend.after.count
          → LesserSoFar a b stretch.next new (left_sum + stretch.left * stretch.count) (right_sum + stretch.right * stretch.count)
      lesser_step put1 put2 put3 = record {
        walked = walk_on t so_far.walked;
        left = omega (arith, left_sum_rises stretch.count (omega arith));
        right = omega (arith, right_sum_rises stretch.count (omega arith));
        built = run_built (built_between put1 put2) after_run lesser_positive put3
            ∙ ap (λ n. take n (lesser (expanded a) (expanded b))) (omega (arith, bent.counts));
        few = omega (arith, put1.few, put2.few, put3.few, so_far.few, t.onward);
      }
