-- The weights that a child gives to rows are built one run of equal weights after another.
use Rattle.std.proofs.Common.{◌≡◌, ℕ, zero, suc, ◌+◌, ◌-◌, ◌*◌, ◌^◌, ◌<◌, ◌≤◌, List, [], ◌∷◌, ◌++◌, length, get_or, map, take, drop, replicate, refl, ap, sym, ◌∙◌, sum, arith, zero-add, inl, inr, eqb, cond}
use Rattle.std.specs.List.{AllByRecursion, range_with_len}
use Rattle.std.proofs.Math.Nat.{mul-one, suc-mul, zero-mul}
use Rattle.std.proofs.Math.Seq.{drop-nil}
use Rattle.std.proofs.lemmas.Bool.{cases_lt, cond_both, eq-eqb, eqb-true}
use Rattle.std.proofs.lemmas.List.{take_all, length-map, map-append, get_or-drop}
use Rattle.std.proofs.lemmas.List.FromFn.{length-range_with_len}
use Rattle.degree_sequences.proofs.FallingLists.{trimmed_positive}
use Rattle.degree_sequences.proofs.FewRuns.{runs-any}
use Rattle.degree_sequences.proofs.RowWeights.{get_or-row_weights}
use Rattle.degree_sequences.proofs.RunningSums.{running_sum-suc, running_sum-trimmed, running_sum-le-sum, running_sum-past}
use Rattle.degree_sequences.proofs.SaturationLaws.{cons_unless_zero_at_end-pos}
use Rattle.degree_sequences.proofs.Spread.{spread, tail_of, get_or-tail_of, get_or-front, get_or-past, get_or-spread, length-spread, IsDescending-spread}
use Rattle.degree_sequences.specs.Composition.{ChildLists, row_weights, weight_by_rank}
use Rattle.degree_sequences.specs.Descending.{IsDescending, trimmed, cons_unless_zero_at_end}
use Rattle.degree_sequences.specs.Rank.{rank}
use Rattle.degree_sequences.specs.RunningSums.{running_sum}
use Rattle.degree_sequences.specs.Runs.{runs_after}
use Rattle.degree_sequences.specs.Saturation.{saturated}
use Rattle.piece_math.specs.declared.pieces.Piece.{Piece}
use Rattle.piece_math.specs.declared.walk.PiecePlaces.{PiecePlaces}
use Rattle.piece_math.specs.declared.walk.Stretch.{Stretch}
use Rattle.piece_math.specs.Expanded.{expanded, ArePieces, IsAppended}
use Rattle.piece_math.specs.PiecePlaces.{IsStretch}
use Rattle.piece_math.proofs.Building.{HasRun, run_built}
use Rattle.piece_math.proofs.Expansion.{IsDescending-expanded}
use Rattle.piece_math.proofs.RunningMinima.{running_sum-has_run}
use Rattle.piece_math.proofs.Walking.{Walked, at_left, at_right, walk_on, walk_start, rest_past_end}

-- ---- elements of trimmed lists

pub get_or-trimmed : (s : List ℕ) (r : ℕ) → get_or (trimmed s) r 0 ≡ get_or s r 0
get_or-trimmed s r = omega (arith, running_sum-suc s r, running_sum-suc (trimmed s) r, running_sum-trimmed s r, running_sum-trimmed s (suc r))

pub length-trimmed-le : (s : List ℕ) → length (trimmed s) ≤ length s
length-trimmed-le [] = omega arith
length-trimmed-le (x ∷ s) = omega (arith, onto_longer x (trimmed s), length-trimmed-le s)
  where
    onto_longer : (x : ℕ) (s : List ℕ) → length (cons_unless_zero_at_end x s) ≤ suc (length s)
    onto_longer zero [] = omega arith
    onto_longer zero (y ∷ s) = omega arith
    onto_longer (suc x) s = omega arith

-- ---- the rows from a rank on

drop-run_more : (x w m : ℕ) (s : List ℕ) → drop (x + m) (replicate x w ++ s) ≡ drop m s
drop-run_more zero w m s = ap (λ k. drop k s) (zero-add m)
drop-run_more (suc x) w m s = let e : suc x + m ≡ suc (x + m) = omega arith in rw e (drop-run_more x w m s)

drop-tail_of : (n : ℕ) (v : List ℕ) → drop n (tail_of v) ≡ drop (suc n) v
drop-tail_of n [] = drop-nil n
drop-tail_of n (y ∷ v) = refl

drop-spread : (n : ℕ) (g v : List ℕ) → drop (running_sum g n) (spread g v) ≡ spread (drop n g) (drop n v)
drop-spread zero g v = refl
drop-spread (suc n) [] v = refl
drop-spread (suc n) (x ∷ g) v =
    drop-run_more x (get_or v 0 0) (running_sum g n) (spread g (tail_of v))
    ∙ drop-spread n g (tail_of v)
    ∙ ap (spread (drop n g)) (drop-tail_of n v)

first_rows : (c x y : ℕ) (g v : List ℕ) → ((k : ℕ) → k < c → get_or g k 0 ≡ x) → ((k : ℕ) → k < c → get_or v k 0 ≡ y)
    → (k : ℕ) → k < c * x → get_or (spread g v) k 0 ≡ y
first_rows zero x y g v same_g same_v k h = absurd (omega (arith, zero-mul x))
first_rows (suc c) x y [] v same_g same_v k h = absurd (let e : x ≡ 0 = omega (arith, same_g 0 (omega arith)) in omega (arith, ap (λ z. suc c * z) e))
first_rows (suc c) x y (z ∷ g) v same_g same_v k h =
    let here : z ≡ x = same_g 0 (omega arith) in
    elim (cases_lt k z) [
      | inl first ↦ get_or-front z (get_or v 0 0) (spread g (tail_of v)) k first ∙ same_v 0 (omega arith)
      | inr later ↦ get_or-past z (get_or v 0 0) (spread g (tail_of v)) k later
          ∙ first_rows c x y g (tail_of v) (λ i j. same_g (suc i) (omega arith)) (λ i j. get_or-tail_of v i ∙ same_v (suc i) (omega arith))
          (k - z) (omega (arith, suc-mul c x))
    ]

pub IsDescending-trimmed : (s : List ℕ) → IsDescending s → IsDescending (trimmed s)
IsDescending-trimmed s fall r = omega (arith, fall r, get_or-trimmed s r, get_or-trimmed s (suc r))

-- ---- the row weights of one child

pub same_list : (s t : List ℕ) → length s ≡ length t → ((r : ℕ) → r < length s → get_or s r 0 ≡ get_or t r 0) → s ≡ t
same_list [] [] len same = refl
same_list [] (y ∷ t) len same = absurd (omega arith)
same_list (x ∷ s) [] len same = absurd (omega arith)
same_list (x ∷ s) (y ∷ t) len same = let e : x ≡ y = same 0 (omega arith) in rw (e, same_list s t (omega arith) (λ r h. same (suc r) (omega arith))) refl

pub length-row_weights : (cs : List ChildLists) (n : ℕ) → length (row_weights cs n) ≡ n
length-row_weights cs n = length-map (range_with_len 1 n) (weight_by_rank cs) ∙ length-range_with_len 1 n

pub spread-row_weights : (c : ChildLists) → spread c.column c.class ≡ row_weights (c ∷ []) (sum c.column)
spread-row_weights c = same_list (spread c.column c.class) (row_weights (c ∷ []) (sum c.column))
    (length-spread c.column c.class ∙ sym (length-row_weights (c ∷ []) (sum c.column)))
    (λ r h.
    let within : r < sum c.column = omega (arith, length-spread c.column c.class) in
    get_or-spread c.column c.class r within ∙ sym (mul-one (get_or c.class (rank c.column (suc r) - 1) 0)) ∙ sym (get_or-row_weights (c ∷ []) (sum c.column) r within))

-- ---- the row weights have at most as many runs as the class list

trimmed-zeros : (n : ℕ) (s : List ℕ) → trimmed s ≡ [] → trimmed (replicate n 0 ++ s) ≡ []
trimmed-zeros zero s h = h
trimmed-zeros (suc n) s h = rw (trimmed-zeros n s h) refl

trimmed-spread_nil : (g : List ℕ) → trimmed (spread g []) ≡ []
trimmed-spread_nil [] = refl
trimmed-spread_nil (x ∷ g) = trimmed-zeros x (spread g []) (trimmed-spread_nil g)

pub trimmed-front : (n h : ℕ) (s : List ℕ) → 0 < h → trimmed (replicate n h ++ s) ≡ replicate n h ++ trimmed s
trimmed-front zero h s pos = refl
trimmed-front (suc n) h s pos = ap (cons_unless_zero_at_end h) (trimmed-front n h s pos) ∙ cons_unless_zero_at_end-pos h (replicate n h ++ trimmed s) pos

runs_after-front-le : (b n h : ℕ) (s : List ℕ) → runs_after b (replicate (suc n) h ++ s) ≡ cond (eqb h b) 0 1 + runs_after h s
runs_after-front-le b zero h s = refl
runs_after-front-le b (suc n) h s =
    let ih : runs_after h (replicate (suc n) h ++ s) ≡ cond (eqb h h) 0 1 + runs_after h s = runs_after-front-le h n h s in
    let same : cond {A = ℕ} (eqb h h) 0 1 ≡ 0 = rw (eq-eqb h h refl) refl in
    omega (arith, ih, same)

pub runs_after-spread : (b : ℕ) (g v : List ℕ) → AllByRecursion (λ x. 0 < x) v → runs_after b (trimmed (spread g v)) ≤ runs_after b v
runs_after-spread b [] v pos = omega arith
runs_after-spread b (x ∷ g) [] pos = rw (trimmed-spread_nil (x ∷ g)) (omega arith)
runs_after-spread b (zero ∷ g) (h ∷ v) pos =
    cond_both (eqb h b) 0 1 (λ n. runs_after b (trimmed (spread g v)) ≤ n + runs_after h v)
    (λ e. let same : h ≡ b = eqb-true h b e in rw same (omega (arith, runs_after-spread b g v pos.1)))
    (λ e. omega (arith, runs_after-spread b g v pos.1, runs-any b h v))
runs_after-spread b (suc x ∷ g) (h ∷ v) pos =
    rw (trimmed-front (suc x) h (spread g v) pos.0, runs_after-front-le b x h (trimmed (spread g v))) (omega (arith, runs_after-spread h g v pos.1))

-- ---- elements of 128 bits, which saturation doesn't change

saturated_run : (n v : ℕ) → v < 2 ^ 128 → map saturated (replicate n v) ≡ replicate n v
saturated_run zero v fits = refl
saturated_run (suc n) v fits =
    let here : saturated v ≡ v = omega (arith, fits) in
    ap (λ (x : ℕ). x ∷ map saturated (replicate n v)) here ∙ ap (λ (s : List ℕ). v ∷ s) (saturated_run n v fits)

saturated_more : (list new : List ℕ) (v n : ℕ) → map saturated list ≡ list → IsAppended list new v n → map saturated new ≡ new
saturated_more list new v n small put = elim (cases_lt 0 v) as (λ x. map saturated new ≡ new) [
  | inl pos ↦ ap (map saturated) (put.some pos) ∙ map-append saturated list (replicate n v)
      ∙ ap (λ (s : List ℕ). s ++ map saturated (replicate n v)) small ∙ ap (λ (s : List ℕ). list ++ s) (saturated_run n v put.fits) ∙ sym (put.some pos)
  | inr none ↦ (let same : new ≡ list = put.zeros (omega arith) in ap (map saturated) same ∙ small ∙ sym same)
]

-- ---- the walk along the column's list and the class list

-- this is the state of the walk: the weights of the rows before the positions are built
pub record SpreadSoFar (a b : List Piece) (places : PiecePlaces) (list : List ℕ) : Type 0 where
  pub walked : Walked a b places
  pub built : list ≡ take (running_sum (expanded a) walked.rank) (trimmed (spread (expanded a) (expanded b)))
  pub fits : map saturated list ≡ list

pub spread_start : (a b : List Piece) → ArePieces a → ArePieces b → SpreadSoFar a b (record { left = record { at = 0; used = 0 }; right = record { at = 0; used = 0 } }) []
spread_start a b are_a are_b = record { walked = walk_start a b are_a are_b; built = refl; fits = refl }

module _ {a b : List Piece} (are_a : ArePieces a) (are_b : ArePieces b) {places : PiecePlaces} {list : List ℕ} (so_far : SpreadSoFar a b places list) where
  pub spread_falls : IsDescending (trimmed (spread (expanded a) (expanded b)))
  spread_falls = IsDescending-trimmed (spread (expanded a) (expanded b)) (IsDescending-spread (expanded a) (expanded b) (IsDescending-expanded b are_b.descends))

  pub spread_positive : AllByRecursion (λ x. 0 < x) (trimmed (spread (expanded a) (expanded b)))
  spread_positive = trimmed_positive (spread (expanded a) (expanded b)) (IsDescending-spread (expanded a) (expanded b) (IsDescending-expanded b are_b.descends))

  pub spread_short : length (trimmed (spread (expanded a) (expanded b))) ≤ sum (expanded a)
  spread_short = omega (arith, length-trimmed-le (spread (expanded a) (expanded b)), length-spread (expanded a) (expanded b))

  pub spread_end : length a ≤ places.left.at → list ≡ trimmed (spread (expanded a) (expanded b))
  spread_end over =
      so_far.built
      ∙ take_all (running_sum (expanded a) so_far.walked.rank) (trimmed (spread (expanded a) (expanded b)))
      (omega (arith, spread_short, running_sum-past (expanded a) so_far.walked.rank (rest_past_end a places.left so_far.walked.rank so_far.walked.left over)))

  module _ {stretch : Stretch} (t : IsStretch a b places stretch) where
    rises : running_sum (expanded a) (so_far.walked.rank + stretch.count) ≡ running_sum (expanded a) so_far.walked.rank + stretch.count * stretch.left
    rises = running_sum-has_run (expanded a) so_far.walked.rank stretch.count stretch.left (record { same = at_left t so_far.walked }) stretch.count (omega arith)

    pub rows_fit : stretch.left * stretch.count ≤ sum (expanded a)
    rows_fit = omega (arith, rises, running_sum-le-sum (expanded a) (so_far.walked.rank + stretch.count))

    pub spread_run : HasRun (trimmed (spread (expanded a) (expanded b))) (running_sum (expanded a) so_far.walked.rank) (stretch.left * stretch.count) stretch.right
    spread_run = record {
      same = λ k h.
          get_or-trimmed (spread (expanded a) (expanded b)) (running_sum (expanded a) so_far.walked.rank + k)
          ∙ sym (get_or-drop (running_sum (expanded a) so_far.walked.rank) (spread (expanded a) (expanded b)) k 0)
          ∙ ap (λ (s : List ℕ). get_or s k 0) (drop-spread so_far.walked.rank (expanded a) (expanded b))
          ∙ first_rows stretch.count stretch.left stretch.right (drop so_far.walked.rank (expanded a)) (drop so_far.walked.rank (expanded b))
          (λ i j. get_or-drop so_far.walked.rank (expanded a) i 0 ∙ at_left t so_far.walked i j)
          (λ i j. get_or-drop so_far.walked.rank (expanded b) i 0 ∙ at_right t so_far.walked i j)
          k (omega arith);
    }

    pub spread_step : {new : List ℕ} → IsAppended list new stretch.right (stretch.left * stretch.count) → SpreadSoFar a b stretch.next new
    spread_step {new} put = record {
      walked = walk_on t so_far.walked;
      built = run_built so_far.built spread_run spread_positive put
          ∙ ap (λ n. take n (trimmed (spread (expanded a) (expanded b)))) (omega (arith, rises));
      fits = saturated_more list new stretch.right (stretch.left * stretch.count) so_far.fits put;
    }
