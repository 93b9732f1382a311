-- A compressed list is in descending order and has the same sum as the list. Its running sums are at least those of the list, and its elements are
-- at most a little above those of the list.
use Rattle.std.proofs.Common.{List, [], ap, arith, get_or, inl, inr, length, ltb, min, suc, sum, sym, zero, zero-add, ℕ, ◌*◌, ◌+◌, ◌-◌, ◌<◌, ◌∷◌, ◌≡◌, ◌≤◌}
use Rattle.std.proofs.Math.Nat.{mul-le-mul_left, mul-zero}
use Rattle.std.proofs.lemmas.Bool.{cases_lt, cond_both, ltb-false, ltb-true}
use Rattle.degree_sequences.proofs.DegreeLists.{IsDescending-degree_list, degree_list_dominates}
use Rattle.degree_sequences.proofs.FallingLists.{IsDescending-cons, descends_to}
use Rattle.degree_sequences.proofs.Heads.{heads-above, heads-fall, heads-near}
use Rattle.degree_sequences.proofs.Ranks.{rank_least, rank_mono, rank_reaches}
use Rattle.degree_sequences.proofs.RunningSums.{running_sum-le-sum, running_sum-mono, running_sum-past, running_sum-suc, running_sum-whole}
use Rattle.degree_sequences.specs.Compression.{compressed, compressed_from, heads, head_of_row}
use Rattle.degree_sequences.specs.Degrees.{degree_list}
use Rattle.degree_sequences.specs.Domination.{DominatesKeys}
use Rattle.degree_sequences.specs.Descending.{IsDescending}
use Rattle.degree_sequences.specs.Rank.{rank}
use Rattle.degree_sequences.specs.RunningSums.{running_sum}

pub head_of_row-above : (k : ℕ) (f : List ℕ) → IsDescending f → (i : ℕ) → get_or f i 0 ≤ get_or (heads k f) i 0
head_of_row-above k f fall i = heads-above k (get_or f 0 0) f fall (omega arith) i

pub step_above : (k : ℕ) (f : List ℕ) → IsDescending f → (i m : ℕ) → running_sum f i ≤ m → m < sum f → running_sum f (suc i) ≤ m + min (head_of_row k f m) (sum f - m)
step_above k f fall i m ahead short =
    let j : ℕ = rank f (suc m) in
    let within : running_sum f (suc i) ≤ sum f = running_sum-le-sum f (suc i) in
    elim (cases_lt (suc i) j) [
      | inl later ↦ omega (arith, within, rank_least f (suc m) (suc i) (omega arith) later)
      | inr here ↦ omega (arith, within, running_sum-suc f i, descends_to f fall (j - 1) i (omega arith), head_of_row-above k f fall (j - 1))
    ]

pub compressed_from-above : (k : ℕ) (f : List ℕ) → IsDescending f → (n i m : ℕ) → running_sum f i ≤ m → (r : ℕ) → r ≤ n
    → running_sum f (i + r) ≤ m + running_sum (compressed_from k f n m) r
compressed_from-above k f fall n i m ahead zero h = let e : i + 0 ≡ i = omega arith in rw e (omega arith)
compressed_from-above k f fall zero i m ahead (suc r) h = absurd (omega arith)
compressed_from-above k f fall (suc n) i m ahead (suc r) h =
    let next : ℕ = min (head_of_row k f m) (sum f - m) in
    cond_both (ltb m (sum f)) (next ∷ compressed_from k f n (m + next)) [] (λ l. running_sum f (i + suc r) ≤ m + running_sum l (suc r))
    (λ e. let at : suc i + r ≡ i + suc r = omega arith in
    omega (arith, ap (running_sum f) at, compressed_from-above k f fall n (suc i) (m + next) (step_above k f fall i m ahead (ltb-true m (sum f) e)) r (omega arith)))
    (λ e. omega (arith, ltb-false m (sum f) e, running_sum-le-sum f (i + suc r)))

pub compressed_from-within : (k : ℕ) (f : List ℕ) (n m : ℕ) → m ≤ sum f → (r : ℕ) → m + running_sum (compressed_from k f n m) r ≤ sum f
compressed_from-within k f n m h zero = omega arith
compressed_from-within k f zero m h (suc r) = omega arith
compressed_from-within k f (suc n) m h (suc r) =
    let next : ℕ = min (head_of_row k f m) (sum f - m) in
    cond_both (ltb m (sum f)) (next ∷ compressed_from k f n (m + next)) [] (λ l. m + running_sum l (suc r) ≤ sum f)
    (λ e. omega (arith, compressed_from-within k f n (m + next) (omega arith) r))
    (λ e. omega arith)

pub compressed-above : (k : ℕ) (f : List ℕ) → IsDescending f → (r : ℕ) → running_sum f r ≤ running_sum (compressed k f) r
compressed-above k f fall r = elim (cases_lt (length f) r) [
  | inl past ↦ (let e : 0 + length f ≡ length f = omega arith in
      omega (
        arith,
        ap (running_sum f) e,
        compressed_from-above k f fall (length f) 0 0 (omega arith) (length f) (omega arith),
        running_sum-past f r (omega arith),
        running_sum-past f (length f) (omega arith),
        running_sum-mono (compressed k f) (length f) r (omega arith),
      ))
  | inr within ↦ (let e : 0 + r ≡ r = omega arith in
      omega (arith, ap (running_sum f) e, compressed_from-above k f fall (length f) 0 0 (omega arith) r within))
]

pub sum-compressed : (k : ℕ) (f : List ℕ) → IsDescending f → sum (compressed k f) ≡ sum f
sum-compressed k f fall =
    omega (
      arith,
      compressed-above k f fall (length f),
      running_sum-whole f,
      running_sum-le-sum (compressed k f) (length f),
      compressed_from-within k f (length f) 0 (omega arith) (length (compressed k f)),
      running_sum-whole (compressed k f),
    )

pub head_of_row-near : (k : ℕ) (f : List ℕ) → IsDescending f → (i m : ℕ) → running_sum f i ≤ m → m < sum f → k * head_of_row k f m ≤ (k + 1) * get_or f i 0
head_of_row-near k f fall i m ahead short =
    let j : ℕ = rank f (suc m) in
    let far : i < j = elim (cases_lt i j) [
      | inl h ↦ h
      | inr h ↦ absurd (omega (arith, running_sum-mono f j i h, rank_reaches f (suc m) short))
    ] in
    omega (arith, heads-near k (get_or f 0 0) f (j - 1), mul-le-mul_left (k + 1) (descends_to f fall i (j - 1) (omega arith)))

pub compressed_from-near : (k : ℕ) (f : List ℕ) → IsDescending f → (n i m : ℕ) → running_sum f i ≤ m → (r : ℕ)
    → k * get_or (compressed_from k f n m) r 0 ≤ (k + 1) * get_or f (i + r) 0
compressed_from-near k f fall zero i m ahead r = omega (arith, mul-zero k)
compressed_from-near k f fall (suc n) i m ahead zero =
    let next : ℕ = min (head_of_row k f m) (sum f - m) in
    cond_both (ltb m (sum f)) (next ∷ compressed_from k f n (m + next)) [] (λ l. k * get_or l 0 0 ≤ (k + 1) * get_or f (i + 0) 0)
    (λ e. let at : i + 0 ≡ i = omega arith in
    rw at (omega (arith, head_of_row-near k f fall i m ahead (ltb-true m (sum f) e), mul-le-mul_left k (min-le_left (head_of_row k f m) (sum f - m)))))
    (λ e. omega (arith, mul-zero k))
  where
    min-le_left : (a b : ℕ) → min a b ≤ a
    min-le_left a b = omega arith
compressed_from-near k f fall (suc n) i m ahead (suc r) =
    let next : ℕ = min (head_of_row k f m) (sum f - m) in
    cond_both (ltb m (sum f)) (next ∷ compressed_from k f n (m + next)) [] (λ l. k * get_or l (suc r) 0 ≤ (k + 1) * get_or f (i + suc r) 0)
    (λ e. let at : suc i + r ≡ i + suc r = omega arith in
    rw (sym at) (compressed_from-near k f fall n (suc i) (m + next) (step_above k f fall i m ahead (ltb-true m (sum f) e)) r))
    (λ e. omega (arith, mul-zero k))

pub compressed-near : (k : ℕ) (f : List ℕ) → IsDescending f → (r : ℕ) → k * get_or (compressed k f) r 0 ≤ (k + 1) * get_or f r 0
compressed-near k f fall r = rw zero-add at (compressed_from-near k f fall (length f) 0 0 (omega arith) r)

pub head_of_row-fall : (k : ℕ) (f : List ℕ) → IsDescending f → (m m' : ℕ) → m ≤ m' → m' < sum f → head_of_row k f m' ≤ head_of_row k f m
head_of_row-fall k f fall m m' h within =
    descends_to (heads k f) (heads-fall k (get_or f 0 0) f fall (omega arith)) (rank f (suc m) - 1) (rank f (suc m') - 1)
    (omega (arith, rank_mono f (suc m) (suc m') (omega arith) (omega arith) within))

pub compressed_from-descends : (k : ℕ) (f : List ℕ) → IsDescending f → (n m : ℕ) → IsDescending (compressed_from k f n m)
compressed_from-descends k f fall zero m = λ r. omega arith
compressed_from-descends k f fall (suc n) m =
    let next : ℕ = min (head_of_row k f m) (sum f - m) in
    cond_both (ltb m (sum f)) (next ∷ compressed_from k f n (m + next)) [] IsDescending
    (λ e. IsDescending-cons next (compressed_from k f n (m + next)) (first n (m + next) next (λ within. omega (arith, head_of_row-fall k f fall m (m + next) (omega arith) within))) (compressed_from-descends k f fall n (m + next)))
    (λ e r. omega arith)
  where
    first : (n m' b : ℕ) → (m' < sum f → min (head_of_row k f m') (sum f - m') ≤ b) → get_or (compressed_from k f n m') 0 0 ≤ b
    first zero m' b le = omega arith
    first (suc n) m' b le = cond_both (ltb m' (sum f)) (min (head_of_row k f m') (sum f - m') ∷ compressed_from k f n (m' + min (head_of_row k f m') (sum f - m'))) [] (λ l. get_or l 0 0 ≤ b)
        (λ e. le (ltb-true m' (sum f) e))
        (λ e. omega arith)

pub IsDescending-compressed : (k : ℕ) (f : List ℕ) → IsDescending f → IsDescending (compressed k f)
IsDescending-compressed k f fall = compressed_from-descends k f fall (length f) 0

pub compressed_dominates : (k : ℕ) (L : List ℕ) → DominatesKeys (compressed k (degree_list L)) L
compressed_dominates k L A apart = omega (arith, degree_list_dominates L A apart, compressed-above k (degree_list L) (IsDescending-degree_list L) (length A))
