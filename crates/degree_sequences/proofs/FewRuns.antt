-- A compressed list has few runs: each new head (`next_head`) is below k / (k + 1) of the head before it.
use Rattle.std.proofs.Common.{List, [], ap, arith, cond, eqb, get_or, inl, inr, length, min, refl, suc, sum, sym, zero, zero-add, ℕ, ◌*◌, ◌+◌, ◌-◌, ◌<◌, ◌^◌, ◌∙◌, ◌∷◌, ◌≡◌, ◌≤◌}
use Rattle.std.proofs.Math.Nat.{add-mul, mul-add, mul-le-mul, mul-le-mul_left, mul-le-mul_right, mul-pos, mul-suc, mul-zero, mul_assoc, mul_comm, one-le-pow, one-mul, pow-suc, pow-zero, suc-mul}
use Rattle.std.proofs.lemmas.Bool.{cases_lt, cond_both, eq-eqb, le-ltb, lt-ltb}
use Rattle.std.proofs.lemmas.Nat.{pow-add}
use Rattle.std.specs.List.{All}
use Rattle.degree_sequences.proofs.CompressedLists.{head_of_row-above}
use Rattle.degree_sequences.proofs.Heads.{IsHeadOrNewHead, heads-between, heads-le}
use Rattle.degree_sequences.proofs.Ranks.{rank_least, rank_mono, rank_reaches}
use Rattle.degree_sequences.proofs.RunningSums.{running_sum-mono, running_sum-past}
use Rattle.degree_sequences.specs.Compression.{compressed, compressed_from, head_of_row}
use Rattle.degree_sequences.specs.Descending.{IsDescending}
use Rattle.degree_sequences.specs.Rank.{rank}
use Rattle.degree_sequences.specs.Runs.{runs, runs_after}

-- this is Bernoulli's inequality: (k / (k + 1))^n is at most k / (k + n)
pub bernoulli : (k n : ℕ) → (k + n) * k ^ n ≤ k * (k + 1) ^ n
bernoulli k zero = let e : k + 0 ≡ k = omega arith in rw (e, pow-zero k, pow-zero (k + 1)) (omega arith)
bernoulli k (suc n) =
    let low : ℕ = k ^ n in
    let high : ℕ = (k + 1) ^ n in
    let ih : (k + n) * low ≤ k * high = bernoulli k n in
    let more : (k + 1) * ((k + n) * low) ≤ (k + 1) * (k * high) = mul-le-mul_left (k + 1) ih in
    let left : (k + suc n) * (low * k) ≤ (k + 1) * ((k + n) * low) = regroup low in
    let right : (k + 1) * (k * high) ≡ k * (high * (k + 1)) = turned k high in
    rw (pow-suc k n, pow-suc (k + 1) n) (omega (arith, left, more, right))
  where
    swap : (a b c : ℕ) → a * (b * c) ≡ b * (a * c)
    swap a b c = sym (mul_assoc a b c) ∙ ap (λ z. z * c) (mul_comm a b) ∙ mul_assoc b a c

    regroup : (x : ℕ) → (k + suc n) * (x * k) ≤ (k + 1) * ((k + n) * x)
    regroup x =
        let a : (k + suc n) * (x * k) ≡ k * (x * k) + n * (x * k) + x * k = omega (arith, add-mul k (suc n) (x * k), suc-mul n (x * k)) in
        let b : (k + 1) * ((k + n) * x) ≡ k * ((k + n) * x) + (k + n) * x = omega (arith, add-mul k 1 ((k + n) * x), one-mul ((k + n) * x)) in
        let c : (k + n) * x ≡ k * x + n * x = add-mul k n x in
        let d : k * ((k + n) * x) ≡ k * (k * x) + k * (n * x) = ap (λ z. k * z) c ∙ mul-add k (k * x) (n * x) in
        let e : x * k ≡ k * x = mul_comm x k in
        let p : n * (x * k) ≡ k * (n * x) = ap (λ z. n * z) e ∙ swap n k x in
        omega (arith, ap (λ z. k * z) e)

    turned : (a h : ℕ) → (a + 1) * (a * h) ≡ a * (h * (a + 1))
    turned a h = swap (a + 1) a h ∙ ap (λ z. a * z) (mul_comm (a + 1) h)

-- so after k further heads the head is at most half of what it was
pub halves : (k : ℕ) → 0 < k → 2 * k ^ k ≤ (k + 1) ^ k
halves k pos = elim (cases_lt ((k + 1) ^ k) (2 * k ^ k)) [
  | inr enough ↦ enough
  | inl less ↦ (let x : ℕ = k ^ k in
      let big : k * suc ((k + 1) ^ k) ≤ k * (2 * x) = mul-le-mul_left k (omega arith) in
      let grown : (k + k) * x ≤ k * (k + 1) ^ k = bernoulli k k in
      let twice : k * (2 * x) ≡ (k + k) * x = omega (arith, add-mul k k x, mul-add k x x, ap (λ z. k * z) (double x)) in
      absurd (omega (arith, mul-suc k ((k + 1) ^ k))))
]
  where
    double : (x : ℕ) → 2 * x ≡ x + x
    double x = omega arith

-- so after k * d further heads it is at most what it was, divided by 2^d
pub digits_suffice : (k : ℕ) → 0 < k → (d : ℕ) → 2 ^ d * k ^ (k * d) ≤ (k + 1) ^ (k * d)
digits_suffice k pos zero = rw (mul-zero k, pow-zero k, pow-zero (k + 1), pow-zero 2) (omega arith)
digits_suffice k pos (suc d) =
    let e : k * suc d ≡ k + k * d = omega (arith, mul-suc k d) in
    let both : (2 * k ^ k) * (2 ^ d * k ^ (k * d)) ≤ (k + 1) ^ k * (k + 1) ^ (k * d) = mul-le-mul (halves k pos) (digits_suffice k pos d) in
    rw (e, pow-add k k (k * d), pow-add (k + 1) k (k * d), pow-suc 2 d) (omega (arith, both, regroup (2 ^ d) (k ^ k) (k ^ (k * d))))
  where
    regroup : (a x y : ℕ) → (a * 2) * (x * y) ≡ (2 * x) * (a * y)
    regroup a x y = ap (λ z. z * (x * y)) (mul_comm a 2) ∙ mul_assoc 2 a (x * y) ∙ ap (λ z. 2 * z) (sym (mul_assoc a x y) ∙ ap (λ z. z * y) (mul_comm a x) ∙ mul_assoc x a y) ∙ sym (mul_assoc 2 x (a * y))

-- a head h has room for d further heads if h * k^d is below (k + 1)^d. Each new head has room for one head fewer
pub one_head_fewer : (k v h d : ℕ) → (k + 1) * v < k * h → h * k ^ suc d < (k + 1) ^ suc d → v * k ^ d < (k + 1) ^ d
one_head_fewer k v h d less room = elim (cases_lt (v * k ^ d) ((k + 1) ^ d)) [
  | inl enough ↦ enough
  | inr over ↦ absurd (
      let x : ℕ = k ^ d in
      let y : ℕ = (k + 1) ^ d in
      let a : ((k + 1) * v) * x ≤ (k * h) * x = mul-le-mul_right x (omega arith) in
      let b : (k + 1) * y ≤ (k + 1) * (v * x) = mul-le-mul_left (k + 1) over in
      let c : (k * h) * x ≡ h * (x * k) = ap (λ z. z * x) (mul_comm k h) ∙ mul_assoc h k x ∙ ap (λ z. h * z) (mul_comm k x) in
      let e : y * (k + 1) ≡ (k + 1) * y = mul_comm y (k + 1) in
      let now : h * (x * k) < y * (k + 1) = rw (pow-suc k d, pow-suc (k + 1) d) at room in
      omega (arith, mul_assoc (k + 1) v x))
]

pub head_without_room_is_zero : (k h : ℕ) → h * k ^ 0 < (k + 1) ^ 0 → h < 1
head_without_room_is_zero k h room = omega (arith, rw (pow-zero k, pow-zero (k + 1)) at room)

pub runs-any : (v w : ℕ) (s : List ℕ) → runs_after v s ≤ suc (runs_after w s)
runs-any v w [] = omega arith
runs-any v w (x ∷ s) = cond_both (eqb x v) 0 1 (λ n. n + runs_after x s ≤ suc (cond (eqb x w) 0 1 + runs_after x s)) (λ e. omega arith)
    (λ e. cond_both (eqb x w) 0 1 (λ n. 1 + runs_after x s ≤ suc (n + runs_after x s)) (λ e. omega arith) (λ e. omega arith))

pub empty_if_sum_reached : (k : ℕ) (f : List ℕ) (n m : ℕ) → sum f ≤ m → compressed_from k f n m ≡ []
empty_if_sum_reached k f zero m h = refl
empty_if_sum_reached k f (suc n) m h = rw (le-ltb m (sum f) h) refl

-- if the head for row m + 1 has room for d further heads, at most d new runs follow
pub runs_at_most_room : (k : ℕ) → 0 < k → (f : List ℕ) → ((m : ℕ) → m < sum f → 0 < head_of_row k f m) → (n m d : ℕ) → head_of_row k f m * k ^ d < (k + 1) ^ d
    → runs_after (head_of_row k f m) (compressed_from k f n m) ≤ d
runs_at_most_room k kpos f pos zero m d h = omega arith
runs_at_most_room k kpos f pos (suc n) m d h = elim (cases_lt m (sum f)) [
  | inr over ↦ rw (le-ltb m (sum f) over) (omega arith)
  | inl short ↦ rw (lt-ltb m (sum f) short) (elim (cases_lt (head_of_row k f m) (sum f - m)) [
    | inr last ↦ ends d h short last
    | inl more ↦ goes d h short more (λ d h. runs_at_most_room k kpos f pos n (m + head_of_row k f m) d h)
  ])
]
  where
    ends : (d : ℕ) → head_of_row k f m * k ^ d < (k + 1) ^ d → m < sum f → sum f - m ≤ head_of_row k f m
        → cond (eqb (min (head_of_row k f m) (sum f - m)) (head_of_row k f m)) 0 1 + runs_after (min (head_of_row k f m) (sum f - m)) (compressed_from k f n (m + min (head_of_row k f m) (sum f - m))) ≤ d
    ends zero h short last = absurd (omega (arith, pos m short, head_without_room_is_zero k (head_of_row k f m) h))
    ends (suc d) h short last = rw (empty_if_sum_reached k f n (m + min (head_of_row k f m) (sum f - m)) (omega arith))
        (cond_both (eqb (min (head_of_row k f m) (sum f - m)) (head_of_row k f m)) 0 1 (λ n. n + 0 ≤ suc d) (λ e. omega arith) (λ e. omega arith))

    goes : (d : ℕ) → head_of_row k f m * k ^ d < (k + 1) ^ d → m < sum f → head_of_row k f m < sum f - m
        → ((d : ℕ) → head_of_row k f (m + head_of_row k f m) * k ^ d < (k + 1) ^ d → runs_after (head_of_row k f (m + head_of_row k f m)) (compressed_from k f n (m + head_of_row k f m)) ≤ d)
        → cond (eqb (min (head_of_row k f m) (sum f - m)) (head_of_row k f m)) 0 1 + runs_after (min (head_of_row k f m) (sum f - m)) (compressed_from k f n (m + min (head_of_row k f m) (sum f - m))) ≤ d
    goes zero h short more ih = absurd (omega (arith, pos m short, head_without_room_is_zero k (head_of_row k f m) h))
    goes (suc d) h short more ih =
        let e : min (head_of_row k f m) (sum f - m) ≡ head_of_row k f m = omega arith in
        let low : IsHeadOrNewHead k (head_of_row k f (m + head_of_row k f m)) (head_of_row k f m) =
        heads-between k (get_or f 0 0) f (rank f (suc m) - 1) (rank f (suc (m + head_of_row k f m)) - 1)
        (omega (arith, rank_mono f (suc m) (suc (m + head_of_row k f m)) (omega arith) (omega arith) (omega arith))) (mul-pos kpos (pos m short)) in
        rw (e, eq-eqb (head_of_row k f m) (head_of_row k f m) refl, zero-add) (elim low [
          | inl same ↦ rw same at (ih (suc d) (rw same h))
          | inr far ↦ omega (
            arith,
            runs-any (head_of_row k f m) (head_of_row k f (m + head_of_row k f m)) (compressed_from k f n (m + head_of_row k f m)),
            ih d (one_head_fewer k (head_of_row k f (m + head_of_row k f m)) (head_of_row k f m) d far h),
          )
        ])

pub head_of_row_pos : (k : ℕ) (f : List ℕ) → IsDescending f → All (λ x. 0 < x) f → (m : ℕ) → m < sum f → 0 < head_of_row k f m
head_of_row_pos k f fall pos m h =
    let r : ℕ = rank f (suc m) in
    let low : 0 < r = elim (cases_lt 0 r) [ inl j ↦ j | inr j ↦ absurd (omega (arith, running_sum-mono f r 0 j, rank_reaches f (suc m) h)) ] in
    let within : r - 1 < length f = elim (cases_lt (r - 1) (length f)) [
      | inl j ↦ j
      | inr j ↦ absurd (omega (arith, running_sum-past f (r - 1) j, rank_least f (suc m) (r - 1) (omega arith) (omega arith)))
    ] in
    omega (arith, head_of_row-above k f fall (r - 1), pos (r - 1) 0 within)

-- a head below 2^d has room for k * d further heads
pub room_of_head_below_power : (k h d : ℕ) → 0 < k → h < 2 ^ d → h * k ^ (k * d) < (k + 1) ^ (k * d)
room_of_head_below_power k h d pos small =
    let x : ℕ = k ^ (k * d) in
    let some : 1 ≤ x = one-le-pow (k * d) k pos in
    let most : suc h * x ≤ 2 ^ d * x = mul-le-mul_right x (omega arith) in
    omega (arith, suc-mul h x, digits_suffice k pos d)

pub compressed_is_short : (k : ℕ) → 0 < k → (f : List ℕ) → IsDescending f → All (λ x. 0 < x) f → (d : ℕ) → get_or f 0 0 < 2 ^ d → runs (compressed k f) ≤ k * d + 1
compressed_is_short k kpos f fall pos d h =
    let first : head_of_row k f 0 < 2 ^ d = omega (arith, heads-le k (get_or f 0 0) f (rank f 1 - 1)) in
    omega (
      arith,
      runs-any 0 (head_of_row k f 0) (compressed k f),
      runs_at_most_room k kpos f (head_of_row_pos k f fall pos) (length f) 0 (k * d) (room_of_head_below_power k (head_of_row k f 0) d kpos first),
    )
