-- A compressed list is computed element by element: each element follows from the sum of the elements before it.
use Rattle.std.proofs.Common.{List, [], ◌∷◌, sym, arith, get_or, length, ltb, min, suc, sum, zero, zero-add, ℕ, ◌+◌, ◌-◌, ◌<◌, ◌≡◌, refl}
use Rattle.std.proofs.lemmas.Bool.{cond_both, ltb-true}
use Rattle.degree_sequences.specs.Compression.{compressed, compressed_from, head_of_row}
use Rattle.degree_sequences.specs.RunningSums.{running_sum}

-- this is the next compressed element after elements whose sum is m
abbrev pub element_after : ℕ → List ℕ → ℕ → ℕ
element_after k f m = min (head_of_row k f m) (sum f - m)

pub compressed_from-element : (k : ℕ) (f : List ℕ) (n m r : ℕ) → r < length (compressed_from k f n m)
    → get_or (compressed_from k f n m) r 0 ≡ element_after k f (m + running_sum (compressed_from k f n m) r)
compressed_from-element k f zero m r within = absurd (omega arith)
compressed_from-element k f (suc n) m zero within =
    let next : ℕ = element_after k f m in
    let none : m + 0 ≡ m = omega arith in
    cond_both (ltb m (sum f)) (next ∷ compressed_from k f n (m + next)) [] (λ l. 0 < length l → get_or l 0 0 ≡ element_after k f (m + 0))
    (λ e h. rw none refl)
    (λ e h. absurd (omega arith)) within
compressed_from-element k f (suc n) m (suc r) within =
    let next : ℕ = element_after k f m in
    let rest : List ℕ = compressed_from k f n (m + next) in
    let both : m + next + running_sum rest r ≡ m + (next + running_sum rest r) = omega arith in
    cond_both (ltb m (sum f)) (next ∷ rest) [] (λ l. suc r < length l → get_or l (suc r) 0 ≡ element_after k f (m + running_sum l (suc r)))
    (λ e h. rw (sym both) (compressed_from-element k f n (m + next) r (omega arith)))
    (λ e h. absurd (omega arith)) within

pub compressed_from-goes_on : (k : ℕ) (f : List ℕ) (n m r : ℕ) → r < length (compressed_from k f n m) → m + running_sum (compressed_from k f n m) r < sum f
compressed_from-goes_on k f zero m r within = absurd (omega arith)
compressed_from-goes_on k f (suc n) m zero within =
    let next : ℕ = element_after k f m in
    cond_both (ltb m (sum f)) (next ∷ compressed_from k f n (m + next)) [] (λ l. 0 < length l → m + 0 < sum f)
    (λ e h. omega (arith, ltb-true m (sum f) e))
    (λ e h. absurd (omega arith)) within
compressed_from-goes_on k f (suc n) m (suc r) within =
    let next : ℕ = element_after k f m in
    let rest : List ℕ = compressed_from k f n (m + next) in
    cond_both (ltb m (sum f)) (next ∷ rest) [] (λ l. suc r < length l → m + running_sum l (suc r) < sum f)
    (λ e h. omega (arith, compressed_from-goes_on k f n (m + next) r (omega arith)))
    (λ e h. absurd (omega arith)) within

pub compressed-element : (k : ℕ) (f : List ℕ) (r : ℕ) → r < length (compressed k f)
    → get_or (compressed k f) r 0 ≡ min (head_of_row k f (running_sum (compressed k f) r)) (sum f - running_sum (compressed k f) r)
compressed-element k f r within = rw zero-add at (compressed_from-element k f (length f) 0 r within)

pub compressed-goes_on : (k : ℕ) (f : List ℕ) (r : ℕ) → r < length (compressed k f) → running_sum (compressed k f) r < sum f
compressed-goes_on k f r within = rw zero-add at (compressed_from-goes_on k f (length f) 0 r within)
