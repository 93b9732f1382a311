-- Laws of running sums: how they grow, and the running sums of trimmed lists, of the rest of a list and of block sums.
use Rattle.std.proofs.Common.{List, [], ap, arith, drop, get_or, length, min, refl, replicate, suc, sum, sym, zero, zero-add, ℕ, ◌+◌, ◌<◌, ◌∙◌, ◌∷◌, ◌≡◌, ◌≤◌}
use Rattle.std.proofs.Math.Nat.{suc-add}
use Rattle.std.proofs.lemmas.List.Sums.{sum_by-cons}
use Rattle.degree_sequences.proofs.Summation.{sum_below-list, sum_below-same}
use Rattle.degree_sequences.specs.Composition.{block_sums}
use Rattle.degree_sequences.specs.Descending.{cons_unless_zero_at_end, trimmed}
use Rattle.degree_sequences.specs.RunningSums.{running_sum, HasHigherSums}

pub running_sum-nil : (r : ℕ) → running_sum [] r ≡ 0
running_sum-nil zero = refl
running_sum-nil (suc r) = refl

pub running_sum-mono : (s : List ℕ) (i j : ℕ) → i ≤ j → running_sum s i ≤ running_sum s j
running_sum-mono s zero j h = omega arith
running_sum-mono [] (suc i) j h = omega arith
running_sum-mono (x ∷ s) (suc i) zero h = absurd (omega arith)
running_sum-mono (x ∷ s) (suc i) (suc j) h = let ih : running_sum s i ≤ running_sum s j = running_sum-mono s i j (omega arith) in omega arith

pub running_sum-suc : (s : List ℕ) (r : ℕ) → running_sum s (suc r) ≡ running_sum s r + get_or s r 0
running_sum-suc [] zero = refl
running_sum-suc [] (suc r) = refl
running_sum-suc (x ∷ s) zero = omega arith
running_sum-suc (x ∷ s) (suc r) = omega (arith, running_sum-suc s r)

pub running_sum-whole : (s : List ℕ) → running_sum s (length s) ≡ sum s
running_sum-whole [] = refl
running_sum-whole (x ∷ s) = omega (arith, running_sum-whole s, sum_by-cons (λ (y : ℕ). y) x s)

pub running_sum-past : (s : List ℕ) (r : ℕ) → length s ≤ r → running_sum s r ≡ sum s
running_sum-past [] zero h = refl
running_sum-past [] (suc r) h = refl
running_sum-past (x ∷ s) zero h = absurd (omega arith)
running_sum-past (x ∷ s) (suc r) h = omega (arith, running_sum-past s r (omega arith), sum_by-cons (λ (y : ℕ). y) x s)

pub running_sum-le-sum : (s : List ℕ) (r : ℕ) → running_sum s r ≤ sum s
running_sum-le-sum s zero = omega arith
running_sum-le-sum [] (suc r) = omega arith
running_sum-le-sum (x ∷ s) (suc r) = omega (arith, running_sum-le-sum s r, sum_by-cons (λ (y : ℕ). y) x s)

pub sum-above : (s t : List ℕ) → HasHigherSums s t → sum t ≤ sum s
sum-above s t above = omega (arith, running_sum-whole t, above (length t), running_sum-le-sum s (length t))

-- `cons_unless_zero_at_end` leaves out only zeros at the end, so running sums stay the same
pub running_sum-cons_unless_zero_at_end : (x : ℕ) (s : List ℕ) (r : ℕ) → running_sum (cons_unless_zero_at_end x s) r ≡ running_sum (x ∷ s) r
running_sum-cons_unless_zero_at_end zero [] zero = refl
running_sum-cons_unless_zero_at_end zero [] (suc r) = omega (arith, running_sum-nil r)
running_sum-cons_unless_zero_at_end zero (y ∷ s) r = refl
running_sum-cons_unless_zero_at_end (suc x) s r = refl

pub running_sum-trimmed : (s : List ℕ) (r : ℕ) → running_sum (trimmed s) r ≡ running_sum s r
running_sum-trimmed [] r = refl
running_sum-trimmed (x ∷ s) zero = running_sum-cons_unless_zero_at_end x (trimmed s) zero
running_sum-trimmed (x ∷ s) (suc r) = running_sum-cons_unless_zero_at_end x (trimmed s) (suc r) ∙ ap (λ n. x + n) (running_sum-trimmed s r)

pub running_sum-add : (u : List ℕ) (i j : ℕ) → running_sum u (i + j) ≡ running_sum u i + running_sum (drop i u) j
running_sum-add u zero j = simp zero-add
running_sum-add [] (suc i) j = omega (arith, running_sum-nil (suc i + j), running_sum-nil j)
running_sum-add (x ∷ u) (suc i) j = rw suc-add (omega (arith, running_sum-add u i j))

pub running_sum-block_sums : (g u : List ℕ) (r : ℕ) → running_sum (block_sums g u) r ≡ running_sum u (running_sum g r)
running_sum-block_sums g u zero = refl
running_sum-block_sums [] u (suc r) = refl
running_sum-block_sums (x ∷ g) u (suc r) = ap (λ n. running_sum u x + n) (running_sum-block_sums g (drop x u) r) ∙ sym (running_sum-add u x (running_sum g r))

pub running_sum-agree : (u u' : List ℕ) (r : ℕ) → ((k : ℕ) → k < r → get_or u k 0 ≡ get_or u' k 0) → running_sum u r ≡ running_sum u' r
running_sum-agree u u' r h = sym (sum_below-list u r) ∙ sum_below-same (λ k. get_or u k 0) (λ k. get_or u' k 0) r h ∙ sum_below-list u' r

pub running_sum-ones : (n r : ℕ) → running_sum (replicate n 1) r ≡ min n r
running_sum-ones zero r = running_sum-nil r ∙ omega arith
running_sum-ones (suc n) zero = omega arith
running_sum-ones (suc n) (suc r) = omega (arith, running_sum-ones n r)
