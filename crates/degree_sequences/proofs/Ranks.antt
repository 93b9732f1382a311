-- The rank of row t is the least rank whose running sum is at least t.
use Rattle.std.proofs.Common.{List, [], arith, inl, inr, leb, suc, sum, zero, ℕ, ◌+◌, ◌-◌, ◌<◌, ◌∷◌, ◌≤◌}
use Rattle.std.proofs.lemmas.Bool.{cases_lt, cond_both, leb-false, leb-true}
use Rattle.std.proofs.lemmas.List.Sums.{sum_by-cons}
use Rattle.degree_sequences.specs.Rank.{rank}
use Rattle.degree_sequences.specs.RunningSums.{running_sum}

pub rank_reaches : (s : List ℕ) (t : ℕ) → t ≤ sum s → t ≤ running_sum s (rank s t)
rank_reaches [] t h = h
rank_reaches (x ∷ s) t h = cond_both (leb t x) 1 (suc (rank s (t - x))) (λ r. t ≤ running_sum (x ∷ s) r)
    (λ e. omega (arith, leb-true t x e))
    (λ e. omega (arith, leb-false t x e, sum_by-cons (λ (y : ℕ). y) x s, rank_reaches s (t - x) (omega (arith, h, sum_by-cons (λ (y : ℕ). y) x s))))

pub rank_least : (s : List ℕ) (t j : ℕ) → 0 < t → j < rank s t → running_sum s j < t
rank_least s t zero pos h = pos
rank_least [] t (suc j) pos h = absurd (omega arith)
rank_least (x ∷ s) t (suc j) pos h =
    cond_both (leb t x) 1 (suc (rank s (t - x))) (λ r. suc j < r → x + running_sum s j < t)
    (λ e k. absurd (omega arith))
    (λ e k. omega (arith, leb-false t x e, rank_least s (t - x) j (omega (arith, leb-false t x e)) (omega arith)))
    h

pub rank_mono : (s : List ℕ) (t t' : ℕ) → 0 < t → t ≤ t' → t' ≤ sum s → rank s t ≤ rank s t'
rank_mono s t t' pos h within = elim (cases_lt (rank s t') (rank s t)) [
  | inl k ↦ absurd (omega (arith, rank_least s t (rank s t') pos k, rank_reaches s t' within))
  | inr k ↦ k
]

pub rank_pos : (g : List ℕ) (t : ℕ) → t ≤ sum g → 0 < t → 0 < rank g t
rank_pos [] t h pos = absurd (omega arith)
rank_pos (x ∷ g) t h pos = cond_both (leb t x) 1 (suc (rank g (t - x))) (λ r. 0 < r) (λ e. omega arith) (λ e. omega arith)
