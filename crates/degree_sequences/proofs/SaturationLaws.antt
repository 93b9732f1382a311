-- Saturating the operands first doesn't change a saturated sum or product, nor a saturated list of these.
use Rattle.std.proofs.Common.{List, [], ap, arith, drop, inl, inr, map, min, refl, suc, sym, zero, ℕ, ◌*◌, ◌-◌, ◌<◌, ◌^◌, ◌∙◌, ◌∷◌, ◌≡◌, ◌≤◌}
use Rattle.std.proofs.Math.Nat.{mul-le-mul_left, mul-le-mul_right, mul-zero, mul_comm}
use Rattle.std.proofs.lemmas.Bool.{cases_lt}
use Rattle.degree_sequences.specs.ByRank.{rank_product}
use Rattle.degree_sequences.specs.Composition.{block_sums}
use Rattle.degree_sequences.specs.Descending.{cons_unless_zero_at_end, trimmed}
use Rattle.degree_sequences.specs.RunningSums.{running_sum}
use Rattle.degree_sequences.specs.Saturation.{saturated}

pub min-mul-min_left : (a b m : ℕ) → min (min a m * b) m ≡ min (a * b) m
min-mul-min_left a zero m = ap (λ k. min k m) (mul-zero (min a m) ∙ sym (mul-zero a))
min-mul-min_left a (suc b) m = elim (cases_lt a m) [
  | inl h ↦ (let e : min a m ≡ a = omega arith in rw e refl)
  | inr h ↦ (let e : min a m ≡ m = omega arith in
      let p : m * 1 ≤ m * suc b = mul-le-mul_left m (omega arith) in
      let q : m * suc b ≤ a * suc b = mul-le-mul_right (suc b) h in
      rw e (omega arith))
]

pub min-mul-min : (a b m : ℕ) → min (min a m * min b m) m ≡ min (a * b) m
min-mul-min a b m =
    min-mul-min_left a (min b m) m ∙ ap (λ k. min k m) (mul_comm a (min b m)) ∙ min-mul-min_left b a m ∙ ap (λ k. min k m) (mul_comm b a)

pub saturated-mul : (a b : ℕ) → saturated (saturated a * saturated b) ≡ saturated (a * b)
saturated-mul a b = min-mul-min a b (2 ^ 128 - 1)

pub saturated-rank_product : (s t : List ℕ) → map saturated (rank_product (map saturated s) (map saturated t)) ≡ map saturated (rank_product s t)
saturated-rank_product [] t = refl
saturated-rank_product (x ∷ s) [] = refl
saturated-rank_product (x ∷ s) (y ∷ t) = rw (saturated-mul x y, saturated-rank_product s t) refl

pub saturated-running_sum : (u : List ℕ) (r : ℕ) → saturated (running_sum (map saturated u) r) ≡ saturated (running_sum u r)
saturated-running_sum u zero = refl
saturated-running_sum [] (suc r) = refl
saturated-running_sum (x ∷ u) (suc r) = let ih : saturated (running_sum (map saturated u) r) ≡ saturated (running_sum u r) = saturated-running_sum u r in omega arith

pub drop-saturated : (x : ℕ) (u : List ℕ) → drop x (map saturated u) ≡ map saturated (drop x u)
drop-saturated zero u = refl
drop-saturated (suc x) [] = refl
drop-saturated (suc x) (y ∷ u) = drop-saturated x u

pub saturated-block_sums : (g u : List ℕ) → map saturated (block_sums g (map saturated u)) ≡ map saturated (block_sums g u)
saturated-block_sums [] u = refl
saturated-block_sums (x ∷ g) u = rw (saturated-running_sum u x, drop-saturated x u, saturated-block_sums g (drop x u)) refl

pub cons_unless_zero_at_end-pos : (n : ℕ) (s : List ℕ) → 0 < n → cons_unless_zero_at_end n s ≡ n ∷ s
cons_unless_zero_at_end-pos zero s h = absurd (omega arith)
cons_unless_zero_at_end-pos (suc n) s h = refl

pub saturated-cons_unless_zero_at_end : (x : ℕ) (s : List ℕ) → map saturated (cons_unless_zero_at_end x s) ≡ cons_unless_zero_at_end (saturated x) (map saturated s)
saturated-cons_unless_zero_at_end zero [] = refl
saturated-cons_unless_zero_at_end zero (y ∷ s) = refl
saturated-cons_unless_zero_at_end (suc x) s = sym (cons_unless_zero_at_end-pos (saturated (suc x)) (map saturated s) (omega arith))

pub saturated-trimmed : (s : List ℕ) → map saturated (trimmed s) ≡ trimmed (map saturated s)
saturated-trimmed [] = refl
saturated-trimmed (x ∷ s) = saturated-cons_unless_zero_at_end x (trimmed s) ∙ ap (cons_unless_zero_at_end (saturated x)) (saturated-trimmed s)
