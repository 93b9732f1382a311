-- Laws of the rank-wise maximum of lists, and of the greatest of some numbers.
use Rattle.std.proofs.Common.{◌≡◌, ℕ, zero, suc, ◌≤◌, true, eqb, max, List, [], ◌∷◌, ◌++◌, map, sum, get_or, refl, ap, ◌∙◌, arith, inl, inr}
use Rattle.std.specs.List.{All}
use Rattle.std.proofs.lemmas.Bool.{cases_Bool, eqb-true, false≢true}
use Rattle.degree_sequences.specs.ByRank.{rank_maximum}
use Rattle.degree_sequences.specs.Descending.{IsDescending}
use Rattle.degree_sequences.specs.RunningSums.{HasHigherSums}
use Rattle.degree_sequences.proofs.ByRank.{get_or-rank_maximum, IsDescending-rank_maximum}
use Rattle.degree_sequences.proofs.Counting.{is_in}
use Rattle.degree_sequences.proofs.RunningSums.{running_sum-suc, sum-above}
use Rattle.cond_stats.proofs.CutLists.{rank_maximum-nil}
use Rattle.cond_stats.specs.Lists.{maxima, greatest}

pub above_by_rank : (s t : List ℕ) → ((r : ℕ) → get_or t r 0 ≤ get_or s r 0) → HasHigherSums s t
above_by_rank s t h zero = omega arith
above_by_rank s t h (suc r) = omega (arith, running_sum-suc s r, running_sum-suc t r, above_by_rank s t h r, h r)

pub maxima-above : (f : ℕ → List ℕ) (vs : List ℕ) (v : ℕ) → is_in vs v ≡ true → (r : ℕ) → get_or (f v) r 0 ≤ get_or (maxima (map f vs)) r 0
maxima-above f [] v inside r = absurd (false≢true inside)
maxima-above f (w ∷ vs) v inside r = elim (cases_Bool (eqb v w)) [
  | inl e ↦ (let same : get_or (f v) r 0 ≡ get_or (f w) r 0 = ap (λ (x : ℕ). get_or (f x) r 0) (eqb-true v w e) in
      omega (arith, same, get_or-rank_maximum (f w) (maxima (map f vs)) r))
  | inr e ↦ (let rest : is_in vs v ≡ true = rw e at inside in
      omega (arith, maxima-above f vs v rest r, get_or-rank_maximum (f w) (maxima (map f vs)) r))
]

pub greatest-above : (g : ℕ → ℕ) (vs : List ℕ) (v : ℕ) → is_in vs v ≡ true → g v ≤ greatest (map g vs)
greatest-above g [] v inside = absurd (false≢true inside)
greatest-above g (w ∷ vs) v inside = elim (cases_Bool (eqb v w)) [
  | inl e ↦ (let same : g v ≡ g w = ap g (eqb-true v w e) in omega (arith, same))
  | inr e ↦ (let rest : is_in vs v ≡ true = rw e at inside in omega (arith, greatest-above g vs v rest))
]

pub IsDescending-maxima : {X : Type 0} (f : X → List ℕ) → ((v : X) → IsDescending (f v)) → (vs : List X) → IsDescending (maxima (map f vs))
IsDescending-maxima f descends [] = λ r. omega arith
IsDescending-maxima f descends (v ∷ vs) = IsDescending-rank_maximum (f v) (maxima (map f vs)) (descends v) (IsDescending-maxima f descends vs)

pub greatest-le-sum : (f : ℕ → List ℕ) (g : ℕ → ℕ) → ((v : ℕ) → g v ≡ sum (f v)) → (vs : List ℕ) → greatest (map g vs) ≤ sum (maxima (map f vs))
greatest-le-sum f g same [] = omega arith
greatest-le-sum f g same (v ∷ vs) =
    let s : List ℕ = f v in
    let t : List ℕ = maxima (map f vs) in
    let left : sum s ≤ sum (rank_maximum s t) = sum-above (rank_maximum s t) s (above_by_rank (rank_maximum s t) s (λ r. omega (arith, get_or-rank_maximum s t r))) in
    let right : sum t ≤ sum (rank_maximum s t) = sum-above (rank_maximum s t) t (above_by_rank (rank_maximum s t) t (λ r. omega (arith, get_or-rank_maximum s t r))) in
    omega (arith, left, right, same v, greatest-le-sum f g same vs)

rank_maximum-assoc : (s t u : List ℕ) → rank_maximum s (rank_maximum t u) ≡ rank_maximum (rank_maximum s t) u
rank_maximum-assoc [] t u = refl
rank_maximum-assoc (x ∷ s) [] u = refl
rank_maximum-assoc (x ∷ s) (y ∷ t) [] = refl
rank_maximum-assoc (x ∷ s) (y ∷ t) (z ∷ u) =
    let here : max x (max y z) ≡ max (max x y) z = omega arith in
    rw (here, rank_maximum-assoc s t u) refl

pub maxima-push : (lists : List (List ℕ)) (list : List ℕ) → maxima (lists ++ list ∷ []) ≡ rank_maximum (maxima lists) list
maxima-push [] list = rank_maximum-nil list
maxima-push (first ∷ lists) list = ap (rank_maximum first) (maxima-push lists list) ∙ rank_maximum-assoc first (maxima lists) list

pub greatest-push : (ns : List ℕ) (n : ℕ) → greatest (ns ++ n ∷ []) ≡ max (greatest ns) n
greatest-push [] n = omega arith
greatest-push (m ∷ ns) n = omega (arith, greatest-push ns n)

pub greatest-le : {X : Type 0} (g : X → ℕ) (xs : List X) (m : ℕ) → All (λ x. g x ≤ m) xs → greatest (map g xs) ≤ m
greatest-le g [] m all = omega arith
greatest-le g (x ∷ xs) m all = omega (arith, all 0 x (omega arith), greatest-le g xs m (λ k d h. all (suc k) d (omega arith)))
