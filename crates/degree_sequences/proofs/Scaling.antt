-- If the lists of children are near their exact lists (`SumsAreWithin`), the composition is near the exact composition.
use Rattle.std.proofs.Common.{List, [], ap, arith, get_or, length, map, min, refl, replicate, suc, sum, sym, zero, ℕ, ◌*◌, ◌++◌, ◌+◌, ◌-◌, ◌∙◌, ◌∷◌, ◌≡◌, ◌≤◌}
use Rattle.std.proofs.Math.Nat.{mul-add, mul-le-mul_left, mul-suc, mul-zero, mul_assoc, mul_comm}
use Rattle.std.proofs.lemmas.List.{append-nil}
use Rattle.std.specs.List.{AllByRecursion}
use Rattle.degree_sequences.proofs.Blocks.{run-add}
use Rattle.degree_sequences.proofs.ByRank.{rank_product-above}
use Rattle.degree_sequences.proofs.RowWeights.{IsDescending-spreads, running_sum-composed, spreads}
use Rattle.degree_sequences.proofs.RunningSums.{running_sum-le-sum, running_sum-mono, running_sum-nil, running_sum-ones, running_sum-whole}
use Rattle.degree_sequences.proofs.Spread.{IsDescending-front, IsDescending-spread, running_sum-front, spread, spread-above, tail_of}
use Rattle.degree_sequences.specs.ByRank.{rank_product}
use Rattle.degree_sequences.specs.Composition.{ChildLists, composed}
use Rattle.degree_sequences.specs.Descending.{IsDescending}
use Rattle.degree_sequences.specs.ComparedChildren.{ColumnIsDescending, IsChildOf, IsNear, SumsAreWithin, MatchedChild, factors, scales}
use Rattle.degree_sequences.specs.RunningSums.{running_sum}

abbrev pub scale : ℕ → List ℕ → List ℕ
scale c s = map (λ x. c * x) s

pub running_sum-scale : (c : ℕ) (s : List ℕ) (r : ℕ) → running_sum (scale c s) r ≡ c * running_sum s r
running_sum-scale c s zero = sym (mul-zero c)
running_sum-scale c [] (suc r) = sym (mul-zero c)
running_sum-scale c (x ∷ s) (suc r) = omega (arith, running_sum-scale c s r)

pub get_or-scale : (c : ℕ) (s : List ℕ) (r : ℕ) → get_or (scale c s) r 0 ≡ c * get_or s r 0
get_or-scale c [] r = sym (mul-zero c)
get_or-scale c (x ∷ s) zero = refl
get_or-scale c (x ∷ s) (suc r) = get_or-scale c s r

pub IsDescending-scale : (c : ℕ) (s : List ℕ) → IsDescending s → IsDescending (scale c s)
IsDescending-scale c s fall r = omega (arith, get_or-scale c s r, get_or-scale c s (suc r), mul-le-mul_left c (fall r))

pub rank_product-scale : (c e : ℕ) (s t : List ℕ) → rank_product (scale c s) (scale e t) ≡ scale (c * e) (rank_product s t)
rank_product-scale c e [] t = refl
rank_product-scale c e (x ∷ s) [] = refl
rank_product-scale c e (x ∷ s) (y ∷ t) = rw (times c x e y, rank_product-scale c e s t) refl
  where
    times : (c x e y : ℕ) → (c * x) * (e * y) ≡ (c * e) * (x * y)
    times c x e y = omega arith

pub rank_product-near : (b c d e : ℕ) (s t s' t' : List ℕ) → IsDescending t → IsDescending s' → SumsAreWithin b c s' s → SumsAreWithin d e t' t
    → SumsAreWithin (b * d) (c * e) (rank_product s' t') (rank_product s t)
rank_product-near b c d e s t s' t' ft fs' near_s near_t r =
    omega (
      arith,
      rank_product-above (scale c s) (scale e t) (scale b s') (scale d t') (IsDescending-scale e t ft) (IsDescending-scale b s' fs')
          (λ r. omega (arith, near_s r, running_sum-scale c s r, running_sum-scale b s' r)) (λ r. omega (arith, near_t r, running_sum-scale e t r, running_sum-scale d t' r)) r,
      ap (λ u. running_sum u r) (rank_product-scale c e s t),
      ap (λ u. running_sum u r) (rank_product-scale b d s' t'),
      running_sum-scale (c * e) (rank_product s t) r,
      running_sum-scale (b * d) (rank_product s' t') r,
    )

-- each element repeated c times, so that lists spread over different numbers of rows can be compared
abbrev pub stretched : ℕ → List ℕ → List ℕ
stretched c [] = []
stretched c (x ∷ u) = replicate c x ++ stretched c u

pub running_sum-stretched : (c : ℕ) (u : List ℕ) (m : ℕ) → running_sum (stretched c u) (c * m) ≡ c * running_sum u m
running_sum-stretched c u zero = rw (mul-zero c) refl
running_sum-stretched c [] (suc m) = omega (arith, running_sum-nil (c * suc m), mul-zero c)
running_sum-stretched c (x ∷ u) (suc m) =
    let e : c * suc m ≡ c + c * m = omega (arith, mul-suc c m) in
    let all : min c (c + c * m) ≡ c = omega arith in
    let rest : (c + c * m) - c ≡ c * m = omega arith in
    rw e (running_sum-front c x (stretched c u) (c + c * m) ∙ rw (all, rest) (ap (λ z. c * x + z) (running_sum-stretched c u m) ∙ sym (mul-add c x (running_sum u m))))

pub rank_product-front : (c x y : ℕ) (s t : List ℕ) → rank_product (replicate c x ++ s) (replicate c y ++ t) ≡ replicate c (x * y) ++ rank_product s t
rank_product-front zero x y s t = refl
rank_product-front (suc c) x y s t = ap (λ (u : List ℕ). x * y ∷ u) (rank_product-front c x y s t)

pub rank_product-stretched : (c : ℕ) (s t : List ℕ) → rank_product (stretched c s) (stretched c t) ≡ stretched c (rank_product s t)
rank_product-stretched c [] t = refl
rank_product-stretched c (x ∷ s) [] = rank_product-nil (replicate c x ++ stretched c s)
  where
    rank_product-nil : (s : List ℕ) → rank_product s [] ≡ []
    rank_product-nil [] = refl
    rank_product-nil (x ∷ s) = refl
rank_product-stretched c (x ∷ s) (y ∷ t) = rank_product-front c x y (stretched c s) (stretched c t) ∙ ap (λ (u : List ℕ). replicate c (x * y) ++ u) (rank_product-stretched c s t)

pub stretched-front : (c x y : ℕ) (s : List ℕ) → replicate (c * x) y ++ stretched c s ≡ stretched c (replicate x y ++ s)
stretched-front c zero y s = rw (mul-zero c) refl
stretched-front c (suc x) y s =
    let e : c * suc x ≡ c + c * x = omega (arith, mul-suc c x) in
    rw e (run-add c (c * x) y (stretched c s) ∙ ap (λ (u : List ℕ). replicate c y ++ u) (stretched-front c x y s))

pub spread-stretched : (c : ℕ) (g v : List ℕ) → spread (scale c g) v ≡ stretched c (spread g v)
spread-stretched c [] v = refl
spread-stretched c (x ∷ g) v = ap (λ (u : List ℕ). replicate (c * x) (get_or v 0 0) ++ u) (spread-stretched c g (tail_of v)) ∙ stretched-front c x (get_or v 0 0) (spread g (tail_of v))

pub stretched-head : (c : ℕ) (u : List ℕ) (b : ℕ) → IsDescending u → get_or u 0 0 ≤ b → get_or (stretched c u) 0 0 ≤ b
stretched-head c [] b fall h = omega arith
stretched-head zero (x ∷ u) b fall h = stretched-head zero u b (λ r. fall (suc r)) (omega (arith, fall 0))
stretched-head (suc c) (x ∷ u) b fall h = h

pub IsDescending-stretched : (c : ℕ) (u : List ℕ) → IsDescending u → IsDescending (stretched c u)
IsDescending-stretched c [] fall = λ r. omega arith
IsDescending-stretched c (x ∷ u) fall = IsDescending-front c x (stretched c u) (stretched-head c u x (λ r. fall (suc r)) (fall 0)) (IsDescending-stretched c u (λ r. fall (suc r)))

pub scale-front : (c x y : ℕ) (s : List ℕ) → scale c (replicate x y ++ s) ≡ replicate x (c * y) ++ scale c s
scale-front c zero y s = refl
scale-front c (suc x) y s = ap (λ (u : List ℕ). c * y ∷ u) (scale-front c x y s)

pub tail_of-scale : (c : ℕ) (v : List ℕ) → tail_of (scale c v) ≡ scale c (tail_of v)
tail_of-scale c [] = refl
tail_of-scale c (y ∷ v) = refl

pub spread-scale : (c : ℕ) (g v : List ℕ) → spread g (scale c v) ≡ scale c (spread g v)
spread-scale c [] v = refl
spread-scale c (x ∷ g) v =
    rw (get_or-scale c v 0, tail_of-scale c v, spread-scale c g (tail_of v)) (sym (scale-front c x (get_or v 0 0) (spread g (tail_of v))))

pub spread-near : (a e b c : ℕ) (g v f w : List ℕ) → IsDescending w → IsDescending g → SumsAreWithin a e g f → SumsAreWithin b c v w
    → SumsAreWithin b c (stretched a (spread g v)) (stretched e (spread f w))
spread-near a e b c g v f w fw fg near_g near_v r =
    omega (
      arith,
      spread-above (scale e f) (scale c w) (scale a g) (scale b v) (IsDescending-scale c w fw) (IsDescending-scale a g fg)
          (λ r. omega (arith, near_g r, running_sum-scale e f r, running_sum-scale a g r)) (λ r. omega (arith, near_v r, running_sum-scale c w r, running_sum-scale b v r)) r,
      ap (λ u. running_sum u r) (spread-scale c (scale e f) w),
      ap (λ u. running_sum u r) (spread-scale b (scale a g) v),
      running_sum-scale c (spread (scale e f) w) r,
      running_sum-scale b (spread (scale a g) v) r,
      ap (λ u. c * running_sum u r) (spread-stretched e f w),
      ap (λ u. b * running_sum u r) (spread-stretched a g v),
    )

pub running_sum-stretched-ones : (c n r : ℕ) → running_sum (stretched c (replicate n 1)) r ≡ min (c * n) r
running_sum-stretched-ones c n r = ap (λ u. running_sum u r) (ones c n) ∙ running_sum-ones (c * n) r
  where
    ones : (c n : ℕ) → stretched c (replicate n 1) ≡ replicate (c * n) 1
    ones c n = ap (stretched c) (sym (append-nil (replicate n 1))) ∙ sym (stretched-front c n 1 []) ∙ append-nil (replicate (c * n) 1)

abbrev pub near_lists : List MatchedChild → List ChildLists
near_lists ms = map (λ m. m.near) ms

abbrev pub exact_lists : List MatchedChild → List ChildLists
exact_lists ms = map (λ m. m.exact) ms

pub spreads-near : (a n k : ℕ) → a * n ≤ (a + 1) * k → (ms : List MatchedChild) → AllByRecursion (IsNear a) ms
    → AllByRecursion (IsChildOf n) (near_lists ms) → AllByRecursion (IsChildOf k) (exact_lists ms) → AllByRecursion ColumnIsDescending (near_lists ms)
    → SumsAreWithin (scales ms) (factors ms) (stretched a (spreads (near_lists ms) n)) (stretched (a + 1) (spreads (exact_lists ms) k))
spreads-near a n k h [] near ok ok' fall r = omega (arith, running_sum-stretched-ones a n r, running_sum-stretched-ones (a + 1) k r)
spreads-near a n k h (m ∷ ms) near ok ok' fall r =
    let s' : List ℕ = spreads (near_lists ms) n in
    let t' : List ℕ = spread m.near.column m.near.class in
    let s : List ℕ = spreads (exact_lists ms) k in
    let t : List ℕ = spread m.exact.column m.exact.class in
    let both : (scales ms * m.scale) * running_sum (rank_product (stretched a s') (stretched a t')) r ≤ (factors ms * m.factor) * running_sum (rank_product (stretched (a + 1) s) (stretched (a + 1) t)) r =
    rank_product-near (scales ms) (factors ms) m.scale m.factor (stretched (a + 1) s) (stretched (a + 1) t) (stretched a s') (stretched a t')
    (IsDescending-stretched (a + 1) t (IsDescending-spread m.exact.column m.exact.class ok'.0.class_is_descending))
    (IsDescending-stretched a s' (IsDescending-spreads n n (near_lists ms) ok.1))
    (spreads-near a n k h ms near.1 ok.1 ok'.1 fall.1)
    (spread-near a (a + 1) m.scale m.factor m.near.column m.near.class m.exact.column m.exact.class ok'.0.class_is_descending fall.0 near.0.column near.0.class) r in
    rw (mul_comm m.scale (scales ms), mul_comm m.factor (factors ms), sym (rank_product-stretched a s' t'), sym (rank_product-stretched (a + 1) s t)) both

pub composed-near : (a : ℕ) (g f : List ℕ) (ms : List MatchedChild) → SumsAreWithin a (a + 1) g f → AllByRecursion (IsNear a) ms
    → AllByRecursion (IsChildOf (sum g)) (map (λ m. m.near) ms) → AllByRecursion (IsChildOf (sum f)) (map (λ m. m.exact) ms)
    → AllByRecursion ColumnIsDescending (map (λ m. m.near) ms)
    → SumsAreWithin (a * scales ms) ((a + 1) * factors ms) (composed g (map (λ m. m.near) ms)) (composed f (map (λ m. m.exact) ms))
composed-near a g f ms near_g near ok ok' fall r =
    let u : List ℕ = spreads (exact_lists ms) (sum f) in
    let v : List ℕ = spreads (near_lists ms) (sum g) in
    let m : ℕ = running_sum g r in
    let fits : a * sum g ≤ (a + 1) * sum f =
    omega (arith, ap (λ x. a * x) (running_sum-whole g), near_g (length g), mul-le-mul_left (a + 1) (running_sum-le-sum f (length g))) in
    let left : (a * scales ms) * running_sum (composed g (near_lists ms)) r ≡ scales ms * running_sum (stretched a v) (a * m) =
    ap (λ x. (a * scales ms) * x) (running_sum-composed g (near_lists ms) ok r) ∙ turned a (scales ms) (running_sum v m) ∙ ap (λ x. scales ms * x) (sym (running_sum-stretched a v m)) in
    let right : ((a + 1) * factors ms) * running_sum (composed f (exact_lists ms)) r ≡ factors ms * running_sum (stretched (a + 1) u) ((a + 1) * running_sum f r) =
    ap (λ x. ((a + 1) * factors ms) * x) (running_sum-composed f (exact_lists ms) ok' r) ∙ turned (a + 1) (factors ms) (running_sum u (running_sum f r))
    ∙ ap (λ x. factors ms * x) (sym (running_sum-stretched (a + 1) u (running_sum f r))) in
    omega (
      arith,
      left,
      right,
      spreads-near a (sum g) (sum f) fits ms near ok ok' fall (a * m),
      mul-le-mul_left (factors ms) (running_sum-mono (stretched (a + 1) u) (a * m) ((a + 1) * running_sum f r) (near_g r)),
    )
  where
    turned : (x y z : ℕ) → (x * y) * z ≡ y * (x * z)
    turned x y z = ap (λ w. w * z) (mul_comm x y) ∙ mul_assoc y x z
