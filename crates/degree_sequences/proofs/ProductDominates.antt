-- If two lists dominate two weights, their rank-wise product dominates the product of the weights. The proof orders the keys by one weight,
-- and uses summation by parts twice.
use Rattle.std.proofs.Common.{List, [], ap, arith, cond, eqb, false, get_or, leb, length, length-take, map, refl, suc, sym, take, true, zero, ℕ, ◌*◌, ◌+◌, ◌∙◌, ◌∷◌, ◌≡◌, ◌≤◌}
use Rattle.std.proofs.Math.Nat.{mul_comm}
use Rattle.std.proofs.lemmas.Bool.{cond_both, eqb-false, ne_eqb}
use Rattle.std.proofs.lemmas.List.Sums.{sum_by-cons}
use Rattle.std.proofs.lemmas.Map.Keys.{IsDistinct-cons, IsDistinct-head, IsDistinct-tail}
use Rattle.std.specs.List.{AllByRecursion, IsDistinct, sum_by}
use Rattle.degree_sequences.proofs.Counting.{IsDistinct-nil}
use Rattle.degree_sequences.proofs.DescendingOrder.{IsDescending-sorted_descending}
use Rattle.degree_sequences.proofs.RunningSums.{running_sum-mono}
use Rattle.degree_sequences.proofs.Summation.{sum_below, sum_below-list, sum_below-mul-le, sum_below-product, sum_below-same}
use Rattle.degree_sequences.specs.ByRank.{rank_product}
use Rattle.degree_sequences.specs.Degrees.{sorted_descending, inserted_descending}
use Rattle.degree_sequences.specs.Domination.{DominatesWeights}
use Rattle.degree_sequences.specs.Descending.{IsDescending}
use Rattle.degree_sequences.specs.RunningSums.{running_sum}

abbrev pub put_by : (ℕ → ℕ) → ℕ → List ℕ → List ℕ
put_by w a [] = a ∷ []
put_by w a (b ∷ bs) = cond (leb (w b) (w a)) (a ∷ (b ∷ bs)) (b ∷ put_by w a bs)

-- `by_weight` sorts keys by weight, the greatest first
abbrev pub by_weight : (ℕ → ℕ) → List ℕ → List ℕ
by_weight w [] = []
by_weight w (a ∷ A) = put_by w a (by_weight w A)

pub map-put_by : (w : ℕ → ℕ) (a : ℕ) (bs : List ℕ) → map w (put_by w a bs) ≡ inserted_descending (w a) (map w bs)
map-put_by w a [] = refl
map-put_by w a (b ∷ bs) =
    elim (leb (w b) (w a)) as (λ t. map w (cond t (a ∷ (b ∷ bs)) (b ∷ put_by w a bs)) ≡ cond t (w a ∷ (w b ∷ map w bs)) (w b ∷ inserted_descending (w a) (map w bs))) [
      | true ↦ refl
      | false ↦ ap (λ (s : List ℕ). w b ∷ s) (map-put_by w a bs)
    ]

pub map-by_weight : (w : ℕ → ℕ) (A : List ℕ) → map w (by_weight w A) ≡ sorted_descending (map w A)
map-by_weight w [] = refl
map-by_weight w (a ∷ A) = map-put_by w a (by_weight w A) ∙ ap (inserted_descending (w a)) (map-by_weight w A)

pub sum_by-put_by : (w f : ℕ → ℕ) (a : ℕ) (bs : List ℕ) → sum_by f (put_by w a bs) ≡ f a + sum_by f bs
sum_by-put_by w f a [] = omega arith
sum_by-put_by w f a (b ∷ bs) = cond_both (leb (w b) (w a)) (a ∷ (b ∷ bs)) (b ∷ put_by w a bs) (λ s. sum_by f s ≡ f a + sum_by f (b ∷ bs))
    (λ e. sum_by-cons f a (b ∷ bs))
    (λ e. omega (arith, sum_by-cons f b (put_by w a bs), sum_by-cons f b bs, sum_by-put_by w f a bs))

pub sum_by-by_weight : (w f : ℕ → ℕ) (A : List ℕ) → sum_by f (by_weight w A) ≡ sum_by f A
sum_by-by_weight w f [] = refl
sum_by-by_weight w f (a ∷ A) = omega (arith, sum_by-put_by w f a (by_weight w A), sum_by-cons f a A, sum_by-by_weight w f A)

pub length-put_by : (w : ℕ → ℕ) (a : ℕ) (bs : List ℕ) → length (put_by w a bs) ≡ suc (length bs)
length-put_by w a [] = refl
length-put_by w a (b ∷ bs) = cond_both (leb (w b) (w a)) (a ∷ (b ∷ bs)) (b ∷ put_by w a bs) (λ s. length s ≡ suc (suc (length bs)))
    (λ e. refl)
    (λ e. ap suc (length-put_by w a bs))

pub length-by_weight : (w : ℕ → ℕ) (A : List ℕ) → length (by_weight w A) ≡ length A
length-by_weight w [] = refl
length-by_weight w (a ∷ A) = length-put_by w a (by_weight w A) ∙ ap suc (length-by_weight w A)

pub All-put_by : (Q : ℕ → Type 0) (w : ℕ → ℕ) (a : ℕ) (bs : List ℕ) → Q a → AllByRecursion Q bs → AllByRecursion Q (put_by w a bs)
All-put_by Q w a [] q h = (q, tt)
All-put_by Q w a (b ∷ bs) q h = cond_both (leb (w b) (w a)) (a ∷ (b ∷ bs)) (b ∷ put_by w a bs) (AllByRecursion Q)
    (λ e. (q, h))
    (λ e. (h.0, All-put_by Q w a bs q h.1))

pub All-by_weight : (Q : ℕ → Type 0) (w : ℕ → ℕ) (A : List ℕ) → AllByRecursion Q A → AllByRecursion Q (by_weight w A)
All-by_weight Q w [] h = tt
All-by_weight Q w (a ∷ A) h = All-put_by Q w a (by_weight w A) h.0 (All-by_weight Q w A h.1)

pub IsDistinct-put_by : (w : ℕ → ℕ) (a : ℕ) (bs : List ℕ) → AllByRecursion (λ y. eqb a y ≡ false) bs → IsDistinct eqb bs → IsDistinct eqb (put_by w a bs)
IsDistinct-put_by w a [] new apart = IsDistinct-cons eqb a [] tt apart
IsDistinct-put_by w a (b ∷ bs) new apart = cond_both (leb (w b) (w a)) (a ∷ (b ∷ bs)) (b ∷ put_by w a bs) (IsDistinct eqb)
    (λ e. IsDistinct-cons eqb a (b ∷ bs) new apart)
    (λ e. IsDistinct-cons eqb b (put_by w a bs)
    (All-put_by (λ y. eqb b y ≡ false) w a bs (ne_eqb b a (λ same. eqb-false a b new.0 (sym same))) (IsDistinct-head eqb b bs apart))
    (IsDistinct-put_by w a bs new.1 (IsDistinct-tail eqb b bs apart)))

pub IsDistinct-by_weight : (w : ℕ → ℕ) (A : List ℕ) → IsDistinct eqb A → IsDistinct eqb (by_weight w A)
IsDistinct-by_weight w [] apart = apart
IsDistinct-by_weight w (a ∷ A) apart = IsDistinct-put_by w a (by_weight w A)
    (All-by_weight (λ y. eqb a y ≡ false) w A (IsDistinct-head eqb a A apart))
    (IsDistinct-by_weight w A (IsDistinct-tail eqb a A apart))

pub All-first : (Q : ℕ → Type 0) (r : ℕ) (A : List ℕ) → AllByRecursion Q A → AllByRecursion Q (take r A)
All-first Q zero A h = tt
All-first Q (suc r) [] h = tt
All-first Q (suc r) (a ∷ A) h = (h.0, All-first Q r A h.1)

pub IsDistinct-first : (r : ℕ) (A : List ℕ) → IsDistinct eqb A → IsDistinct eqb (take r A)
IsDistinct-first zero A apart = IsDistinct-nil
IsDistinct-first (suc r) [] apart = apart
IsDistinct-first (suc r) (a ∷ A) apart = IsDistinct-cons eqb a (take r A)
    (All-first (λ y. eqb a y ≡ false) r A (IsDistinct-head eqb a A apart)) (IsDistinct-first r A (IsDistinct-tail eqb a A apart))

pub running_sum-map : (w : ℕ → ℕ) (A : List ℕ) (r : ℕ) → running_sum (map w A) r ≡ sum_by w (take r A)
running_sum-map w A zero = refl
running_sum-map w [] (suc r) = refl
running_sum-map w (a ∷ A) (suc r) = omega (arith, running_sum-map w A r, sum_by-cons w a (take r A))

pub first-le : (s : List ℕ) (w : ℕ → ℕ) → DominatesWeights s w → (A : List ℕ) → IsDistinct eqb A → (r : ℕ) → running_sum (map w A) r ≤ running_sum s r
first-le s w dom A apart r =
    omega (arith, running_sum-map w A r, dom (take r A) (IsDistinct-first r A apart), running_sum-mono s (length (take r A)) r (omega (arith, length-take r A)))

pub sum_by-product : (v w : ℕ → ℕ) (A : List ℕ) → sum_by (λ a. v a * w a) A ≡ sum_below (λ r. get_or (map v A) r 0 * get_or (map w A) r 0) (length A)
sum_by-product v w [] = refl
sum_by-product v w (a ∷ A) = omega (arith, sum_by-product v w A, sum_by-cons (λ a. v a * w a) a A)

pub rank_product_dominates : (s t : List ℕ) (v w : ℕ → ℕ) → IsDescending t → DominatesWeights s v → DominatesWeights t w
    → DominatesWeights (rank_product s t) (λ a. v a * w a)
rank_product_dominates s t v w fall dom_v dom_w A apart =
    let n : ℕ = length A in
    let B : List ℕ = by_weight v A in
    let apart_B : IsDistinct eqb B = IsDistinct-by_weight v A apart in
    let V : ℕ → ℕ = λ r. get_or (map v B) r 0 in
    let W : ℕ → ℕ = λ r. get_or (map w B) r 0 in
    let at_s : ℕ → ℕ = λ r. get_or s r 0 in
    let at_t : ℕ → ℕ = λ r. get_or t r 0 in
    let class_is_descending : IsDescending (map v B) = rw (map-by_weight v A) (IsDescending-sorted_descending (map v A)) in
    let whole : sum_by (λ a. v a * w a) A ≡ sum_below (λ r. V r * W r) n =
    sym (sum_by-by_weight v (λ a. v a * w a) A) ∙ sum_by-product v w B ∙ ap (sum_below (λ r. V r * W r)) (length-by_weight v A) in
    let one : sum_below (λ r. V r * W r) n ≤ V 0 * 0 + sum_below (λ r. V r * at_t r) n =
    sum_below-mul-le n V W at_t 0 class_is_descending (λ r h. omega (arith, sum_below-list (map w B) r, sum_below-list t r, first-le t w dom_w B apart_B r)) in
    let turn : sum_below (λ r. V r * at_t r) n ≡ sum_below (λ r. at_t r * V r) n = sum_below-same (λ r. V r * at_t r) (λ r. at_t r * V r) n (λ r h. mul_comm (V r) (at_t r)) in
    let two : sum_below (λ r. at_t r * V r) n ≤ at_t 0 * 0 + sum_below (λ r. at_t r * at_s r) n =
    sum_below-mul-le n at_t V at_s 0 fall (λ r h. omega (arith, sum_below-list (map v B) r, sum_below-list s r, first-le s v dom_v B apart_B r)) in
    let back : sum_below (λ r. at_t r * at_s r) n ≡ sum_below (λ r. at_s r * at_t r) n = sum_below-same (λ r. at_t r * at_s r) (λ r. at_s r * at_t r) n (λ r h. mul_comm (at_t r) (at_s r)) in
    omega (arith, whole, one, turn, two, back, sum_below-product s t n)
