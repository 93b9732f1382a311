-- A window is a stretch of `places` that has exactly the rows whose value passes a test. So a key has the same degree in the window as among all rows
-- whose value passes.
use Rattle.std.proofs.Common.{◌≡◌, ℕ, zero, suc, ◌+◌, ◌<◌, ◌≤◌, Bool, true, false, cond, ◌&&◌, eqb, List, [], ◌∷◌, map, length, length-take, length-drop, take, drop, get_or, refl, ap, sym, ◌∙◌, arith, inl, inr}
use Rattle.std.specs.List.{sum_by, count_by, range_with_len, zip}
use Rattle.std.specs.List.Sorted.{IsPermutation}
use Rattle.std.proofs.lemmas.Bool.{cases_Bool}
use Rattle.std.proofs.lemmas.List.Sums.{sum_by-cons}
use Rattle.std.proofs.lemmas.List.Sorted.{sum_by-IsPermutation}
use Rattle.std.proofs.Math.Bool.{and-true}
use Rattle.degree_sequences.specs.Degrees.{degree, degree_list}
use Rattle.degree_sequences.proofs.Counting.{sum_by-same, all-count}
use Rattle.degree_sequences.proofs.Indices.{sum_by-shift, sum_by-places}
use Rattle.degree_lists.proofs.SameDegrees.{same_degrees}
use Rattle.cond_stats.specs.Rows.{keys_where}
use Rattle.cond_stats.specs.Windows.{IsWindow}

-- this is 1 if the test passes, otherwise 0
abbrev pub if_true : Bool → ℕ
if_true b = cond b 1 0

none_counted : (xs : List ℕ) (p q : ℕ → Bool) → ((i : ℕ) → i < length xs → p (get_or xs i 0) ≡ false) → sum_by (λ x. if_true (p x && q x)) xs ≡ 0
none_counted [] p q none = refl
none_counted (x ∷ xs) p q none =
    let here : if_true (p x && q x) ≡ 0 = rw (none 0 (omega arith)) refl in
    omega (arith, here, sum_by-cons (λ y. if_true (p y && q y)) x xs, none_counted xs p q (λ i h. none (suc i) (omega arith)))

pub counted_within : (xs : List ℕ) (from count : ℕ) (p q : ℕ → Bool) → from + count ≤ length xs
    → ((i : ℕ) → from ≤ i → i < from + count → p (get_or xs i 0) ≡ true)
    → ((i : ℕ) → i < from → p (get_or xs i 0) ≡ false)
    → ((i : ℕ) → from + count ≤ i → i < length xs → p (get_or xs i 0) ≡ false)
    → sum_by (λ x. if_true (p x && q x)) xs ≡ sum_by (λ x. if_true (q x)) (take count (drop from xs))
counted_within [] zero zero p q ends inside before after = refl
counted_within [] zero (suc count) p q ends inside before after = absurd (omega arith)
counted_within [] (suc from) count p q ends inside before after = absurd (omega arith)
counted_within (x ∷ xs) zero zero p q ends inside before after = none_counted (x ∷ xs) p q (λ i h. after i (omega arith) h)
counted_within (x ∷ xs) zero (suc count) p q ends inside before after =
    let here : if_true (p x && q x) ≡ if_true (q x) = rw (inside 0 (omega arith) (omega arith)) refl in
    omega (
      arith,
      here,
      sum_by-cons (λ y. if_true (p y && q y)) x xs,
      sum_by-cons (λ y. if_true (q y)) x (take count xs),
      counted_within xs zero count p q (omega arith) (λ i low high. inside (suc i) (omega arith) (omega arith)) (λ i low. absurd (omega arith)) (λ i low high. after (suc i) (omega arith) (omega arith)),
    )
counted_within (x ∷ xs) (suc from) count p q ends inside before after =
    let here : if_true (p x && q x) ≡ 0 = rw (before 0 (omega arith)) refl in
    omega (
      arith,
      here,
      sum_by-cons (λ y. if_true (p y && q y)) x xs,
      counted_within xs from count p q (omega arith) (λ i low high. inside (suc i) (omega arith) (omega arith)) (λ i low. before (suc i) (omega arith)) (λ i low high. after (suc i) (omega arith) (omega arith)),
    )

pub degree-map : (f : ℕ → ℕ) (a : ℕ) (xs : List ℕ) → degree (map f xs) a ≡ sum_by (λ x. if_true (eqb (f x) a)) xs
degree-map f a [] = refl
degree-map f a (x ∷ xs) = omega (arith, degree-map f a xs, sum_by-cons (λ y. if_true (eqb y a)) (f x) (map f xs), sum_by-cons (λ y. if_true (eqb (f y) a)) x xs)

degree-keys_where : (p : ℕ → Bool) (a : ℕ) (column joined : List ℕ) → length column ≡ length joined
    → degree (keys_where p (zip column joined)) a ≡ sum_by (λ i. if_true (p (get_or column i 0) && eqb (get_or joined i 0) a)) (range_with_len 0 (length column))
degree-keys_where p a [] joined same = refl
degree-keys_where p a (v ∷ vs) [] same = absurd (omega arith)
degree-keys_where p a (v ∷ vs) (k ∷ ks) same =
    let h : ℕ → ℕ = λ i. if_true (p (get_or (v ∷ vs) i 0) && eqb (get_or (k ∷ ks) i 0) a) in
    let ih : degree (keys_where p (zip vs ks)) a ≡ sum_by (λ i. h (suc i)) (range_with_len 0 (length vs)) = degree-keys_where p a vs ks (omega arith) in
    let rest : sum_by h (range_with_len 0 (length (v ∷ vs))) ≡ h 0 + degree (keys_where p (zip vs ks)) a =
    omega (arith, ih, sum_by-cons h 0 (range_with_len 1 (length vs)), sum_by-shift h 0 (length vs)) in
    elim (cases_Bool (p v)) [
      | inl e ↦ (let here : keys_where p ((v, k) ∷ zip vs ks) ≡ k ∷ keys_where p (zip vs ks) = rw e refl in
          let first : h 0 ≡ if_true (eqb k a) = rw e refl in
          omega (arith, rest, first, ap (λ s. degree s a) here, sum_by-cons (λ y. if_true (eqb y a)) k (keys_where p (zip vs ks))))
      | inr e ↦ (let here : keys_where p ((v, k) ∷ zip vs ks) ≡ keys_where p (zip vs ks) = rw e refl in
          let first : h 0 ≡ 0 = rw e refl in
          omega (arith, rest, first, ap (λ s. degree s a) here))
    ]

abbrev pub keys_in : List ℕ → List ℕ → ℕ → ℕ → List ℕ
keys_in joined places from count = map (λ place. get_or joined place 0) (take count (drop from places))

pub window_degrees : (column joined places : List ℕ) (p : ℕ → Bool) (from count : ℕ) → length joined ≡ length column → IsPermutation (range_with_len 0 (length column)) places
    → IsWindow column places p from count → degree_list (keys_in joined places from count) ≡ degree_list (keys_where p (zip column joined))
window_degrees column joined places p from count same moved window = same_degrees (keys_in joined places from count) (keys_where p (zip column joined))
    (λ a. degree-map (λ place. get_or joined place 0) a (take count (drop from places))
    ∙ sym (counted_within places from count (λ i. p (get_or column i 0)) (λ i. eqb (get_or joined i 0) a) window.ends window.inside window.before window.after)
    ∙ sum_by-IsPermutation (λ i. if_true (p (get_or column i 0) && eqb (get_or joined i 0) a)) (range_with_len 0 (length column)) places moved
    ∙ sym (degree-keys_where p a column joined (sym same)))

pub window_count : (column places : List ℕ) (p : ℕ → Bool) (from count : ℕ) → IsPermutation (range_with_len 0 (length column)) places
    → IsWindow column places p from count → count ≡ count_by p column
window_count column places p from count moved window =
    let h : ℕ → ℕ = λ i. if_true (p (get_or column i 0)) in
    let inner : List ℕ = take count (drop from places) in
    let lengths : length inner ≡ count = omega (arith, window.ends, length-take count (drop from places), length-drop from places) in
    let counted : sum_by (λ x. if_true (p (get_or column x 0) && true)) places ≡ sum_by (λ x. if_true true) inner =
    counted_within places from count (λ i. p (get_or column i 0)) (λ i. true) window.ends window.inside window.before window.after in
    sym lengths ∙ sym (all-count inner) ∙ sym counted
    ∙ sum_by-same (λ x. if_true (p (get_or column x 0) && true)) h (λ x. ap if_true (and-true (p (get_or column x 0)))) places
    ∙ sum_by-IsPermutation h (range_with_len 0 (length column)) places moved
    ∙ sym (sum_by-places (λ v. if_true (p v)) column)
