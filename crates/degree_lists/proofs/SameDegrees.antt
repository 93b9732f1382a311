-- Two lists of keys have the same degree list if each key has the same degree in both lists. The order of the keys doesn't matter.
use Rattle.std.proofs.Common.{◌≡◌, ℕ, ◌+◌, Bool, true, false, cond, not, ◌||◌, eqb, ltb, List, [], ◌∷◌, map, refl, ap, sym, ◌∙◌, arith, inl, inr}
use Rattle.std.specs.List.{filter, sum_by, IsDistinct, AllByRecursion}
use Rattle.std.specs.List.Sorted.{IsPermutation}
use Rattle.std.proofs.lemmas.List.Sums.{sum_by-cons}
use Rattle.std.proofs.lemmas.List.Sorted.{sum_by-IsPermutation}
use Rattle.std.proofs.lemmas.Bool.{cases_Bool, eqb-true, eq-eqb, ne_eqb, false≢true}
use Rattle.std.proofs.lemmas.Map.Keys.{IsDistinct-head, IsDistinct-tail}
use Rattle.degree_sequences.specs.Degrees.{degree, different, degree_list}
use Rattle.degree_sequences.proofs.Counting.{is_in, sum_by-both, sum_by-filter, sum_by-map, none_equal_kept, IsDistinct-filter, IsDistinct-different}
use Rattle.degree_sequences.proofs.Indices.{one_weight}
use Rattle.degree_sequences.proofs.DescendingOrder.{IsDescending-sorted_descending}
use Rattle.degree_lists.proofs.FallingCounts.{equal_if_same_sums, sum_by-sorted_descending}
use Rattle.degree_lists.proofs.OneMoreKey.{is_in-filtered, is_in-degree}

not_in_if_all_unequal : (x : ℕ) (D : List ℕ) → AllByRecursion (λ y. eqb x y ≡ false) D → is_in D x ≡ false
not_in_if_all_unequal x [] h = refl
not_in_if_all_unequal x (d ∷ D) h = rw h.0 (not_in_if_all_unequal x D h.1)

sum_without : (h : ℕ → ℕ) (x : ℕ) (D : List ℕ) → IsDistinct eqb D → is_in D x ≡ true → sum_by h D ≡ h x + sum_by h (filter (λ y. not (eqb y x)) D)
sum_without h x D apart inside =
    let one : sum_by (λ y. cond (eqb x y) (h y) 0) D ≡ h x = one_weight h x D apart inside in
    let both : sum_by h D ≡ sum_by (λ y. cond (eqb x y) (h y) 0) D + sum_by (λ y. cond (not (eqb y x)) (h y) 0) D =
    sum_by-both h (λ y. cond (eqb x y) (h y) 0) (λ y. cond (not (eqb y x)) (h y) 0) split D in
    omega (arith, one, both, sum_by-filter (λ y. not (eqb y x)) h D)
  where
    split : (y : ℕ) → h y ≡ cond (eqb x y) (h y) 0 + cond (not (eqb y x)) (h y) 0
    split y = elim (cases_Bool (eqb x y)) [
      | inl e ↦ (let back : eqb y x ≡ true = eq-eqb y x (sym (eqb-true x y e)) in rw (e, back) (omega arith))
      | inr e ↦ (let back : eqb y x ≡ false = ne_eqb y x (λ same. false≢true (sym e ∙ eq-eqb x y (sym same))) in rw (e, back) (omega arith))
    ]

pub same_sum_of_same_members : (h : ℕ → ℕ) (D E : List ℕ) → IsDistinct eqb D → IsDistinct eqb E → ((x : ℕ) → is_in D x ≡ is_in E x) → sum_by h D ≡ sum_by h E
same_sum_of_same_members h [] [] ad ae same = refl
same_sum_of_same_members h [] (e ∷ E) ad ae same = absurd (false≢true (same e ∙ rw (eq-eqb e e refl) refl))
same_sum_of_same_members h (d ∷ D) E ad ae same =
    let p : ℕ → Bool = λ y. not (eqb y d) in
    let there : is_in E d ≡ true = sym (same d) ∙ rw (eq-eqb d d refl) refl in
    let rest : (x : ℕ) → is_in D x ≡ is_in (filter p E) x = λ x. elim (cases_Bool (eqb x d)) [
      | inl e ↦ (let is : x ≡ d = eqb-true x d e in
          rw is (not_in_if_all_unequal d D (IsDistinct-head eqb d D ad) ∙ sym (not_in_if_all_unequal d (filter p E) (none_equal_kept d E))))
      | inr e ↦ (let passes : p x ≡ true = rw e refl in
          let here : (eqb x d || is_in D x) ≡ is_in E x = same x in
          let inner : is_in D x ≡ is_in E x = rw e at here in
          inner ∙ sym (is_in-filtered p E x passes))
    ] in
    omega (
      arith,
      sum_by-cons h d D,
      sum_without h d E ae there,
      same_sum_of_same_members h D (filter p E) (IsDistinct-tail eqb d D ad) (IsDistinct-filter p E ae) rest,
    )

pub same_degrees : (L M : List ℕ) → ((a : ℕ) → degree L a ≡ degree M a) → degree_list L ≡ degree_list M
same_degrees L M same =
    equal_if_same_sums (degree_list L) (degree_list M) (IsDescending-sorted_descending (map (degree L) (different L))) (IsDescending-sorted_descending (map (degree M) (different M)))
    (λ f. sums L f ∙ same_sum_of_same_members (λ a. f (degree L a)) (different L) (different M) (IsDistinct-different L) (IsDistinct-different M)
    (λ x. is_in-degree L x ∙ ap (ltb 0) (same x) ∙ sym (is_in-degree M x))
    ∙ along (different M) f ∙ sym (sums M f))
  where
    sums : (L : List ℕ) (f : ℕ → ℕ) → sum_by f (degree_list L) ≡ sum_by (λ a. f (degree L a)) (different L)
    sums L f = sum_by-sorted_descending f (map (degree L) (different L)) ∙ sum_by-map f (degree L) (different L)

    along : (D : List ℕ) (f : ℕ → ℕ) → sum_by (λ a. f (degree L a)) D ≡ sum_by (λ a. f (degree M a)) D
    along [] f = refl
    along (d ∷ D) f = omega (arith, sum_by-cons (λ a. f (degree L a)) d D, sum_by-cons (λ a. f (degree M a)) d D, ap f (same d), along D f)

pub degree_list-rearranged : (L M : List ℕ) → IsPermutation L M → degree_list M ≡ degree_list L
degree_list-rearranged L M moved = same_degrees M L (λ a. sum_by-IsPermutation (λ y. cond (eqb y a) 1 0) L M moved)
