-- The lengths of the runs of equal neighbours in an ascending list of keys are the degrees of the different keys.
use Rattle.std.proofs.Common.{◌≡◌, ℕ, zero, suc, ◌+◌, ◌-◌, ◌<◌, ◌≤◌, false, cond, eqb, List, [], ◌∷◌, ◌++◌, map, length, get_or, take, replicate, refl, ap, sym, ◌∙◌, subst, arith, length-take, append_assoc, add-one, inl, inr}
use Rattle.std.specs.List.Sorted.{IsNonDecreasing}
use Rattle.std.proofs.lemmas.List.{take_more, get_or-take, replicate_more, append-nil, take_all}
use Rattle.std.proofs.lemmas.List.Sums.{sum_by-cons}
use Rattle.std.proofs.lemmas.Bool.{ne_eqb, cases_lt}
use Rattle.degree_sequences.specs.Degrees.{degree, different}
use Rattle.degree_lists.proofs.OneMoreKey.{run_added}

-- `lengths` has the lengths of all runs among the first `i - run` keys. The next `run` keys are equal to the key at index i
pub record AreLengths (sorted lengths : List ℕ) (run i : ℕ) : Type 0 where
  pub within : run ≤ i
  pub more : 0 < run → i < length sorted
  pub done : lengths ≡ map (degree (take (i - run) sorted)) (different (take (i - run) sorted))
  pub alike : (k : ℕ) → i - run ≤ k → k < i → get_or sorted k 0 ≡ get_or sorted i 0
  pub below : (k : ℕ) → k < i - run → i < length sorted → get_or sorted k 0 < get_or sorted (i - run) 0

pub no_runs_yet : (sorted : List ℕ) → AreLengths sorted [] 0 0
no_runs_yet sorted = record {
  within = omega arith;
  more = λ some. absurd (omega arith);
  done = refl;
  alike = λ k low high. absurd (omega arith);
  below = λ k low high. absurd (omega arith);
}

pub run_goes_on : (sorted lengths : List ℕ) (run i : ℕ) → AreLengths sorted lengths run i → i + 1 < length sorted → get_or sorted (i + 1) 0 ≡ get_or sorted i 0
    → AreLengths sorted lengths (run + 1) (i + 1)
run_goes_on sorted lengths run i are room same =
    let from : (i + 1) - (run + 1) ≡ i - run = omega arith in
    record {
      within = omega (arith, are.within);
      more = λ some. room;
      done = subst (λ b. lengths ≡ map (degree (take b sorted)) (different (take b sorted))) (sym from) are.done;
      alike = λ k low high. elim (cases_lt k i) [
        | inl h ↦ are.alike k (omega arith) h ∙ sym same
        | inr h ↦ (let here : k ≡ i = omega arith in ap (λ j. get_or sorted j 0) here ∙ sym same)
      ];
      below = λ k low high. subst (λ b. get_or sorted k 0 < get_or sorted b 0) (sym from) (are.below k (omega arith) (omega arith));
    }

pub degree-above : (s : List ℕ) (x : ℕ) → ((k : ℕ) → k < length s → get_or s k 0 < x) → degree s x ≡ 0
degree-above [] x above = refl
degree-above (y ∷ s) x above =
    let first : y < x = above 0 (omega arith) in
    let differs : eqb y x ≡ false = ne_eqb y x (λ same. omega (arith, same, first)) in
    let none : cond {A = ℕ} (eqb y x) 1 0 ≡ 0 = rw differs refl in
    omega (arith, none, sum_by-cons (λ z. cond (eqb z x) 1 0) y s, degree-above s x (λ k within. above (suc k) (omega arith)))

pub take-run : (s : List ℕ) (x b n : ℕ) → b + n ≤ length s → ((k : ℕ) → b ≤ k → k < b + n → get_or s k 0 ≡ x) → take (b + n) s ≡ take b s ++ replicate n x
take-run s x b zero room alike = ap (λ m. take m s) (omega arith) ∙ sym (append-nil (take b s))
take-run s x b (suc n) room alike =
    let last : b + n < length s = omega arith in
    let shorter : take (b + n) s ≡ take b s ++ replicate n x = take-run s x b n (omega arith) (λ k low high. alike k low (omega arith)) in
    ap (λ m. take m s) (omega arith)
    ∙ take_more s (b + n) 0 last
    ∙ ap (λ t. t ++ get_or s (b + n) 0 ∷ []) shorter
    ∙ ap (λ y. (take b s ++ replicate n x) ++ y ∷ []) (alike (b + n) (omega arith) (omega arith))
    ∙ append_assoc (take b s) (replicate n x) (x ∷ [])
    ∙ ap (λ t. take b s ++ t) (replicate_more n x ∙ ap (λ m. replicate m x) (add-one n))

pub run_ends : (sorted lengths : List ℕ) (run i : ℕ) → IsNonDecreasing sorted → AreLengths sorted lengths run i → i < length sorted
    → (i + 1 < length sorted → get_or sorted (i + 1) 0 ≡ get_or sorted i 0 → ⊥)
    → AreLengths sorted (lengths ++ (run + 1) ∷ []) 0 (i + 1)
run_ends sorted lengths run i up are within differs =
    let b : ℕ = i - run in
    let x : ℕ = get_or sorted i 0 in
    let alike : (k : ℕ) → b ≤ k → k < b + (run + 1) → get_or sorted k 0 ≡ x = λ k low high. elim (cases_lt k i) [
      | inl h ↦ are.alike k low h
      | inr h ↦ (let here : k ≡ i = omega (arith, are.within) in ap (λ j. get_or sorted j 0) here)
    ] in
    let whole : take (b + (run + 1)) sorted ≡ take b sorted ++ replicate (run + 1) x = take-run sorted x b (run + 1) (omega (arith, are.within)) alike in
    let ends : (i + 1) - 0 ≡ b + (run + 1) = omega (arith, are.within) in
    let first : get_or sorted b 0 ≡ x = alike b (omega arith) (omega arith) in
    let fresh : degree (take b sorted) x ≡ 0 = degree-above (take b sorted) x
    (λ k low. let there : k < b = omega (arith, length-take b sorted) in
    omega (arith, get_or-take b sorted k 0 there, first, are.below k there within)) in
    let done : map (degree (take b sorted ++ replicate (run + 1) x)) (different (take b sorted ++ replicate (run + 1) x)) ≡ lengths ++ (run + 1) ∷ [] =
    run_added (take b sorted) (run + 1) x (omega arith) fresh ∙ ap (λ s. s ++ (run + 1) ∷ []) (sym are.done) in
    record {
      within = omega arith;
      more = λ some. absurd (omega arith);
      done = sym (ap (λ t. map (degree t) (different t)) (ap (λ m. take m sorted) ends ∙ whole) ∙ done);
      alike = λ k low high. absurd (omega arith);
      below = λ k low high.
          (let next : k < i + 1 = omega arith in
          let other : get_or sorted i 0 < get_or sorted (i + 1) 0 = less i high (differs high) in
          let at : get_or sorted ((i + 1) - 0) 0 ≡ get_or sorted (i + 1) 0 = ap (λ m. get_or sorted m 0) (omega arith) in
          omega (arith, other, at, up k i 0 (omega arith) within));
    }
  where
    less : (i : ℕ) → i + 1 < length sorted → (get_or sorted (i + 1) 0 ≡ get_or sorted i 0 → ⊥) → get_or sorted i 0 < get_or sorted (i + 1) 0
    less i room differs = elim (cases_lt (get_or sorted i 0) (get_or sorted (i + 1) 0)) [
      | inl h ↦ h
      | inr h ↦ absurd (differs (omega (arith, h, up i (i + 1) 0 (omega arith) room)))
    ]

pub all_lengths : (sorted lengths : List ℕ) (run i : ℕ) → AreLengths sorted lengths run i → length sorted ≤ i
    → lengths ≡ map (degree sorted) (different sorted)
all_lengths sorted lengths run i are end =
    let none : run ≡ 0 = elim (cases_lt 0 run) [ inl h ↦ absurd (omega (arith, are.more h)) | inr h ↦ omega arith ] in
    let whole : take (i - run) sorted ≡ sorted = take_all (i - run) sorted (omega arith) in
    are.done ∙ ap (λ t. map (degree t) (different t)) whole
