-- Which values are in a list, and which keys the rows with a value have.
use Rattle.std.proofs.Common.{◌≡◌, ℕ, ◌<◌, ◌≤◌, Bool, true, false, cond, ◌||◌, eqb, List, [], ◌∷◌, ◌++◌, length, refl, ap, sym, ◌∙◌, arith, inl, inr}
use Rattle.std.specs.List.{list_any, count_by}
use Rattle.std.proofs.lemmas.Bool.{cases_Bool, cond_both, eqb-true, eq-eqb, ne_eqb, false≢true, or_cases, lt-ltb}
use Rattle.std.proofs.lemmas.List.{take-append-drop}
use Rattle.std.proofs.lemmas.List.Folds.{list_any-append}
use Rattle.std.proofs.lemmas.List.Sums.{sum_by-cons}
use Rattle.degree_sequences.specs.Degrees.{degree, different}
use Rattle.degree_sequences.proofs.Counting.{is_in}
use Rattle.degree_lists.proofs.OneMoreKey.{is_in-degree}
use Rattle.cond_stats.specs.Frequency.{comes_before, by_frequency, frequent, remaining}
use Rattle.cond_stats.specs.Leaves.{put_in_order, in_order}
use Rattle.cond_stats.specs.Rows.{filter_values, keys_where}

pub eqb-sym : (x y : ℕ) → eqb x y ≡ eqb y x
eqb-sym x y = elim (cases_Bool (eqb x y)) [
  | inl e ↦ e ∙ sym (eq-eqb y x (sym (eqb-true x y e)))
  | inr e ↦ e ∙ sym (ne_eqb y x (λ same. false≢true (sym e ∙ eq-eqb x y (sym same))))
]

pub any-is_in : (D : List ℕ) (x : ℕ) → list_any (λ other. eqb other x) D ≡ is_in D x
any-is_in [] x = refl
any-is_in (d ∷ D) x = rw (eqb-sym d x, any-is_in D x) refl

pub is_in-append : (s t : List ℕ) (x : ℕ) → is_in (s ++ t) x ≡ (is_in s x || is_in t x)
is_in-append s t x = list_any-append (λ d. eqb x d) s t

is_in-put : (le : ℕ → ℕ → Bool) (v : ℕ) (s : List ℕ) (x : ℕ) → is_in (put_in_order le v s) x ≡ (eqb x v || is_in s x)
is_in-put le v [] x = refl
is_in-put le v (w ∷ s) x = cond_both (le v w) (v ∷ (w ∷ s)) (w ∷ put_in_order le v s) (λ t. is_in t x ≡ (eqb x v || is_in (w ∷ s) x))
    (λ e. refl) (λ e. rw (is_in-put le v s x) (swapped (eqb x w) (eqb x v) (is_in s x)))
  where
    swapped : (a b c : Bool) → (a || (b || c)) ≡ (b || (a || c))
    swapped true true c = refl
    swapped true false c = refl
    swapped false b c = refl

pub is_in-in_order : (le : ℕ → ℕ → Bool) (s : List ℕ) (x : ℕ) → is_in (in_order le s) x ≡ is_in s x
is_in-in_order le [] x = refl
is_in-in_order le (v ∷ s) x = is_in-put le v (in_order le s) x ∙ ap (λ b. eqb x v || b) (is_in-in_order le s x)

pub frequent_or_remaining : (column : List ℕ) (x : ℕ) → 0 < degree column x → list_any (λ other. eqb other x) (frequent column) ≡ false → is_in (remaining column) x ≡ true
frequent_or_remaining column x some not_frequent =
    let all : List ℕ = by_frequency column in
    let inside : is_in all x ≡ true = is_in-in_order (comes_before column) (different column) x ∙ is_in-degree column x ∙ lt-ltb 0 (degree column x) some in
    let parts : (is_in (frequent column) x || is_in (remaining column) x) ≡ true = sym (is_in-append (frequent column) (remaining column) x) ∙ ap (λ s. is_in s x) (take-append-drop 32 all) ∙ inside in
    elim (or_cases (is_in (frequent column) x) (is_in (remaining column) x) parts) [
      | inl h ↦ absurd (false≢true (sym not_frequent ∙ any-is_in (frequent column) x ∙ h))
      | inr h ↦ h
    ]

pub length-keys_where : (p : ℕ → Bool) (rows : List (ℕ × ℕ)) → length (keys_where p rows) ≡ count_by p (filter_values rows)
length-keys_where p [] = refl
length-keys_where p (row ∷ rows) = elim (cases_Bool (p row.0)) [
  | inl e ↦ (let one : cond {A = ℕ} (p row.0) 1 0 ≡ 1 = rw e refl in
      let here : keys_where p (row ∷ rows) ≡ row.1 ∷ keys_where p rows = rw e refl in
      omega (arith, one, ap length here, length-keys_where p rows, sum_by-cons (λ v. cond (p v) 1 0) row.0 (filter_values rows)))
  | inr e ↦ (let none : cond {A = ℕ} (p row.0) 1 0 ≡ 0 = rw e refl in
      let here : keys_where p (row ∷ rows) ≡ keys_where p rows = rw e refl in
      omega (arith, none, ap length here, length-keys_where p rows, sum_by-cons (λ v. cond (p v) 1 0) row.0 (filter_values rows)))
]

pub count_by-weaker : (A : ℕ → Bool) (p q : ℕ → Bool) → ((v : ℕ) → p v ≡ true → q v ≡ true) → (rows : List (ℕ × ℕ)) → count_by A (keys_where p rows) ≤ count_by A (keys_where q rows)
count_by-weaker A p q weaker [] = omega arith
count_by-weaker A p q weaker (row ∷ rows) =
    let ih : count_by A (keys_where p rows) ≤ count_by A (keys_where q rows) = count_by-weaker A p q weaker rows in
    elim (cases_Bool (p row.0)) [
      | inl e ↦ (let passes : q row.0 ≡ true = weaker row.0 e in
          let here : keys_where p (row ∷ rows) ≡ row.1 ∷ keys_where p rows = rw e refl in
          let there : keys_where q (row ∷ rows) ≡ row.1 ∷ keys_where q rows = rw passes refl in
          omega (arith, ih, ap (count_by A) here, ap (count_by A) there, sum_by-cons (λ k. cond (A k) 1 0) row.1 (keys_where p rows), sum_by-cons (λ k. cond (A k) 1 0) row.1 (keys_where q rows)))
      | inr e ↦ (let here : keys_where p (row ∷ rows) ≡ keys_where p rows = rw e refl in
          let more : count_by A (keys_where q rows) ≤ count_by A (keys_where q (row ∷ rows)) = elim (cases_Bool (q row.0)) [
            | inl f ↦ (let there : keys_where q (row ∷ rows) ≡ row.1 ∷ keys_where q rows = rw f refl in
                omega (arith, ap (count_by A) there, sum_by-cons (λ k. cond (A k) 1 0) row.1 (keys_where q rows)))
            | inr f ↦ (let there : keys_where q (row ∷ rows) ≡ keys_where q rows = rw f refl in omega (arith, ap (count_by A) there))
          ] in
          omega (arith, ih, more, ap (count_by A) here))
    ]
