-- `numbers_where` lists a number exactly if the conjunct with this number passes the test.
use Rattle.std.proofs.Common.{◌≡◌, ◌⊎◌, ℕ, zero, suc, ◌+◌, ◌-◌, ◌<◌, ◌≤◌, Bool, IsTrue, List, [], ◌∷◌, length, get_or, refl, subst, inl, inr, arith}
use Rattle.std.specs.Prelude.{IsSomeAnd, slice_get}
use Rattle.std.specs.List.{Contains}
use Rattle.std.proofs.lemmas.Bool.{cases_Bool}
use Rattle.query_types.specs.declared.types.Cond.{Cond}
use Rattle.join_graph.specs.Conjuncts.{numbers_where}

first_or_later : (x y : ℕ) (xs : List ℕ) (k : ℕ) → k < length (x ∷ xs) → get_or (x ∷ xs) k y ≡ y → (x ≡ y) ⊎ Contains xs y
first_or_later x y xs zero h e = inl e
first_or_later x y xs (suc k) h e = inr (k, omega arith, e)

contains_later : (x y : ℕ) (xs : List ℕ) → Contains xs y → Contains (x ∷ xs) y
contains_later x y xs c = let h : c.0 < length xs = c.1 in (suc c.0, omega arith, c.2)

abbrev PassesAt : (Cond → Bool) → List Cond → ℕ → Type 0
PassesAt test conds k = IsSomeAnd (slice_get conds k) (λ cond. IsTrue (test cond))

passes_from : (test : Cond → Bool) (first n : ℕ) (conds : List Cond) → Contains (numbers_where test first conds) n → (first ≤ n) × PassesAt test conds (n - first)
passes_from test first n [] c = absurd (let h : c.0 < 0 = c.1 in omega arith)
passes_from test first n (cond ∷ conds) c = elim (cases_Bool (test cond)) [
  | inl t ↦ (let listed : Contains (first ∷ numbers_where test (first + 1) conds) n = rw t at c in
      elim (first_or_later first n (numbers_where test (first + 1) conds) listed.0 listed.1 listed.2) [
        | inl e ↦ (omega arith, let none : n - first ≡ 0 = omega arith in rw none t)
        | inr rest ↦ behind (passes_from test (first + 1) n conds rest)
      ])
  | inr f ↦ behind (passes_from test (first + 1) n conds (rw f at c))
]
  where
    behind : (first + 1 ≤ n) × PassesAt test conds (n - (first + 1)) → (first ≤ n) × PassesAt test (cond ∷ conds) (n - first)
    behind r =
        let low : first + 1 ≤ n = r.0 in
        let more : n - first ≡ suc (n - (first + 1)) = omega arith in
        (omega arith, rw more r.1)

pub number_passes : (test : Cond → Bool) (conds : List Cond) (k : ℕ) → Contains (numbers_where test 0 conds) k → PassesAt test conds k
number_passes test conds k c = let none : k - 0 ≡ k = omega arith in subst (PassesAt test conds) none (passes_from test 0 k conds c).1

numbered_from : (test : Cond → Bool) (first k : ℕ) (conds : List Cond) → PassesAt test conds k → Contains (numbers_where test first conds) (first + k)
numbered_from test first k [] p = absurd p
numbered_from test first zero (cond ∷ conds) p =
    let none : first + 0 ≡ first = omega arith in
    let front : Contains (first ∷ numbers_where test (first + 1) conds) first = (0, omega arith, refl) in
    rw (none, p) front
numbered_from test first (suc k) (cond ∷ conds) p =
    let more : first + suc k ≡ first + 1 + k = omega arith in
    let rest : Contains (numbers_where test (first + 1) conds) (first + 1 + k) = numbered_from test (first + 1) k conds p in
    rw more (elim (cases_Bool (test cond)) [
      | inl t ↦ rw t (contains_later first (first + 1 + k) (numbers_where test (first + 1) conds) rest)
      | inr f ↦ rw f rest
    ])

pub passing_is_numbered : (test : Cond → Bool) (conds : List Cond) (k : ℕ) → PassesAt test conds k → Contains (numbers_where test 0 conds) k
passing_is_numbered test conds k p = let none : 0 + k ≡ k = omega arith in subst (Contains (numbers_where test 0 conds)) none (numbered_from test 0 k conds p)
