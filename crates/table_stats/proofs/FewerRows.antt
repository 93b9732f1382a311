-- Suppose that each row that passes test p passes test q too. Then any given keys have at most as many rows that pass p as rows that pass q.
use Rattle.std.proofs.Common.{◌≡◌, ℕ, zero, suc, ◌+◌, ◌<◌, ◌≤◌, Bool, true, cond, List, [], ◌∷◌, map, arith, inl, inr}
use Rattle.std.specs.List.{AllByRecursion, count_by, filter, range_with_len}
use Rattle.std.proofs.lemmas.Bool.{cases_Bool}
use Rattle.std.proofs.lemmas.List.Sums.{sum_by-cons}
use Rattle.degree_sequences.specs.Domination.{DominatesKeys}
use Rattle.degree_sequences.proofs.Counting.{is_in}

module _ (key : ℕ → ℕ) (p q : ℕ → Bool) where
  abbrev pub PassesBoth : ℕ → Type 0
  PassesBoth row = p row ≡ true → q row ≡ true

  fewer_counted : (counted : ℕ → Bool) (rows : List ℕ) → AllByRecursion PassesBoth rows
      → count_by counted (map key (filter p rows)) ≤ count_by counted (map key (filter q rows))
  fewer_counted counted [] all = omega arith
  fewer_counted counted (row ∷ rows) all =
      let rest : count_by counted (map key (filter p rows)) ≤ count_by counted (map key (filter q rows)) = fewer_counted counted rows all.1 in
      let more : (kept : List ℕ) → count_by counted (key row ∷ kept) ≡ cond (counted (key row)) 1 0 + count_by counted kept =
      λ kept. sum_by-cons (λ k. cond (counted k) 1 0) (key row) kept in
      elim (cases_Bool (p row)) [
        | inl t ↦ rw (t, all.0 t) (omega (arith, rest, more (map key (filter p rows)), more (map key (filter q rows))))
        | inr n ↦ elim (cases_Bool (q row)) [
          | inl u ↦ rw (n, u) (omega (arith, rest, more (map key (filter q rows))))
          | inr m ↦ rw (n, m) rest
        ]
      ]

  pub fewer_dominated : (s rows : List ℕ) → AllByRecursion PassesBoth rows → DominatesKeys s (map key (filter q rows)) → DominatesKeys s (map key (filter p rows))
  fewer_dominated s rows all dominates picked apart = omega (arith, fewer_counted (is_in picked) rows all, dominates picked apart)

pub all_in_range : (Q : ℕ → Type 0) (first count : ℕ) → ((x : ℕ) → x < first + count → Q x) → AllByRecursion Q (range_with_len first count)
all_in_range Q first zero h = tt
all_in_range Q first (suc count) h = (h first (omega arith), all_in_range Q (first + 1) count (λ x is_below. h x (omega arith)))
