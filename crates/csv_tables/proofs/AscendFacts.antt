-- If the cells of one column of a key ascend, no two rows have the same cells in the key.
use Rattle.std.proofs.Common.{◌≡◌, inl, inr, ℕ, zero, suc, ◌+◌, ◌-◌, ◌<◌, ◌≤◌, Bool, true, false, ◌&&◌, List, [], ◌∷◌, length, get_or, None, refl, sym, ap, ◌∙◌, subst, arith}
use Rattle.std.specs.Prelude.{nat_eq}
use Rattle.std.specs.List.{range_with_len}
use Rattle.std.proofs.lemmas.Bool.{cases_lt, ne_eqb}
use Rattle.std.proofs.lemmas.List.FromFn.{length-range_with_len, get_or-range_with_len}
use Rattle.std.proofs.Math.Bool.{and-false}
use Rattle.csv_tables.specs.FirstPlaces.{have_same_cells, repeat_from, IsFirst, IsRepeat}

abbrev pub Ascend : List ℕ → ℕ → Type 0
Ascend cells n = (i j : ℕ) → i < j → j < n → get_or cells i 0 < get_or cells j 0

pub ascends_more : (cells : List ℕ) (at : ℕ) → 1 ≤ at → get_or cells (at - 1) 0 < get_or cells at 0 → Ascend cells at → Ascend cells (at + 1)
ascends_more cells at some more so_far i j l m = elim (cases_lt j at) [
  | inl lt ↦ so_far i j l lt
  | inr ge ↦
      let e : j ≡ at = omega (arith, m, ge) in
      let here : get_or cells i 0 < get_or cells at 0 = elim (cases_lt i (at - 1)) [
        | inl lt ↦ omega (arith, so_far i (at - 1) lt (omega (arith, some)), more)
        | inr after ↦ let f : i ≡ at - 1 = omega (arith, after, l, e) in subst (λ n. get_or cells n 0 < get_or cells at 0) (sym f) more
      ] in subst (λ n. get_or cells i 0 < get_or cells n 0) (sym e) here
]

abbrev same_in : List (List ℕ) → ℕ → ℕ → ℕ → Bool
same_in columns column i j = nat_eq (get_or (get_or columns column []) i 0) (get_or (get_or columns column []) j 0)

pub apart : (columns : List (List ℕ)) (key : List ℕ) (at column i j : ℕ) → at < length key → column ≡ get_or key at 0 → same_in columns column i j ≡ false → have_same_cells columns key i j ≡ false
apart columns [] at column i j l c other = absurd (omega (arith, l))
apart columns (k ∷ key) zero column i j l c other = ap (λ b. b && have_same_cells columns key i j) (ap (λ n. same_in columns n i j) (sym c) ∙ other)
apart columns (k ∷ key) (suc at) column i j l c other =
    ap (λ b. same_in columns k i j && b) (apart columns key at column i j (omega (arith, l)) c other) ∙ and-false (same_in columns k i j)

pub ascending_apart : (columns : List (List ℕ)) (key cells : List ℕ) (at column rows : ℕ) → at < length key → column ≡ get_or key at 0 → cells ≡ get_or columns column []
    → length cells ≡ rows → Ascend cells (length cells) → (i j : ℕ) → j < i → i < rows → have_same_cells columns key i j ≡ false
ascending_apart columns key cells at column rows l c is lengths up i j m n =
    let less : get_or cells j 0 < get_or cells i 0 = up j i m (omega (arith, lengths, n)) in
    let ne : get_or cells i 0 ≡ get_or cells j 0 → ⊥ = λ e. omega (arith, e, less) in
    apart columns key at column i j l c (ap (λ xs. nat_eq (get_or xs i 0) (get_or xs j 0)) (sym is) ∙ ne_eqb (get_or cells i 0) (get_or cells j 0) ne)

same_itself : (n : ℕ) → nat_eq n n ≡ true
same_itself n = grind arith

cells_themselves : (columns : List (List ℕ)) (key : List ℕ) (i : ℕ) → have_same_cells columns key i i ≡ true
cells_themselves columns [] i = refl
cells_themselves columns (k ∷ key) i =
    ap (λ b. b && have_same_cells columns key i i) (same_itself (get_or (get_or columns k []) i 0)) ∙ cells_themselves columns key i

no_repeat : (at n : ℕ) → repeat_from at (range_with_len at n) ≡ None
no_repeat at zero = refl
no_repeat at (suc n) = rw (same_itself at) (no_repeat (at + 1) n)

pub none_repeats : (columns : List (List ℕ)) (key : List ℕ) (rows : ℕ) → ((i j : ℕ) → j < i → i < rows → have_same_cells columns key i j ≡ false) → IsRepeat columns key rows None
none_repeats columns key rows differ = record {
  first_places = range_with_len 0 rows;
  lengths = length-range_with_len 0 rows;
  firsts = λ i l.
      let within : i < rows = omega (arith, l, length-range_with_len 0 rows) in
      let here : get_or (range_with_len 0 rows) i 0 ≡ i = let e = get_or-range_with_len 0 rows i 0 within in omega (arith, e) in
      subst (IsFirst (have_same_cells columns key) i) (sym here)
      (record { at_most = omega arith; same = cells_themselves columns key i; least = λ j m. differ i j m within });
  found_is = sym (no_repeat 0 rows);
}
