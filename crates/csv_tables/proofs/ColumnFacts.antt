-- Steps of the loop that adds the cells of a row to the columns.
use Rattle.std.proofs.Common.{◌≡◌, ℕ, zero, suc, ◌+◌, ◌<◌, List, [], ◌∷◌, ◌++◌, length, take, drop, get_or, set, refl, sym, ap, ◌∙◌, arith, add-one}
use Rattle.csv_tables.specs.Reads.{add_row}

-- the first `at` cells of a row are appended, each to its column
abbrev pub row_begun : List (List ℕ) → List ℕ → ℕ → List (List ℕ)
row_begun columns cells at = add_row (take at columns) (take at cells) ++ drop at columns

pub row_begun-at : (columns : List (List ℕ)) (cells : List ℕ) (at : ℕ) (d : List ℕ) → at < length columns → at < length cells
    → get_or (row_begun columns cells at) at d ≡ get_or columns at d
row_begun-at [] cells at d l m = absurd (omega (arith, l))
row_begun-at (c ∷ cs) [] at d l m = absurd (omega (arith, m))
row_begun-at (c ∷ cs) (x ∷ xs) zero d l m = refl
row_begun-at (c ∷ cs) (x ∷ xs) (suc at) d l m = row_begun-at cs xs at d (omega (arith, l)) (omega (arith, m))

row_begun-suc : (columns : List (List ℕ)) (cells : List ℕ) (at : ℕ) (d : List ℕ) → at < length columns → at < length cells
    → set (row_begun columns cells at) at (get_or columns at d ++ get_or cells at 0 ∷ []) ≡ row_begun columns cells (suc at)
row_begun-suc [] cells at d l m = absurd (omega (arith, l))
row_begun-suc (c ∷ cs) [] at d l m = absurd (omega (arith, m))
row_begun-suc (c ∷ cs) (x ∷ xs) zero d l m = refl
row_begun-suc (c ∷ cs) (x ∷ xs) (suc at) d l m = ap (λ rest. (c ++ x ∷ []) ∷ rest) (row_begun-suc cs xs at d (omega (arith, l)) (omega (arith, m)))

pub row_begun-more : (old columns : List (List ℕ)) (cells : List ℕ) (at : ℕ) (column new : List ℕ) → at < length old → at < length cells
    → columns ≡ row_begun old cells at → column ≡ get_or columns at column → new ≡ column ++ get_or cells at 0 ∷ []
    → set columns at new ≡ row_begun old cells (at + 1)
row_begun-more old columns cells at column new l m e c n =
    let is : column ≡ get_or old at column = c ∙ ap (λ cs. get_or cs at column) e ∙ row_begun-at old cells at column l m in
    ap (λ cs. set cs at new) e ∙ ap (λ v. set (row_begun old cells at) at v) (n ∙ ap (λ v. v ++ get_or cells at 0 ∷ []) is)
    ∙ row_begun-suc old cells at column l m ∙ ap (row_begun old cells) (sym (add-one at))
