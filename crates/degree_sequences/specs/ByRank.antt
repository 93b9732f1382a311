-- Operations on two lists rank by rank.
use Rattle.std.specs.Prelude.{ℕ, ◌+◌, ◌*◌, max, List, [], ◌∷◌}

-- the rank-wise product: 0 past the end of either list
abbrev pub rank_product : List ℕ → List ℕ → List ℕ
rank_product [] t = []
rank_product (x ∷ s) [] = []
rank_product (x ∷ s) (y ∷ t) = x * y ∷ rank_product s t

-- the rank-wise sum
abbrev pub rank_sum : List ℕ → List ℕ → List ℕ
rank_sum [] t = t
rank_sum (x ∷ s) [] = x ∷ s
rank_sum (x ∷ s) (y ∷ t) = (x + y) ∷ rank_sum s t

-- the rank-wise maximum
abbrev pub rank_maximum : List ℕ → List ℕ → List ℕ
rank_maximum [] t = t
rank_maximum (x ∷ s) [] = x ∷ s
rank_maximum (x ∷ s) (y ∷ t) = max x y ∷ rank_maximum s t

-- the rank-wise product of s and all further lists
abbrev pub rank_product_with : List ℕ → List (List ℕ) → List ℕ
rank_product_with s [] = s
rank_product_with s (t ∷ ts) = rank_product s (rank_product_with t ts)

-- the rank-wise product of one or more lists
abbrev pub rank_product_of : List (List ℕ) → List ℕ
rank_product_of [] = []
rank_product_of (s ∷ ss) = rank_product_with s ss
