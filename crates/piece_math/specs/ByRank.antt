-- The operations on two lists rank by rank.
use Rattle.std.specs.Prelude.{ℕ, ◌+◌, ◌*◌, max, List}
use Rattle.degree_sequences.specs.ByRank.{rank_product, rank_sum, rank_maximum}
use Rattle.piece_math.specs.declared.by_rank.Combination.{Combination}
use Rattle.piece_math.specs.declared.by_rank.Combination.TheVariants.{Product, Sum, Maximum}

-- the combination of two numbers
abbrev pub combined : Combination → ℕ → ℕ → ℕ
combined Product x y = x * y
combined Sum x y = x + y
combined Maximum x y = max x y

-- the combination of two lists rank by rank
abbrev pub combined_by_rank : Combination → List ℕ → List ℕ → List ℕ
combined_by_rank Product s t = rank_product s t
combined_by_rank Sum s t = rank_sum s t
combined_by_rank Maximum s t = rank_maximum s t
