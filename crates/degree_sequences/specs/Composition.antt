-- Composition: a table's list for its parent column, made from the lists of its columns and of its children.
use Rattle.std.specs.Prelude.{ℕ, ◌-◌, ◌*◌, List, [], ◌∷◌, map, drop, slice_index}
use Rattle.std.specs.List.{sum, range_with_len}
use Rattle.degree_sequences.specs.Descending.{trimmed}
use Rattle.degree_sequences.specs.RunningSums.{running_sum}
use Rattle.degree_sequences.specs.Rank.{rank}

-- A child of a table. `column` is the list of the column by which the table joins the child. `class` has the weights that the child gives to rows, by
-- their rank in this column
pub record ChildLists : Type 0 where
  pub column : List ℕ
  pub class : List ℕ

-- the weight of row t, counted from 1. Each child gives a factor: the element of its class list at the rank of the row in its column
abbrev pub weight_by_rank : List ChildLists → ℕ → ℕ
weight_by_rank [] t = 1
weight_by_rank (child ∷ children) t = slice_index child.class (rank child.column t - 1) * weight_by_rank children t

-- the weights of the rows 1 to n
abbrev pub row_weights : List ChildLists → ℕ → List ℕ
row_weights children n = map (weight_by_rank children) (range_with_len 1 n)

-- the sum of the first g(1) weights, of the next g(2) weights, and so on
abbrev pub block_sums : List ℕ → List ℕ → List ℕ
block_sums [] weights = []
block_sums (count ∷ g) weights = running_sum weights count ∷ block_sums g (drop count weights)

-- The composition. Element r sums the weights of the rows that have rank r in the parent column. Zeros at the end are dropped
abbrev pub composed : List ℕ → List ChildLists → List ℕ
composed parent children = trimmed (block_sums parent (row_weights children (sum parent)))

-- for a table without a parent: the sum of the weights of the rows 1 to `rows`
abbrev pub root_total : List ChildLists → ℕ → ℕ
root_total children rows = sum (row_weights children rows)
