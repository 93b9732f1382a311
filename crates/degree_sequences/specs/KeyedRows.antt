-- Rows with a parent key and one key for each child, and when lists dominate them.
use Rattle.std.specs.Prelude.{◌≡◌, ℕ, ◌*◌, ◌==◌, if◌then◌else◌, List, [], ◌∷◌, length, slice_index}
use Rattle.std.specs.List.{sum_by, range_with_len}
use Rattle.degree_sequences.specs.Descending.{IsDescending}
use Rattle.degree_sequences.specs.Domination.{DominatesKeys, DominatesWeights}
use Rattle.degree_sequences.specs.Composition.{ChildLists}

-- a child of the rows: the key that each row has for it, and the weight that the child gives to each key
pub record ChildKeys : Type 0 where
  pub keys : List ℕ
  pub weight : ℕ → ℕ

-- The lists of a child dominate its keys and their weights. Its class list is in descending order, and each row has a key
pub record DominatesChild (rows : ℕ) (lists : ChildLists) (child : ChildKeys) : Type 0 where
  pub column : DominatesKeys lists.column child.keys
  pub class : DominatesWeights lists.class child.weight
  pub class_is_descending : IsDescending lists.class
  pub key_per_row : length child.keys ≡ rows

-- the weight of row i, counted from 0: the product over the children of the weights of the row's keys
abbrev pub weight_of_row : List ChildKeys → ℕ → ℕ
weight_of_row [] i = 1
weight_of_row (child ∷ children) i = child.weight (slice_index child.keys i) * weight_of_row children i

-- the weight that the rows give to a parent key: the sum of the weights of the rows that have this key
abbrev pub weight_of_key : List ℕ → List ChildKeys → ℕ → ℕ
weight_of_key parent_keys children a = sum_by (λ i. if slice_index parent_keys i == a then weight_of_row children i
    else 0) (range_with_len 0 (length parent_keys))
