-- Comparisons of one child's lists with another's, for the laws that compare compositions.
use Rattle.std.specs.Prelude.{◌≡◌, ℕ, ◌+◌, ◌*◌, ◌≤◌, List, [], ◌∷◌}
use Rattle.std.specs.List.{sum}
use Rattle.degree_sequences.specs.Descending.{IsDescending}
use Rattle.degree_sequences.specs.RunningSums.{running_sum, HasHigherSums}
use Rattle.degree_sequences.specs.Composition.{ChildLists}

-- a child of a table with `total` rows: its class list is in descending order, and its column sums to `total`
pub record IsChildOf (total : ℕ) (child : ChildLists) : Type 0 where
  pub class_is_descending : IsDescending child.class
  pub column_sum : sum child.column ≡ total

-- the column of a child is in descending order
abbrev pub ColumnIsDescending : ChildLists → Type 0
ColumnIsDescending child = IsDescending child.column

-- each of the child's two lists has running sums at least as high as the same list of the other child (`HasHigherSums`)
pub record ChildIsAbove (child other : ChildLists) : Type 0 where
  pub column : HasHigherSums child.column other.column
  pub class : HasHigherSums child.class other.class

-- at every rank, `scale` times the running sum of s is at most `factor` times the running sum of t
abbrev pub SumsAreWithin : ℕ → ℕ → List ℕ → List ℕ → Type 0
SumsAreWithin scale factor s t = (r : ℕ) → scale * running_sum s r ≤ factor * running_sum t r

-- a child and the exact child that it approximates. `scale` and `factor` say how near their class lists are (`SumsAreWithin`)
pub record MatchedChild : Type 0 where
  pub near : ChildLists
  pub exact : ChildLists
  pub scale : ℕ
  pub factor : ℕ

-- a child is near its exact child. The accuracy says how near the columns are; the child's `scale` and `factor` say how near the class lists are
pub record IsNear (accuracy : ℕ) (child : MatchedChild) : Type 0 where
  pub column : SumsAreWithin accuracy (accuracy + 1) child.near.column child.exact.column
  pub class : SumsAreWithin child.scale child.factor child.near.class child.exact.class

-- the product of the scales
abbrev pub scales : List MatchedChild → ℕ
scales [] = 1
scales (child ∷ children) = child.scale * scales children

-- the product of the factors
abbrev pub factors : List MatchedChild → ℕ
factors [] = 1
factors (child ∷ children) = child.factor * factors children
