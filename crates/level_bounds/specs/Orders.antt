-- Orders of a set of entries.
use Rattle.std.specs.Prelude.{ℕ, ◌==◌, List, map}
use Rattle.std.specs.List.{AllByRecursion, Contains, IsDistinct}
use Rattle.sql_meaning.specs.Levels.{row_in}

-- the list has each entry of the set exactly once, and no other entry
pub record IsOrderOfSet (set order : List ℕ) : Type 0 where
  pub once : IsDistinct ◌==◌ order
  pub within : AllByRecursion (Contains set) order
  pub covers : AllByRecursion (Contains order) set

-- a choice for entries in one order, rearranged into another order
abbrev pub reordered : List ℕ → List ℕ → List ℕ → List ℕ
reordered order other choice = map (row_in order choice) other
