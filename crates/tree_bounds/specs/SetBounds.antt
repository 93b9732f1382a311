-- The bound of a set of entries: the product of its trees' bounds in each turn, and the least of these products.
use Rattle.std.specs.Prelude.{◌≡◌, ℕ, zero, suc, ◌-◌, ◌<◌, ◌≤◌, min, List, []}
use Rattle.limits.specs.Profile.{greatest_entries}
use Rattle.berge_tree.specs.declared.edges.Edge.{Edge}
use Rattle.berge_tree.specs.Rooted.{AreAllTreesOf}
use Rattle.entry_sets.specs.Sets.{entries_of_set}
use Rattle.berge_tree.specs.Trees.{BergeTree}
use Rattle.berge_tree.specs.Walk.{columns_of, forest}
use Rattle.join_graph.specs.Kept.{equalities_within, kept_of, turn_count}
use Rattle.tree_bounds.specs.Columns.{EachNamedColumn}
use Rattle.tree_bounds.specs.TreeBounds.{EntryBounds, HasList, bound_of_trees}

-- each column that an equality of the set names has its list
abbrev pub SetHasLists : EntryBounds → List Edge → ℕ → Type 0
SetHasLists b es subset = EachNamedColumn (HasList b) (equalities_within subset es)

-- n is the bound in a turn: the product of the bounds of the trees that are made from the turn's kept equalities
pub record IsBoundOfTurn (b : EntryBounds) (es : List Edge) (subset turn n : ℕ) : Type 0 where
  pub trees : List BergeTree
  pub are_all : AreAllTreesOf (kept_of subset turn es) (entries_of_set subset) trees
  pub product : n ≡ bound_of_trees b trees

-- n is the least bound of all turns
pub record IsBoundOfSet (b : EntryBounds) (es : List Edge) (subset n : ℕ) : Type 0 where
  pub some_turn : (turn : ℕ) × (turn < turn_count subset es) × IsBoundOfTurn b es subset turn n
  pub least : (turn m : ℕ) → turn < turn_count subset es → IsBoundOfTurn b es subset turn m → n ≤ m

-- ---- the bound of a set as a function

-- the trees of given equalities over a set of entries
abbrev pub trees_of : List Edge → ℕ → List BergeTree
trees_of es subset = forest greatest_entries (columns_of es) [] (entries_of_set subset)

abbrev pub bound_of_turn : EntryBounds → List Edge → ℕ → ℕ → ℕ
bound_of_turn b es subset turn = bound_of_trees b (trees_of (kept_of subset turn es) subset)

-- the least of f 0, f 1, .. f n
abbrev pub least_to : (ℕ → ℕ) → ℕ → ℕ
least_to f zero = f 0
least_to f (suc n) = min (least_to f n) (f (suc n))

abbrev pub bound_of_set : EntryBounds → List Edge → ℕ → ℕ
bound_of_set b es subset = least_to (bound_of_turn b es subset) (turn_count subset es - 1)
