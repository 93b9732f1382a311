-- The row bounds and lists in a set, taken from the code's struct `Given`. No public contract uses this file.
use Rattle.std.specs.Prelude.{◌≡◌, ℕ, ◌^◌, ◌<◌, ◌≤◌, List, length, slice_index}
use Rattle.std.specs.List.{sum}
use Rattle.berge_tree.specs.declared.edges.Edge.{Edge}
use Rattle.tree_bounds.specs.TreeBounds.{EntryBounds}
use Rattle.safebound_lists.specs.declared.runs.Run.{Run}
use Rattle.safebound_lists.specs.Runs.{list_of}
use Rattle.safebound_bounds.specs.declared.arguments.ColumnList.{ColumnList}
use Rattle.safebound_bounds.specs.declared.in_sets.Given.{Given}
use Rattle.safebound_bounds.specs.Arguments.{runs_of}
use Rattle.safebound_bounds.specs.Causes.{AreArgumentsValid}
use Rattle.safebound_bounds.specs.Meaning.{edges_of, known_in}

-- the values are valid, `es` are their equalities, and the set's entries exist
pub record AreValidAndOfSet (given : Given) (es : List Edge) (subset : ℕ) : Type 0 where
  pub valid : AreArgumentsValid given.rows.now given.equalities.now given.lists.now given.runs.now
  pub edges : es ≡ edges_of given.equalities.now
  pub fits : subset < 2 ^ length given.rows.now

-- the row bounds and lists of the entries in a set
abbrev pub known_by : Given → ℕ → EntryBounds
known_by given subset = known_in given.rows.now given.lists.now given.runs.now (edges_of given.equalities.now) subset

-- the sum of a list is at least its entry's row bound
abbrev pub CoversRows : List ℕ → List Run → ColumnList → Type 0
CoversRows rows runs list = slice_index rows list.entry ≤ sum (list_of (runs_of runs list))
