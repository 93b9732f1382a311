-- When an equality follows from one conjunct of a list. The conjuncts are any conditions on rows, not only those of a query.
use Rattle.std.specs.Prelude.{◌≡◌, ℕ, ◌<◌, true, List, [], ◌∷◌}
use Rattle.std.specs.List.{Contains}
use Rattle.berge_tree.specs.declared.edges.Edge.{Edge}
use Rattle.sql_meaning.specs.Levels.{Conjunct, names_only}
use Rattle.level_bounds.specs.Keys.{Keys}

-- one of the conjuncts names only the two entries of the equality. If it holds for a row of each entry, the two rows have the same key in the
-- equality's columns
pub record IsImplied (conjuncts : List Conjunct) (rows : ℕ → ℕ) (key : Keys) (e : Edge) : Type 0 where
  pub conjunct : Conjunct
  pub one_of_them : Contains conjuncts conjunct
  pub names : names_only conjunct (e.left.entry ∷ e.right.entry ∷ []) ≡ true
  pub equal : (row_of : ℕ → ℕ) → row_of e.left.entry < rows e.left.entry → row_of e.right.entry < rows e.right.entry
      → conjunct.holds row_of ≡ true
      → key e.left.entry e.left.column (row_of e.left.entry) ≡ key e.right.entry e.right.column (row_of e.right.entry)
