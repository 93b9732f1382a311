-- Rows that take part in a choice for all entries that equalities connect with the row's own entry.
use Rattle.std.specs.Prelude.{◌≡◌, ◌⊎◌, ℕ, true, List, [], ◌∷◌, Some}
use Rattle.std.specs.List.{Contains}
use Rattle.berge_tree.specs.declared.edges.Edge.{Edge}
use Rattle.entry_sets.specs.Naming.{are_within}
use Rattle.query_types.specs.declared.types.Cond.{Cond}
use Rattle.query_types.specs.declared.types.Query.{Query}
use Rattle.query_types.specs.Named.{entries_named}
use Rattle.join_graph.specs.Conjuncts.{equalities_of, equality_of}
use Rattle.join_graph.specs.Kept.{AreConnected}
use Rattle.sql_meaning.specs.Conditions.{cond_holds}
use Rattle.sql_meaning.specs.Tables.{Tables}
use Rattle.join_steps.specs.Lists.{list_at}

-- each conjunct is an equality of columns of two entries, or names at most one entry
abbrev pub JoinsByEqualitiesAlone : Query → Type 0
JoinsByEqualitiesAlone query = (cond : Cond) → Contains query.conjuncts cond
    → ((e : Edge) × (equality_of cond ≡ Some e)) ⊎ ((entry : ℕ) × (are_within (entries_named cond) (entry ∷ []) ≡ true))

-- the row takes part in a choice: `row_of` has this row for its own entry, and a listed row for each entry that is connected with it. Every conjunct
-- that names a connected entry holds for `row_of`
pub record TakesPart (query : Query) (tables : Tables) (lists : List (List ℕ)) (entry row : ℕ) : Type 0 where
  pub row_of : ℕ → ℕ
  pub its_own : row_of entry ≡ row
  pub listed : (other : ℕ) → AreConnected (equalities_of query) entry other → Contains (list_at lists other) (row_of other)
  pub holds : (cond : Cond) (other : ℕ) → Contains query.conjuncts cond → Contains (entries_named cond) other
      → AreConnected (equalities_of query) entry other → cond_holds tables row_of cond ≡ true
