-- Nearness of a plan's bounds to the bounds without compression.
use Rattle.std.specs.Prelude.{◌≡◌, ℕ, ◌+◌, ◌*◌, ◌^◌, ◌<◌, ◌≤◌, List, [], length, slice_get, slice_index, take, Some}
use Rattle.entry_sets.specs.Sets.{set_of}
use Rattle.plans.specs.declared.left_deep.Plan.{Plan}
use Rattle.plans.specs.declared.bushy.BushyPlan.{BushyPlan}
use Rattle.plans.specs.declared.bushy.Join.{Join}
use Rattle.tree_rows.specs.Trees.{entries_at}
use Rattle.query_types.specs.declared.types.Query.{Query}
use Rattle.join_graph.specs.Conjuncts.{equalities_of}
use Rattle.tree_bounds.specs.SetBounds.{bound_of_set}
use Rattle.sql_meaning.specs.Tables.{Tables}
use Rattle.filtered_lists.specs.Filters.{own_conjuncts}
use Rattle.planning.specs.Bounds.{whole_columns}

-- no conjunct names exactly one entry
abbrev pub FiltersNoEntry : Query → Type 0
FiltersNoEntry query = (entry : ℕ) → own_conjuncts entry query.conjuncts ≡ []

-- the bound of these entries without compression, which is made from each table's number of rows and each column's degree list
abbrev pub uncompressed_bound : Query → Tables → List ℕ → ℕ
uncompressed_bound query tables entries = bound_of_set (whole_columns tables) (equalities_of query) (set_of entries)

-- a bound of n entries is near at accuracy K: the bound times K^n is at most the uncompressed bound times (K + 1)^n
abbrev pub IsNear : Query → Tables → ℕ → List ℕ → ℕ → Type 0
IsNear query tables accuracy entries bound =
    accuracy ^ length entries * bound ≤ (accuracy + 1) ^ length entries * uncompressed_bound query tables entries

-- each level's bound is near the uncompressed bound of the level's entries. Level k has the first k entries of the plan's order
abbrev pub LevelsAreNear : Query → Tables → ℕ → Plan → Type 0
LevelsAreNear query tables accuracy plan =
    (k : ℕ) → k < length query.from → IsNear query tables accuracy (take (k + 1) plan.order) (slice_index plan.levels k)

-- the bound of each inner node of the plan's tree is near the uncompressed bound of the entries at the leaves below it
abbrev pub NodesAreNear : Query → Tables → ℕ → BushyPlan → Type 0
NodesAreNear query tables accuracy plan =
    (k : ℕ) (join : Join) → slice_get plan.joins k ≡ Some join
    → IsNear query tables accuracy (entries_at plan (length query.from + k)) join.bound
