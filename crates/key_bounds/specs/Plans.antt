-- Plans with conjuncts that are carried along references to keys.
use Rattle.std.specs.Prelude.{ℕ, length, Result}
use Rattle.plans.specs.declared.left_deep.Plan.{Plan}
use Rattle.order_search.specs.declared.refusal.PlanError.{PlanError}
use Rattle.schema_types.specs.declared.types.Schema.{Schema}
use Rattle.query_types.specs.declared.types.Query.{Query}
use Rattle.join_graph.specs.Conjuncts.{equalities_of}
use Rattle.sql_meaning.specs.Tables.{Tables}
use Rattle.planning.specs.Bounds.{scan_bounds_of}
use Rattle.planning.specs.Plans.{planned_from}
use Rattle.key_bounds.specs.Bounds.{bounds_by_keys}

-- the plan with carried conjuncts. Bounds of scans are without carried conjuncts, because a scan also has rows that refer to no row of the carrier's
-- scan
unfoldable pub planned_by_keys : Schema → Query → Tables → ℕ → ℕ → Result Plan PlanError
planned_by_keys schema query tables accuracy budget =
    planned_from (bounds_by_keys schema query tables accuracy) (scan_bounds_of query tables accuracy) (equalities_of query) (length query.from) budget
