-- The bound of a set of entries is near the uncompressed bound.
use Rattle.std.proofs.Common.{ℕ, ◌+◌, ◌*◌, ◌^◌, ◌<◌, ◌≤◌, List, length, get_or, subst}
use Rattle.entry_sets.specs.Sets.{entries_of_set, set_of}
use Rattle.query_types.specs.declared.types.Query.{Query}
use Rattle.sql_meaning.specs.Tables.{Tables}
use Rattle.level_bounds.specs.Orders.{IsOrderOfSet}
use Rattle.planning.specs.Bounds.{set_bounds_of}
use Rattle.planning.proofs.NearColumns.{near_columns}
use Rattle.plan_nearness.specs.Nearness.{FiltersNoEntry, IsNear, uncompressed_bound}
use Rattle.plan_nearness.proofs.SetSizes.{set_size}

pub set_near : (query : Query) (tables : Tables) (accuracy : ℕ) (entries : List ℕ) → FiltersNoEntry query → set_of entries < 2 ^ length query.from
    → IsOrderOfSet (entries_of_set (set_of entries)) entries
    → IsNear query tables accuracy entries (get_or (set_bounds_of query tables accuracy) (set_of entries) 0)
set_near query tables accuracy entries none fits order =
    subst (λ (n : ℕ). accuracy ^ n * get_or (set_bounds_of query tables accuracy) (set_of entries) 0 ≤ (accuracy + 1) ^ n * uncompressed_bound query tables entries)
    (set_size (set_of entries) entries order) (near_columns tables query accuracy (set_of entries) none fits)
