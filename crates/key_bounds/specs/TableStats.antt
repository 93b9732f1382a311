-- Statistics of entries, and carried bounds, that belong to given tables.
use Rattle.std.specs.Prelude.{ℕ, List}
use Rattle.schema_types.specs.declared.types.Schema.{Schema}
use Rattle.query_types.specs.declared.types.Query.{Query}
use Rattle.sql_meaning.specs.Tables.{Tables}
use Rattle.predicate_bounds.specs.declared.columns.QueryStats.{QueryStats}
use Rattle.query_bounds.specs.Statistics.{HasStatistics}
use Rattle.gathered_stats.specs.Statistics.{statistics_of}
use Rattle.key_carriers.specs.Carriers.{carrying_equalities}
use Rattle.key_stats.specs.declared.carried.CarriedBounds.{CarriedBounds}
use Rattle.key_stats.specs.Carrying.{HaveCarriedBounds}

-- `stats` are statistics of these tables, and `carried` has the bounds that are carried along the schema's references in these tables
pub record AreStatsByKeys (schema : Schema) (query : Query) (tables : Tables) (accuracy : ℕ) (stats : QueryStats) (carried : List CarriedBounds) : Type 0 where
  pub own : HasStatistics query stats (statistics_of tables accuracy)
  pub along : HaveCarriedBounds query tables accuracy (carrying_equalities schema query) carried

-- `stats` and `carried` belong to some schema, some tables and some accuracy
pub record AreStatsOfSomeTables (query : Query) (stats : QueryStats) (carried : List CarriedBounds) : Type 0 where
  pub schema : Schema
  pub tables : Tables
  pub accuracy : ℕ
  pub tell : AreStatsByKeys schema query tables accuracy stats carried
