use Rattle.std.proofs.lemmas.Result.{IfOk-weaker}
use Rattle.sql_meaning.specs.Tables.{tables_of}
use Rattle.query_bounds.specs.Bounds.{scan_bounds, set_bounds}
use Rattle.query_bounds.specs.Statistics.{Statistics, HasStatistics}
use Rattle.gathered_stats.specs.Statistics.{statistics_of}
use Rattle.planning.specs.HasBounds.{HasBounds}
use Rattle.planning.proofs.sources.from_statistics.Goals as goal

pub returns : goal.returns
returns c =
    let query = c.args.query.now in
    let stats : Statistics = statistics_of (tables_of c.args.db.now) c.args.accuracy in
    IfOk-weaker c.from_given_statistics.result (λ made. (known : Statistics) → HasStatistics query c.in_ok-stats.stats known → HasBounds (set_bounds query known) (scan_bounds query known) made)
    (HasBounds (set_bounds query stats) (scan_bounds query stats)) (λ made gives. gives stats c.in_ok-stats.ensures.tells) c.from_given_statistics.ensures.gives
