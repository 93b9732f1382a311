use Rattle.stats_file_bounds.specs.FileStatistics.{stats_file_statistics}
use Rattle.stats_file_bounds.proofs.sources.from_file.Goals as goal

pub returns-clause-gives : goal.returns-clause-gives
returns-clause-gives c = c.in_ok-known.ensures.gives (stats_file_statistics c.args.query.now c.args.file.now) c.in_ok-stats.ensures.tells
