use Rattle.std.proofs.Common.{◌≡◌}
use Rattle.stats_file_of_query.specs.Files.{joined_with}
use Rattle.stats_file_of_query.proofs.pairs.joined_with.Given as goal

abbrev pub invariant-loop-joined : goal.invariant-loop-joined
invariant-loop-joined l = l.columns ≡ joined_with l.needed l.joined l.filter
