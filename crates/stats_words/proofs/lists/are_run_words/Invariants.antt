use Rattle.std.proofs.Common.{◌↔◌, length}
use Rattle.stats_file.specs.Grammar.{AreRunWords}
use Rattle.stats_words.proofs.lists.are_run_words.Given as goal

abbrev pub invariant-runs : goal.invariant-runs
invariant-runs l = AreRunWords l.rest ↔ AreRunWords l.word

abbrev pub decreases-runs : goal.decreases-runs
decreases-runs l = length l.rest
