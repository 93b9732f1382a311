use Rattle.std.proofs.Common.{◌+◌, ◌≤◌, ◌<◌, ◌^◌, length}
use Rattle.std.specs.List.{All}
use Rattle.base_tests.proofs.lists.of_runs.Given as goal

abbrev pub invariant-runs : goal.invariant-runs
invariant-runs l = record { descends : All (λ x. l.last ≤ x) l.list; fits : length l.list + l.room < 2 ^ 64 }
