use Rattle.std.proofs.Common.{◌+◌, ◌<◌, ◌≤◌, length}
use Rattle.std.specs.List.{All}
use Rattle.bench_fold.proofs.queries.list_of_runs.Given as goal

abbrev pub invariant-loop-run : goal.invariant-loop-run
invariant-loop-run l = record { descends : All (λ x. l.last ≤ x) l.list; fits : length l.list + l.room < 18446744073709551616 }
