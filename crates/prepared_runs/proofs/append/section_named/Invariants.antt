use Rattle.std.proofs.Common.{◌≡◌, take, None}
use Rattle.std.specs.List.{find}
use Rattle.prepared_runs.specs.Appending.{is_of_table}
use Rattle.prepared_runs.proofs.append.section_named.Given as goal

abbrev pub invariant-sections : goal.invariant-sections
invariant-sections l = find (is_of_table l.schema l.name) (take l.section-index l.stats.tables) ≡ None
