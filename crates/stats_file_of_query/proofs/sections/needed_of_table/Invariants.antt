use Rattle.std.proofs.Common.{◌≡◌, ◌==◌, []}
use Rattle.std.specs.Prelude.{if◌then◌else◌}
use Rattle.std.specs.List.{flat_map, range_with_len}
use Rattle.stats_file_of_query.specs.Needs.{needed, table_of}
use Rattle.stats_file_of_query.proofs.sections.needed_of_table.Given as goal

abbrev pub invariant-loop-entry : goal.invariant-loop-entry
invariant-loop-entry l = l.pairs ≡ flat_map (λ entry. if table_of l.query entry == l.table then needed l.query entry else []) (range_with_len 0 l.entry)
