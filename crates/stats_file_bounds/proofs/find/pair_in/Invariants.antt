use Rattle.std.proofs.Common.{◌≡◌, drop}
use Rattle.std.specs.Prelude.{find}
use Rattle.stats_file_bounds.specs.Found.{are_columns}
use Rattle.stats_file_bounds.proofs.find.pair_in.Given as goal

abbrev pub invariant-loop-pair : goal.invariant-loop-pair
invariant-loop-pair l = find (are_columns l.filter l.joined) l.section.pairs ≡ find (are_columns l.filter l.joined) (drop l.pair-index l.pair-items)
