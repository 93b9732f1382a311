use Rattle.std.proofs.Common.{◌≡◌, length, take}
use Rattle.std.specs.List.{range_with_len}
use Rattle.cond_stats.specs.Columns.{value_le}
use Rattle.cond_stats.specs.Leaves.{last_place}
use Rattle.predicate_bounds.specs.Steps.{value_of}
use Rattle.stats_file_of_query.specs.Standing.{leaf_cut}
use Rattle.stats_file_bounds.proofs.answers.leaf_of.Given as goal

abbrev pub invariant-loop-i : goal.invariant-loop-i
invariant-loop-i l = l.leaf ≡ last_place (λ leaf. value_le (leaf_cut l.pair leaf) (value_of l.literal)) (take l.i (range_with_len 0 (length l.pair.cuts)))
