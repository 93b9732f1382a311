use Rattle.std.proofs.Common.{◌≡◌, take}
use Rattle.gathered_stats.specs.Asked.{joined_columns}
use Rattle.gathered_stats.proofs.columns.joined_columns.Given as goal

abbrev pub invariant-loop-edge : goal.invariant-loop-edge
invariant-loop-edge l = l.columns ≡ joined_columns l.entry (take l.edge-index l.equalities)
