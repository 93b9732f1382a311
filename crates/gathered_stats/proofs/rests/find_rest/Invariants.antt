use Rattle.std.proofs.Common.{◌≡◌, false, take}
use Rattle.gathered_stats.specs.Rests.{is_kept}
use Rattle.gathered_stats.proofs.rests.find_rest.Given as goal

abbrev pub invariant-loop-kept : goal.invariant-loop-kept
invariant-loop-kept l = is_kept (take l.kept-index l.rests) l.column ≡ false
