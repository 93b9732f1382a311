use Rattle.std.proofs.Common.{◌≡◌, ◌<◌, ◌^◌, drop, sum}
use Rattle.key_bounds.specs.InSets.{list_within}
use Rattle.key_bounds.proofs.in_sets.list_within.Given as goal

abbrev pub invariant-loop-one : goal.invariant-loop-one
invariant-loop-one l = (list_within (drop l.one-index l.carried) l.subset l.place.entry l.place.column l.list ≡ list_within l.carried l.subset l.place.entry l.place.column l.initial.list)
    × (sum l.list < 2 ^ 64)
