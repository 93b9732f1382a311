use Rattle.std.proofs.Common.{◌≡◌, length, map, take}
use Rattle.cond_stats.specs.Lists.{greatest, maxima}
use Rattle.degree_sequences.specs.Degrees.{degree_list}
use Rattle.appended_stats.proofs.rest.list_of_groups.Given as goal

abbrev pub invariant-loop-keys : goal.invariant-loop-keys
invariant-loop-keys l = (l.maxima ≡ maxima (map degree_list (take l.keys-index l.groups)))
    × (l.most ≡ greatest (map (λ keys. length keys) (take l.keys-index l.groups)))
