use Rattle.std.proofs.Common.{◌-◌, []}
use Rattle.limits.specs.Profile.{greatest_entries}
use Rattle.entry_sets.specs.Sets.{entries_from, entries_of_set}
use Rattle.berge_tree.specs.Walk.{forest}
use Rattle.berge_tree.proofs.TreesSoFar.{TreesSoFar}
use Rattle.berge_tree.proofs.walk.rooted.Given as goal

abbrev pub invariant-loop-entry : goal.invariant-loop-entry
invariant-loop-entry l = TreesSoFar l.columns.items l.trees (entries_from l.subset l.entry (greatest_entries - l.entry)) (forest greatest_entries l.columns.items [] (entries_of_set l.subset))
