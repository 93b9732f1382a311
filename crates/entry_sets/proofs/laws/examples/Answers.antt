use Rattle.std.proofs.Common.{refl}
use Rattle.entry_sets.specs.Sets.{entries_of_set}
use Rattle.entry_sets.proofs.laws.examples.Goals as goal

pub returns-clause-entries : goal.returns-clause-entries
unfolding entries_of_set
returns-clause-entries c = refl

pub returns-clause-none : goal.returns-clause-none
unfolding entries_of_set
returns-clause-none c = refl
