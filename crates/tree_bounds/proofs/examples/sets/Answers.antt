use Rattle.std.proofs.Common.{refl}
use Rattle.entry_sets.specs.Sets.{entries_of_set}
use Rattle.tree_bounds.proofs.examples.sets.Goals as goal

pub returns-clause-single : goal.returns-clause-single
unfolding entries_of_set
returns-clause-single c = refl

pub returns-clause-first_pair : goal.returns-clause-first_pair
unfolding entries_of_set
returns-clause-first_pair c = refl

pub returns-clause-last_pair : goal.returns-clause-last_pair
unfolding entries_of_set
returns-clause-last_pair c = refl

pub returns-clause-first_turn : goal.returns-clause-first_turn
unfolding entries_of_set
returns-clause-first_turn c = refl

pub returns-clause-second_turn : goal.returns-clause-second_turn
unfolding entries_of_set
returns-clause-second_turn c = refl

pub returns-clause-third_turn : goal.returns-clause-third_turn
unfolding entries_of_set
returns-clause-third_turn c = refl

pub returns-clause-triangle : goal.returns-clause-triangle
unfolding entries_of_set
returns-clause-triangle c = refl

pub returns-clause-alike : goal.returns-clause-alike
unfolding entries_of_set
returns-clause-alike c = refl

pub returns-clause-different : goal.returns-clause-different
unfolding entries_of_set
returns-clause-different c = refl

pub returns-clause-least : goal.returns-clause-least
unfolding entries_of_set
returns-clause-least c = refl

pub returns-clause-unjoined : goal.returns-clause-unjoined
unfolding entries_of_set
returns-clause-unjoined c = refl

pub returns-clause-empty : goal.returns-clause-empty
unfolding entries_of_set
returns-clause-empty c = refl

pub returns-clause-first : goal.returns-clause-first
unfolding entries_of_set
returns-clause-first c = refl

pub returns-clause-last : goal.returns-clause-last
unfolding entries_of_set
returns-clause-last c = refl

pub returns-clause-middle_pair : goal.returns-clause-middle_pair
unfolding entries_of_set
returns-clause-middle_pair c = refl

pub returns-clause-components : goal.returns-clause-components
unfolding entries_of_set
returns-clause-components c = refl
