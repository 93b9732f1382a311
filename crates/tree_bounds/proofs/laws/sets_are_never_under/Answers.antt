use Rattle.tree_bounds.proofs.Turns.{within_turn, within_set}
use Rattle.tree_bounds.proofs.laws.sets_are_never_under.Goals as goal

pub returns-clause-each_turn : goal.returns-clause-each_turn
returns-clause-each_turn c = within_turn

pub returns-clause-least : goal.returns-clause-least
returns-clause-least c = within_set
