use Rattle.std.proofs.Common.{sym, subst}
use Rattle.tree_bounds.specs.SetBounds.{IsBoundOfSet, IsBoundOfTurn}
use Rattle.tree_bounds.proofs.Turns.{turn_bound_exists, turn_bound_is_unique, set_bound_exists, set_bound_is_unique}
use Rattle.tree_bounds.proofs.laws.bounds_are_unique.Goals as goal

pub returns-clause-turn : goal.returns-clause-turn
returns-clause-turn c = λ b es subset turn n. (turn_bound_is_unique b es subset turn n, λ e. subst (IsBoundOfTurn b es subset turn) (sym e) (turn_bound_exists b es subset turn))

pub returns-clause-set : goal.returns-clause-set
returns-clause-set c = λ b es subset n. (set_bound_is_unique b es subset n, λ e. subst (IsBoundOfSet b es subset) (sym e) (set_bound_exists b es subset))
