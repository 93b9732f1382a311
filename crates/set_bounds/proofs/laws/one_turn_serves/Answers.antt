use Rattle.std.proofs.Common.{sym, ◌∙◌}
use Rattle.set_bounds.proofs.OneTurn.{set_is_turn_0, each_turn_is_turn_0}
use Rattle.set_bounds.proofs.SameTrees.{forest_set, forest_turn}
use Rattle.set_bounds.proofs.laws.one_turn_serves.Goals as goal

pub returns-clause-forest : goal.returns-clause-forest
returns-clause-forest c b es subset turn h = forest_turn b es subset turn h ∙ sym (forest_set b es subset h)

pub returns-clause-classes : goal.returns-clause-classes
returns-clause-classes c b es subset turn h = each_turn_is_turn_0 es subset h b turn ∙ sym (set_is_turn_0 es subset h b)
