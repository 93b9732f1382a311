use Rattle.berge_tree.proofs.NoCycle.{has_no_cycle}
use Rattle.berge_tree.proofs.Tested.{joins_no_cycle}
use Rattle.join_graph.specs.Kept.{kept_of, order_of_turn}
use Rattle.join_graph.proofs.Connecting.{kept_joins}
use Rattle.join_graph.proofs.Turning.{kept_within}
use Rattle.join_graph.proofs.laws.kept_equalities_make_no_cycle.Goals as goal

pub returns-clause-within : goal.returns-clause-within
returns-clause-within c = kept_within

pub returns-clause-entries : goal.returns-clause-entries
returns-clause-entries c = λ subset turn es. joins_no_cycle (kept_of subset turn es) (kept_joins (λ x. x) (order_of_turn subset turn es))

pub returns-clause-classes : goal.returns-clause-classes
returns-clause-classes c = λ subset turn es. has_no_cycle (kept_of subset turn es) (returns-clause-entries c subset turn es)
