use Rattle.join_graph.proofs.Connecting.{apart_or_connected}
use Rattle.join_graph.proofs.laws.entries_are_apart_or_connected.Goals as goal

pub returns-clause-one : goal.returns-clause-one
returns-clause-one c = apart_or_connected

pub returns-clause-not_both : goal.returns-clause-not_both
returns-clause-not_both c = λ es a b apart connected. apart.across (connected apart.side apart.together)
