use Rattle.std.proofs.Common.{arith}
use Rattle.join_graph.proofs.Turning.{turn_begins}
use Rattle.join_graph.proofs.keeping.first_of_turn.Goals as goal

pub returns-then-left-eq0-clause-before : goal.returns-then-left-eq0-clause-before
returns-then-left-eq0-clause-before c = (turn_begins c.args.subset c.args.turn c.loop-i.i c.args.edges.now (omega arith)).0

pub returns-then-left-eq0-clause-from : goal.returns-then-left-eq0-clause-from
returns-then-left-eq0-clause-from c = (turn_begins c.args.subset c.args.turn c.loop-i.i c.args.edges.now (omega arith)).1
