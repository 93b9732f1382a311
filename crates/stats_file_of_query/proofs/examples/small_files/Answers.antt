use Rattle.std.proofs.Common.{refl, arith}
use Rattle.cond_stats.specs.Leaves.{cuts}
use Rattle.cond_stats.specs.Lists.{list_of_node, rest}
use Rattle.join_graph.specs.Conjuncts.{column_operand}
use Rattle.join_graph.proofs.Comparing.{equality_two}
use Rattle.query_grammar.specs.declared.tree.Op.TheVariants as op
use Rattle.stats_file_of_query.proofs.examples.small_files.Goals as goal
use Rattle.query_types.proofs.CondFacts.{entries_compare}

pub returns-clause-rest : goal.returns-clause-rest
unfolding rest
returns-clause-rest c = refl

pub returns-clause-leaf : goal.returns-clause-leaf
unfolding cuts
returns-clause-leaf c = refl

pub returns-clause-absent : goal.returns-clause-absent
unfolding rest
returns-clause-absent c = refl

pub returns-clause-range : goal.returns-clause-range
unfolding cuts list_of_node
returns-clause-range c = refl

pub returns-clause-pairs : goal.returns-clause-pairs
returns-clause-pairs c = rw (entries_compare op.Eq (column_operand 0 0) (column_operand 1 0), equality_two 0 0 1 0 (λ e. absurd (omega (arith, e)))) refl
