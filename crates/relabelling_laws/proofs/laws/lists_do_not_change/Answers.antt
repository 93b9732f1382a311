use Rattle.relabelling_laws.proofs.Rows.{absent_list_unchanged, any_list_unchanged, node_list_unchanged, range_list_unchanged, rest_list_unchanged, value_list_unchanged, whole_list_unchanged}
use Rattle.relabelling_laws.proofs.laws.lists_do_not_change.Goals as goal

pub returns-clause-whole : goal.returns-clause-whole
returns-clause-whole c = whole_list_unchanged

pub returns-clause-value : goal.returns-clause-value
returns-clause-value c = value_list_unchanged

pub returns-clause-absent : goal.returns-clause-absent
returns-clause-absent c = absent_list_unchanged

pub returns-clause-any_value : goal.returns-clause-any_value
returns-clause-any_value c = any_list_unchanged

pub returns-clause-rest : goal.returns-clause-rest
returns-clause-rest c = rest_list_unchanged

pub returns-clause-node : goal.returns-clause-node
returns-clause-node c = node_list_unchanged

pub returns-clause-range : goal.returns-clause-range
returns-clause-range c = range_list_unchanged
