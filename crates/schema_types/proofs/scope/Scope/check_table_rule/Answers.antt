use Rattle.schema_types.proofs.scope.Scope.check_table_rule.Goals as goal

pub check_list-requires-in-Unique : goal.check_list-requires-in-Unique
check_list-requires-in-Unique c = rw c.as_slice-in-Unique.ensures (rw c.in-Unique.is at c.requires)
