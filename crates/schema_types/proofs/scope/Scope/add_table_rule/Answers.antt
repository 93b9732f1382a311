use Rattle.schema_types.proofs.scope.Scope.add_table_rule.Goals as goal

pub numbers-requires-in-Unique : goal.numbers-requires-in-Unique
numbers-requires-in-Unique c = rw c.as_slice-in-Unique.ensures (rw c.in-Unique.is at c.requires)
