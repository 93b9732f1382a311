use Rattle.std.proofs.Common.{◌≡◌, ◌++◌, take}
use Rattle.std.specs.List.{flat_map}
use Rattle.schema_types.specs.Meaning.{rule_keys, rule_references}
use Rattle.schema_types.proofs.scope.Scope.add_column.Given as goal

abbrev pub invariant-rules : goal.invariant-rules
invariant-rules l = record {
  keys : l.links.keys ≡ l.fn.links.keys ++ flat_map (rule_keys l.number) (take l.rule-index l.rule-items);
  references : l.links.references ≡ l.fn.links.references ++ flat_map (rule_references l.self.text.now l.self.tables.now l.number) (take l.rule-index l.rule-items);
}
