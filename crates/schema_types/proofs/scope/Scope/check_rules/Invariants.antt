use Rattle.std.proofs.Common.{◌≡◌, ◌||◌, [], take}
use Rattle.std.specs.List.{list_any}
use Rattle.schema_types.specs.Declarations.{is_primary_rule}
use Rattle.schema_types.specs.Names.{flat_map_with_all_earlier}
use Rattle.schema_types.specs.Offences.{rule_offences}
use Rattle.schema_types.proofs.scope.Scope.check_rules.Given as goal

abbrev pub invariant-rules : goal.invariant-rules
invariant-rules l = record {
  keyed : l.keyed_here ≡ (l.fn.keyed || list_any is_primary_rule (take l.rule-index l.rules));
  clean : flat_map_with_all_earlier (rule_offences l.fn.self.text.now l.fn.self.tables.now l.fn.keyed) (take l.rule-index l.rules) ≡ [];
}
