use Rattle.std.proofs.Common.{arith}
use Rattle.std.proofs.lemmas.Grind.{common_steps}
use Rattle.std.proofs.lemmas.Result.{err_from_is_err_and}
use Rattle.std.proofs.lemmas.List.Folds.{list_any_more}
use Rattle.schema_types.specs.Offences.{rule_offences}
use Rattle.schema_types.proofs.EarlierChecks.{check_first, check_more}
use Rattle.schema_types.proofs.scope.Scope.check_rules.Goals as goal

pub returns-in_err-check_rule : goal.returns-in_err-check_rule
returns-in_err-check_rule c =
    let p = err_from_is_err_and c.from_residual.result c.from_residual.ensures.1 in
    rw (p.1, p.2) (check_first (rule_offences c.args.self.now.text.now c.args.self.now.tables.now c.args.keyed) c.args.rules.now c.rules.rule-index c.rule-item.result c.in_err-check_rule.field-0.0
    (omega arith) c.rule-item.is c.rules.invariant.clean
    (c.in_err-check_rule.ensures _ _ c.rules.invariant.keyed))

pub rules-preserved : goal.rules-preserved
rules-preserved c = record {
  keyed = grind (arith, common_steps, list_any_more);
  clean = check_more (rule_offences c.args.self.now.text.now c.args.self.now.tables.now c.args.keyed) c.args.rules.now c.rules.rule-index c.rule-item.result
      (omega arith) c.rule-item.is c.rules.invariant.clean
      (c.in_ok-check_rule.ensures _ _ c.rules.invariant.keyed);
}
