use Rattle.std.proofs.Common.{refl, sym, ◌∙◌}
use Rattle.std.proofs.lemmas.Result.{err_from_is_err_and}
use Rattle.ll_grammars.proofs.Loops.{loop_keeps, loop_stops, loop_ends, shorter}
use Rattle.schema_grammar.proofs.Rules.{reads_column_rule}
use Rattle.schema_grammar.proofs.columns.column_rules.Goals as goal

pub returns-in_err-rule : goal.returns-in_err-rule
returns-in_err-rule c =
    let p = err_from_is_err_and c.from_residual.result c.from_residual.ensures.1 in
    rw (p.1, p.2) (loop_stops _ _ _ reads_column_rule refl _ c.others.rules c.others.reader _ _ (sym c.starts.ensures ∙ c.others-test.true) c.in_err-rule.ensures c.others.invariant)

pub others-smaller : goal.others-smaller
others-smaller c = shorter _ _ _ reads_column_rule refl c.others.reader _ c.column_rule.new.reader c.in_ok-rule.ensures

pub others-preserved : goal.others-preserved
others-preserved c =
    loop_keeps _ _ _ reads_column_rule refl c.others.rules _ c.others.reader _ c.column_rule.new.reader _ (sym c.starts.ensures ∙ c.others-test.true) c.in_ok-rule.ensures c.in_ok-push.ensures.ok c.others.invariant

pub returns : goal.returns
returns c = loop_ends _ _ _ reads_column_rule refl c.others.rules c.others.reader _ (sym c.starts.ensures ∙ c.others-test.false) c.others.invariant
