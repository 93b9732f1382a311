use Rattle.std.proofs.Common.{refl, sym, ◌∙◌}
use Rattle.std.proofs.lemmas.Result.{err_from_is_err_and}
use Rattle.ll_grammars.proofs.Loops.{loop_keeps, loop_stops, loop_ends, shorter}
use Rattle.query_grammar.proofs.OperandRules.{reads_next_literal}
use Rattle.query_grammar.proofs.operands.literals.Goals as goal

pub returns-in_err-literal : goal.returns-in_err-literal
returns-in_err-literal c =
    let p = err_from_is_err_and c.from_residual-in_err-literal.result c.from_residual-in_err-literal.ensures.1 in
    rw (p.1, p.2) (loop_stops _ _ _ reads_next_literal refl _ c.others.literals c.others.reader _ _ (sym c.starts.ensures ∙ c.others-test.true) c.in_err-literal.ensures c.others.invariant)

pub others-smaller : goal.others-smaller
others-smaller c = shorter _ _ _ reads_next_literal refl c.others.reader _ c.next_literal.new.reader c.in_ok-literal.ensures

pub others-preserved : goal.others-preserved
others-preserved c =
    loop_keeps _ _ _ reads_next_literal refl c.others.literals _ c.others.reader _ c.next_literal.new.reader _ (sym c.starts.ensures ∙ c.others-test.true) c.in_ok-literal.ensures c.in_ok-push-2.ensures.ok c.others.invariant

pub returns : goal.returns
returns c = loop_ends _ _ _ reads_next_literal refl c.others.literals c.others.reader _ (sym c.starts.ensures ∙ c.others-test.false) c.others.invariant
