use Rattle.std.proofs.Common.{refl, sym, ◌∙◌}
use Rattle.std.proofs.lemmas.Result.{err_from_is_err_and}
use Rattle.ll_grammars.proofs.Loops.{loop_keeps, loop_stops, loop_ends, shorter}
use Rattle.query_grammar.proofs.ConditionRules.{reads_test, reads_next_factor, reads_next_term}
use Rattle.query_grammar.proofs.conditions.+conditions.Goals as goal

pub factors-returns-in_err-factor : goal.factors-returns-in_err-factor
factors-returns-in_err-factor t c =
    let p = err_from_is_err_and c.from_residual-in_err-factor.result c.from_residual-in_err-factor.ensures.1 in
    rw (p.1, p.2) (loop_stops _ _ _ (reads_next_factor (reads_test c.args.depth)) refl _ c.others.factors c.others.reader _ _ (sym c.starts.ensures ∙ c.others-test.true) c.in_err-factor.ensures c.others.invariant)

pub factors-others-smaller : goal.factors-others-smaller
factors-others-smaller t c = shorter _ _ _ (reads_next_factor (reads_test c.args.depth)) refl c.others.reader _ c.next_factor.new.reader c.in_ok-factor.ensures

pub factors-others-preserved : goal.factors-others-preserved
factors-others-preserved t c =
    loop_keeps _ _ _ (reads_next_factor (reads_test c.args.depth)) refl c.others.factors _ c.others.reader _ c.next_factor.new.reader _ (sym c.starts.ensures ∙ c.others-test.true) c.in_ok-factor.ensures c.in_ok-push-2.ensures.ok c.others.invariant

pub factors-returns : goal.factors-returns
factors-returns t c = loop_ends _ _ _ (reads_next_factor (reads_test c.args.depth)) refl c.others.factors c.others.reader _ (sym c.starts.ensures ∙ c.others-test.false) c.others.invariant

pub terms-returns-in_err-term : goal.terms-returns-in_err-term
terms-returns-in_err-term t c =
    let p = err_from_is_err_and c.from_residual-in_err-term.result c.from_residual-in_err-term.ensures.1 in
    rw (p.1, p.2) (loop_stops _ _ _ (reads_next_term (reads_test c.args.depth)) refl _ c.others.terms c.others.reader _ _ (sym c.starts.ensures ∙ c.others-test.true) c.in_err-term.ensures c.others.invariant)

pub terms-others-smaller : goal.terms-others-smaller
terms-others-smaller t c = shorter _ _ _ (reads_next_term (reads_test c.args.depth)) refl c.others.reader _ c.next_term.new.reader c.in_ok-term.ensures

pub terms-others-preserved : goal.terms-others-preserved
terms-others-preserved t c =
    loop_keeps _ _ _ (reads_next_term (reads_test c.args.depth)) refl c.others.terms _ c.others.reader _ c.next_term.new.reader _ (sym c.starts.ensures ∙ c.others-test.true) c.in_ok-term.ensures c.in_ok-push-2.ensures.ok c.others.invariant

pub terms-returns : goal.terms-returns
terms-returns t c = loop_ends _ _ _ (reads_next_term (reads_test c.args.depth)) refl c.others.terms c.others.reader _ (sym c.starts.ensures ∙ c.others-test.false) c.others.invariant
