use Rattle.std.proofs.Common.{refl, sym, ◌∙◌}
use Rattle.std.proofs.lemmas.Result.{err_from_is_err_and}
use Rattle.ll_grammars.proofs.Loops.{loop_keeps, loop_stops, loop_ends, shorter}
use Rattle.query_grammar.proofs.ClauseRules.{reads_next_part}
use Rattle.query_grammar.proofs.ConditionRules.{reads_within}
use Rattle.query_grammar.proofs.clauses.parts.Goals as goal

pub returns-in_err-part : goal.returns-in_err-part
returns-in_err-part c =
    let p = err_from_is_err_and c.from_residual-in_err-part.result c.from_residual-in_err-part.ensures.1 in
    rw (p.1, p.2) (loop_stops _ _ _ (reads_next_part (reads_within 64)) refl _ c.others.parts c.others.reader _ _ (sym c.starts.ensures ∙ c.others-test.true) c.in_err-part.ensures c.others.invariant)

pub others-smaller : goal.others-smaller
others-smaller c = shorter _ _ _ (reads_next_part (reads_within 64)) refl c.others.reader _ c.next_part.new.reader c.in_ok-part.ensures

pub others-preserved : goal.others-preserved
others-preserved c =
    loop_keeps _ _ _ (reads_next_part (reads_within 64)) refl c.others.parts _ c.others.reader _ c.next_part.new.reader _ (sym c.starts.ensures ∙ c.others-test.true) c.in_ok-part.ensures c.in_ok-push-2.ensures.ok c.others.invariant

pub returns : goal.returns
returns c = loop_ends _ _ _ (reads_next_part (reads_within 64)) refl c.others.parts c.others.reader _ (sym c.starts.ensures ∙ c.others-test.false) c.others.invariant
