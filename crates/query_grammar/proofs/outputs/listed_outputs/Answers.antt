use Rattle.std.proofs.Common.{refl, sym, ◌∙◌}
use Rattle.std.proofs.lemmas.Result.{err_from_is_err_and}
use Rattle.ll_grammars.proofs.Loops.{loop_keeps, loop_stops, loop_ends, shorter}
use Rattle.query_grammar.proofs.OutputRules.{reads_next_out}
use Rattle.query_grammar.proofs.outputs.listed_outputs.Goals as goal

pub returns-in_err-out : goal.returns-in_err-out
returns-in_err-out c =
    let p = err_from_is_err_and c.from_residual-in_err-out.result c.from_residual-in_err-out.ensures.1 in
    rw (p.1, p.2) (loop_stops _ _ _ reads_next_out refl _ c.others.outs c.others.reader _ _ (sym c.starts.ensures ∙ c.others-test.true) c.in_err-out.ensures c.others.invariant)

pub others-smaller : goal.others-smaller
others-smaller c = shorter _ _ _ reads_next_out refl c.others.reader _ c.next_output.new.reader c.in_ok-out.ensures

pub others-preserved : goal.others-preserved
others-preserved c =
    loop_keeps _ _ _ reads_next_out refl c.others.outs _ c.others.reader _ c.next_output.new.reader _ (sym c.starts.ensures ∙ c.others-test.true) c.in_ok-out.ensures c.in_ok-push-2.ensures.ok c.others.invariant

pub returns : goal.returns
returns c = loop_ends _ _ _ reads_next_out refl c.others.outs c.others.reader _ (sym c.starts.ensures ∙ c.others-test.false) c.others.invariant
