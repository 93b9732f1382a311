use Rattle.std.proofs.Common.{refl, sym, ◌∙◌}
use Rattle.std.proofs.lemmas.Result.{err_from_is_err_and}
use Rattle.ll_grammars.proofs.Loops.{loop_keeps, loop_stops, loop_ends, shorter}
use Rattle.schema_grammar.proofs.Rules.{reads_next_name}
use Rattle.schema_grammar.proofs.names.names.Goals as goal

pub returns-in_err-name : goal.returns-in_err-name
returns-in_err-name c =
    let p = err_from_is_err_and c.from_residual-in_err-name.result c.from_residual-in_err-name.ensures.1 in
    rw (p.1, p.2) (loop_stops _ _ _ reads_next_name refl _ c.others.names c.others.reader _ _ (sym c.starts.ensures ∙ c.others-test.true) c.in_err-name.ensures c.others.invariant)

pub others-smaller : goal.others-smaller
others-smaller c = shorter _ _ _ reads_next_name refl c.others.reader _ c.next_name.new.reader c.in_ok-name.ensures

pub others-preserved : goal.others-preserved
others-preserved c =
    loop_keeps _ _ _ reads_next_name refl c.others.names _ c.others.reader _ c.next_name.new.reader _ (sym c.starts.ensures ∙ c.others-test.true) c.in_ok-name.ensures c.in_ok-push-2.ensures.ok c.others.invariant

pub returns : goal.returns
returns c = loop_ends _ _ _ reads_next_name refl c.others.names c.others.reader _ (sym c.starts.ensures ∙ c.others-test.false) c.others.invariant
