use Rattle.std.proofs.Common.{refl, sym, ◌∙◌}
use Rattle.std.proofs.lemmas.Result.{err_from_is_err_and}
use Rattle.ll_grammars.proofs.Loops.{loop_keeps, loop_stops, loop_ends, shorter}
use Rattle.schema_grammar.proofs.Rules.{reads_next_element}
use Rattle.schema_grammar.proofs.tables.elements.Goals as goal

pub returns-in_err-element : goal.returns-in_err-element
returns-in_err-element c =
    let p = err_from_is_err_and c.from_residual-in_err-element.result c.from_residual-in_err-element.ensures.1 in
    rw (p.1, p.2) (loop_stops _ _ _ reads_next_element refl _ c.others.elements c.others.reader _ _ (sym c.starts.ensures ∙ c.others-test.true) c.in_err-element.ensures c.others.invariant)

pub others-smaller : goal.others-smaller
others-smaller c = shorter _ _ _ reads_next_element refl c.others.reader _ c.next_element.new.reader c.in_ok-element.ensures

pub others-preserved : goal.others-preserved
others-preserved c =
    loop_keeps _ _ _ reads_next_element refl c.others.elements _ c.others.reader _ c.next_element.new.reader _ (sym c.starts.ensures ∙ c.others-test.true) c.in_ok-element.ensures c.in_ok-push-2.ensures.ok c.others.invariant

pub returns : goal.returns
returns c = loop_ends _ _ _ reads_next_element refl c.others.elements c.others.reader _ (sym c.starts.ensures ∙ c.others-test.false) c.others.invariant
