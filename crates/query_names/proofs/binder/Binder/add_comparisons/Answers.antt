use Rattle.std.proofs.Common.{[], ◌∷◌, ap}
use Rattle.std.proofs.lemmas.Result.{err_from_is_err_and}
use Rattle.query_names.specs.Offences.{others_of}
use Rattle.query_names.proofs.BoundFacts.{wrong_left, wrong_other, wrong_second, compare_checked, between_checked, in_checked}
use Rattle.query_names.proofs.binder.Binder.add_comparisons.Goals as goal

pub returns-in_err-left-clause-err : goal.returns-in_err-left-clause-err
returns-in_err-left-clause-err c =
    let p = err_from_is_err_and c.from_residual.result c.from_residual.ensures.1 in
    rw (p.1, p.2) (wrong_left c.args.self.now c.args.visible.now.scope c.args.test.now c.in_err-left.field-0.0 c.left_of.ensures c.in_err-left.ensures.err)

pub returns-in_err-right-in-Compare-clause-err : goal.returns-in_err-right-in-Compare-clause-err
returns-in_err-right-in-Compare-clause-err c =
    let p = err_from_is_err_and c.from_residual-in_err-right-in-Compare.result c.from_residual-in_err-right-in-Compare.ensures.1 in
    rw (p.1, p.2) (wrong_other c.args.self.now c.args.visible.now.scope c.args.test.now [] c.in_err-right-in-Compare.field-0.0 c.left_of.ensures (ap others_of c.in-Compare.is)
    c.in_ok-left.ensures.ok.none c.in_err-right-in-Compare.ensures.err)

pub returns-in_err-low-in-Between-clause-err : goal.returns-in_err-low-in-Between-clause-err
returns-in_err-low-in-Between-clause-err c =
    let p = err_from_is_err_and c.from_residual-in_err-low-in-Between.result c.from_residual-in_err-low-in-Between.ensures.1 in
    rw (p.1, p.2) (wrong_other c.args.self.now c.args.visible.now.scope c.args.test.now (c.in-Between.high ∷ []) c.in_err-low-in-Between.field-0.0 c.left_of.ensures (ap others_of c.in-Between.is)
    c.in_ok-left.ensures.ok.none c.in_err-low-in-Between.ensures.err)

pub returns-in_err-high-in-Between-clause-err : goal.returns-in_err-high-in-Between-clause-err
returns-in_err-high-in-Between-clause-err c =
    let p = err_from_is_err_and c.from_residual-in_err-high-in-Between.result c.from_residual-in_err-high-in-Between.ensures.1 in
    rw (p.1, p.2) (wrong_second c.args.self.now c.args.visible.now.scope c.args.test.now c.in_err-high-in-Between.field-0.0 c.left_of.ensures (ap others_of c.in-Between.is)
    c.in_ok-left.ensures.ok.none c.in_ok-low-in-Between.ensures.ok.none c.in_err-high-in-Between.ensures.err)

pub returns-in-Compare-clause-ok : goal.returns-in-Compare-clause-ok
returns-in-Compare-clause-ok c =
    compare_checked c.in-Compare.op c.in-Compare.is c.left_of.ensures c.in_ok-left.ensures.ok c.in_ok-right-in-Compare.ensures.ok c.in_ok-compare-in-Compare.ensures

pub returns-in-Between-clause-ok : goal.returns-in-Between-clause-ok
returns-in-Between-clause-ok c =
    between_checked c.in-Between.negated c.in-Between.is c.left_of.ensures c.in_ok-left.ensures.ok c.in_ok-low-in-Between.ensures.ok c.in_ok-high-in-Between.ensures.ok
    c.in_ok-compare-in-Between.ensures c.in_ok-compare-in-Between-2.ensures

pub returns-clause-ok : goal.returns-clause-ok
returns-clause-ok c =
    in_checked c.in-In.negated c.in-In.is c.as_slice.ensures c.left_of.ensures c.in_ok-left.ensures.ok c.note_list.ensures.list c.note_list.ensures.kind c.in_ok-add_equalities-in-In.ensures
