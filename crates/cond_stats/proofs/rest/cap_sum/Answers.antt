use Rattle.std.proofs.Common.{◌≡◌, ◌-◌, ◌+◌, get_or, sym, subst, ◌∙◌, arith}
use Rattle.std.proofs.lemmas.List.{get_or_past}
use Rattle.cond_stats.proofs.CutLists.{IsCappedSoFar, capped_none_yet, cap_step, cap_done}
use Rattle.cond_stats.proofs.rest.cap_sum.Goals as goal

pub loop-degree-init : goal.loop-degree-init
loop-degree-init c = subst (λ list. IsCappedSoFar c.args.falling.now c.args.most 0 c.args.most list) (sym c.new-list.ensures.items) (capped_none_yet c.args.falling.now c.args.most)

pub returns-then-taken-eq0 : goal.returns-then-taken-eq0
returns-then-taken-eq0 c = cap_done c.args.falling.now c.args.most c.loop-degree.degree-index c.loop-degree.left c.loop-degree.list.items c.requires c.loop-degree.invariant
    (sym c.min-taken.ensures ∙ c.if-taken-eq0.true)

pub loop-degree-preserved : goal.loop-degree-preserved
loop-degree-preserved c = subst (IsCappedSoFar c.args.falling.now c.args.most (c.loop-degree.degree-index + 1) (c.loop-degree.left - c.min-taken.result)) (sym c.in_ok-push.ensures.items)
    (cap_step c.args.falling.now c.args.most c.loop-degree.degree-index c.loop-degree.left c.min-taken.result c.loop-degree.list.items c.loop-degree.invariant c.min-taken.ensures
    (omega (arith, c.if-taken-eq0.false)))

pub returns : goal.returns
returns c =
    let past : get_or c.args.falling.now c.loop-degree.degree-index 0 ≡ 0 = get_or_past c.args.falling.now c.loop-degree.degree-index 0 c.loop-degree-test.false in
    cap_done c.args.falling.now c.args.most c.loop-degree.degree-index c.loop-degree.left c.loop-degree.list.items c.requires c.loop-degree.invariant (omega (arith, past))
