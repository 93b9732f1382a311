use Rattle.std.proofs.Common.{◌<◌, ℕ, length, get_or, refl, subst, sym}
use Rattle.std.specs.List.{All}
use Rattle.join_graph.specs.Conjuncts.{is_own_conjunct}
use Rattle.predicate_bounds.proofs.Own.{all_read, numbers_below, one_read}
use Rattle.predicate_bounds.proofs.reading.read_own.Goals as goal

pub get-cond-requires : goal.get-cond-requires
get-cond-requires c =
    let below : All (λ (n : ℕ). n < length c.args.query.now.conjuncts) c.args.own.now =
    subst (λ ns. All (λ (n : ℕ). n < length c.args.query.now.conjuncts) ns) (sym c.requires) (numbers_below (is_own_conjunct c.args.from) c.args.query.now.conjuncts) in
    below c.loop-number.number-index 0 c.loop-number-test.true

pub loop-number-preserved : goal.loop-number-preserved
loop-number-preserved c =
    one_read c.args.query.now.conjuncts c.args.own.now c.loop-number.number-index (get_or c.args.own.now c.loop-number.number-index 0) c.get-cond.result.now
    c.none-members.result c.loop-number.members c.add_condition.new.self c.new-steps.result c.loop-number.steps c.add_condition.new.steps
    c.loop-number-test.true refl c.get-cond.ensures c.loop-number.invariant c.in_ok-add_condition.ensures

pub returns : goal.returns
returns c =
    all_read c.args.from c.args.query.now.conjuncts c.args.own.now c.loop-number.number-index c.none-members.result c.loop-number.members c.new-steps.result c.loop-number.steps
    c.finish.new.steps c.push.new.self c.push-2.new.self c.requires c.loop-number-test.false c.none-members.ensures.has_answer c.none-members.ensures.ranges c.new-steps.ensures
    c.loop-number.invariant c.in_ok-finish.ensures c.in_ok-push.ensures.ok c.in_ok-push-2.ensures.ok
