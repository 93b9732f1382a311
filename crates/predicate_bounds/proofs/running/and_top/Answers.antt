use Rattle.std.proofs.lemmas.Result.{on_ok_weaker}
use Rattle.predicate_bounds.proofs.Stacks.{and_total}
use Rattle.predicate_bounds.proofs.running.and_top.Goals as goal

pub returns-clause-total : goal.returns-clause-total
returns-clause-total c =
    on_ok_weaker c.push-2.result (and_total c.args.stack.now c.pop.new.self c.pop-2.new.self c.push-2.new.self c.in-Some-pop.x c.in-Some.y c.in_ok-list.list
    c.in-Some.ensures c.in-Some-pop.ensures c.in_ok-list.ensures.value) c.push-2.ensures.ok
