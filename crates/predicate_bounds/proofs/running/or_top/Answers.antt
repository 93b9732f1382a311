use Rattle.std.proofs.Common.{List, ℕ, ◌≡◌, ◌++◌, ◌∷◌, [], ◌∙◌, ap}
use Rattle.std.proofs.lemmas.Result.{on_ok_weaker}
use Rattle.degree_sequences.specs.ByRank.{rank_sum}
use Rattle.predicate_bounds.proofs.Stacks.{or_total, or_exact, reverse_of_combined}
use Rattle.predicate_bounds.proofs.running.or_top.Goals as goal

pub returns-clause-lists : goal.returns-clause-lists
returns-clause-lists c =
    let exact : c.in_ok-list.list ≡ rank_sum c.in-Some-pop.x c.in-Some.y =
    or_exact c.args.stack.now c.pop.new.self c.pop-2.new.self c.in-Some-pop.x c.in-Some.y c.in_ok-list.list c.in-Some.ensures c.in-Some-pop.ensures c.requires c.in_ok-list.ensures.value in
    on_ok_weaker c.push-2.result (λ pushed. reverse_of_combined rank_sum c.args.stack.now c.pop.new.self c.pop-2.new.self c.push-2.new.self c.in-Some-pop.x c.in-Some.y
    c.in-Some.ensures c.in-Some-pop.ensures (pushed ∙ ap (λ (z : List ℕ). c.pop-2.new.self ++ z ∷ []) exact)) c.push-2.ensures.ok

pub returns-clause-total : goal.returns-clause-total
returns-clause-total c =
    on_ok_weaker c.push-2.result (or_total c.args.stack.now c.pop.new.self c.pop-2.new.self c.push-2.new.self c.in-Some-pop.x c.in-Some.y c.in_ok-list.list
    c.in-Some.ensures c.in-Some-pop.ensures (or_exact c.args.stack.now c.pop.new.self c.pop-2.new.self c.in-Some-pop.x c.in-Some.y c.in_ok-list.list c.in-Some.ensures c.in-Some-pop.ensures c.requires c.in_ok-list.ensures.value)) c.push-2.ensures.ok
