use Rattle.std.proofs.Common.{◌≤◌, ◌^◌, ℕ, List, sum, ap, sym, ◌∙◌, subst, arith}
use Rattle.std.proofs.lemmas.List.{take_all}
use Rattle.safebound_lists.specs.Runs.{list_of}
use Rattle.safebound_lists.proofs.Following.{next_falls, next_list, next_room, valid_sum}
use Rattle.safebound_lists.proofs.runs.pieces_of.Goals as goal

pub push_run-requires-clause-descends : goal.push_run-requires-clause-descends
push_run-requires-clause-descends c =
    next_falls c.args.runs.now c.loop-run.run-index c.from.result c.loop-run.pieces c.loop-run.invariant c.from.ensures c.loop-run-test.true c.requires

pub push_run-requires-clause-room : goal.push_run-requires-clause-room
push_run-requires-clause-room c =
    next_room c.args.runs.now c.loop-run.run-index c.from.result c.loop-run.pieces c.loop-run.invariant c.from.ensures c.loop-run-test.true c.requires

pub loop-run-preserved : goal.loop-run-preserved
loop-run-preserved c =
    next_list c.args.runs.now c.loop-run.run-index c.from.result c.loop-run.pieces c.loop-run.invariant c.from.ensures c.loop-run-test.true c.requires
    c.push_run.new.self c.in_ok-push_run.ensures.ok

pub returns-clause-pieces : goal.returns-clause-pieces
returns-clause-pieces c = c.loop-run.invariant ∙ ap list_of (take_all c.loop-run.run-index c.args.runs.now (omega arith))

pub returns-clause-small : goal.returns-clause-small
returns-clause-small c =
    subst (λ (s : List ℕ). sum s ≤ 2 ^ 48) (sym (c.loop-run.invariant ∙ ap list_of (take_all c.loop-run.run-index c.args.runs.now (omega arith)))) (valid_sum c.args.runs.now c.requires)
