use Rattle.std.proofs.Common.{arith}
use Rattle.stats_words.proofs.ListFacts.{list_read_end, list_read_step, list_refused, list_refused_at_end, may_push}
use Rattle.stats_words.proofs.lists.runs.Goals as goal

pub returns-in_default-next_run : goal.returns-in_default-next_run
returns-in_default-next_run c =
    list_refused c.args.rows c.args.word.now c.runs.rest.now c.in-Some.first.now c.in-Some.others.now c.runs.list c.runs.below c.runs.left
    (omega (arith, c.ranges.rows)) c.requires c.runs.invariant c.in-Some.ensures c.in_default-next_run.ensures

pub push_run-requires-clause-descends : goal.push_run-requires-clause-descends
push_run-requires-clause-descends c =
    may_push c.args.rows c.args.word.now c.runs.rest.now c.runs.list c.runs.below c.runs.left c.in-Some-next_run.run' c.runs.invariant c.in-Some-next_run.ensures.0

pub runs-preserved : goal.runs-preserved
runs-preserved c =
    list_read_step c.args.rows c.args.word.now c.runs.rest.now c.in-Some.first.now c.in-Some.others.now c.runs.list c.push_run.new.self c.runs.below c.runs.left
    c.in-Some-next_run.run' c.runs.invariant c.in-Some.ensures c.in-Some-next_run.ensures c.in_ok-push_run.ensures.ok

pub returns-in_default-next_run-2 : goal.returns-in_default-next_run-2
returns-in_default-next_run-2 c =
    list_refused_at_end c.args.rows c.args.word.now c.runs.rest.now c.runs.list c.runs.below c.runs.left
    (omega (arith, c.ranges.rows)) c.requires c.runs.invariant c.in_default.ensures c.in_default-next_run-2.ensures

pub push_run-requires-2-clause-descends : goal.push_run-requires-2-clause-descends
push_run-requires-2-clause-descends c =
    may_push c.args.rows c.args.word.now c.runs.rest.now c.runs.list c.runs.below c.runs.left c.in-Some-next_run-2.run' c.runs.invariant c.in-Some-next_run-2.ensures.0

pub returns : goal.returns
returns c =
    list_read_end c.args.rows c.args.word.now c.runs.rest.now c.runs.list c.push_run-2.new.self c.runs.below c.runs.left c.in-Some-next_run-2.run'
    (omega (arith, c.ranges.rows)) c.runs.invariant c.in-Some-next_run-2.ensures c.in_ok-push_run-2.ensures.ok
