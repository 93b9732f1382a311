use Rattle.std.proofs.Common.{◌≤◌, get_or, take, sym, subst}
use Rattle.std.specs.List.{All}
use Rattle.piece_math.proofs.Falling.{at_least_element}
use Rattle.piece_math.proofs.FallingRuns.{one_run_more}
use Rattle.piece_math.proofs.pieces.Pieces.from_list.Goals as goal

pub push_run-requires-clause-descends : goal.push_run-requires-clause-descends
push_run-requires-clause-descends c =
    let above : All (λ x. get_or c.args.list.now c.runs.start 0 ≤ x) (take c.runs.start c.args.list.now) = at_least_element c.args.list.now c.requires.descends c.runs.start in
    rw c.from.ensures (subst (All (λ x. get_or c.args.list.now c.runs.start 0 ≤ x)) (sym c.runs.invariant.so_far) above)

pub runs-preserved : goal.runs-preserved
runs-preserved c = record {
  within = c.run_length-count.ensures.within;
  so_far = one_run_more c.args.list.now c.runs.pieces c.push_run.new.self c.runs.start c.run_length-count.result c.from.result c.run_length-count.ensures.within
      c.run_length-count.ensures.equal (c.requires.positive c.runs.start 0 c.runs-test.true) c.runs.invariant.so_far c.from.ensures c.in_ok-push_run.ensures.ok;
}
