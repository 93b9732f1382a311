use Rattle.predicate_bounds.proofs.Finishing.{finish_loop_known_column, finish_loop_new_column}
use Rattle.predicate_bounds.proofs.reading.Members.finish.Goals as goal
use Rattle.predicate_bounds.proofs.reading.Members.finish.Goals.{then-not-has_column+in_ok-intersection_of+in_ok-push+in_ok-add_and, else-not-has_column}

pub loop-i-preserved : goal.loop-i-preserved
loop-i-preserved c = elim c.if-not-has_column.branch [
  | then-not-has_column+in_ok-intersection_of+in_ok-push+in_ok-add_and w ↦
      finish_loop_new_column c.args.self.now c.loop-i.self w.add_and.new.self c.if-not-has_column.self c.args.steps.now c.loop-i.steps w.push.new.self w.add_and.new.steps c.if-not-has_column.steps
      c.len-len.result c.loop-i.i c.index-ranges-i.result w.in_ok-intersection_of.field-0 c.as_slice-ranges.result.now c.has_column.result c.loop-i.invariant c.loop-i-test.true
      c.as_slice-ranges.ensures c.index-ranges-i.is c.has_column.ensures w.if-not-has_column.true w.in_ok-intersection_of.ensures w.in_ok-push.ensures.ok
      w.in_ok-add_and.ensures.steps w.in_ok-add_and.ensures.has_answer w.in_ok-add_and.ensures.ranges w.self-is w.steps-is
  | else-not-has_column w ↦
      finish_loop_known_column c.args.self.now c.loop-i.self c.if-not-has_column.self c.args.steps.now c.loop-i.steps c.if-not-has_column.steps c.len-len.result c.loop-i.i c.index-ranges-i.result
      c.as_slice-ranges.result.now c.has_column.result c.loop-i.invariant c.loop-i-test.true c.as_slice-ranges.ensures c.index-ranges-i.is c.has_column.ensures w.if-not-has_column.false w.self-is w.steps-is
]
