use Rattle.std.proofs.Common.{arith}
use Rattle.predicate_bounds.specs.Steps.{range_of}
use Rattle.predicate_bounds.proofs.Narrow.{narrowed_more, other_more}
use Rattle.predicate_bounds.proofs.ranges.intersection_of.Goals as goal

pub loop-i-preserved-then-range-column : goal.loop-i-preserved-then-range-column
loop-i-preserved-then-range-column c = (
  omega arith,
  narrowed_more c.args.ranges.now c.loop-i.i c.index-ranges-i.result c.args.column (range_of c.loop-i.one) (range_of c.in_ok-one.one) (omega arith) (omega arith) c.index-ranges-i.is c.if-range-column.true
      c.loop-i.invariant.1 c.in_ok-one.ensures,
)

pub loop-i-preserved : goal.loop-i-preserved
loop-i-preserved c = (
  omega arith,
  other_more c.args.ranges.now c.loop-i.i c.index-ranges-i.result c.args.column (range_of c.loop-i.one) (omega arith) (omega arith) c.index-ranges-i.is c.if-range-column.false c.loop-i.invariant.1,
)
