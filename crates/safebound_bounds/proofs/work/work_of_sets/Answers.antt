use Rattle.std.proofs.Common.{ap, arith, ◌∙◌}
use Rattle.std.proofs.lemmas.List.FromFn.{sum_by-map-range_with_len_more}
use Rattle.safebound_bounds.specs.Work.{work_of_set}
use Rattle.safebound_bounds.proofs.work.work_of_sets.Goals as goal

pub loop-bits-preserved : goal.loop-bits-preserved
loop-bits-preserved c = record {
  is = omega (
    arith,
    c.loop-bits.invariant.is,
    c.work_of_set-work.ensures.is ∙ ap (work_of_set c.args.lists.now c.args.parts.now.equalities) c.from_bits.ensures,
    sum_by-map-range_with_len_more (λ n. n) (work_of_set c.args.lists.now c.args.parts.now.equalities) 0 c.loop-bits.bits c.loop-bits.bits (omega arith),
  );
  few = omega (arith, c.loop-bits.invariant.few, c.work_of_set-work.ensures.few);
}
