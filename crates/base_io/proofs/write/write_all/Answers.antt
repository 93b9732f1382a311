use Rattle.std.proofs.Common.{arith}
use Rattle.std.proofs.lemmas.Grind.{common_steps}
use Rattle.base_io.proofs.SinkFacts.{took_more}
use Rattle.base_io.proofs.write.write_all.Goals as goal

pub rest-preserved : goal.rest-preserved
rest-preserved g c = record {
  within = grind (arith, common_steps);
  later = omega arith;
  took = took_more _ _ _ _ _ _ c.rest.invariant.took c.in_ok-done.ensures.took;
}
