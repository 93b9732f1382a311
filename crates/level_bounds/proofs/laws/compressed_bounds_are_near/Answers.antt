use Rattle.join_graph.specs.Conjuncts.{equalities_of}
use Rattle.level_bounds.proofs.NearWhole.{near}
use Rattle.level_bounds.proofs.laws.compressed_bounds_are_near.Goals as goal

pub returns : goal.returns
returns c = λ query tables key accuracy b subset are. near tables key accuracy b (equalities_of query) subset are
