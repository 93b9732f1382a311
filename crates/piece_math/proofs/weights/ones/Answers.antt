use Rattle.std.proofs.Common.{subst}
use Rattle.piece_math.specs.Expanded.{IsAppended}
use Rattle.piece_math.proofs.Weighing.{weights_without_children}
use Rattle.piece_math.proofs.weights.ones.Goals as goal

pub returns : goal.returns
returns c = weights_without_children c.args.rows (subst (λ s. IsAppended s c.put.new.self 1 c.args.rows) c.empty-weights.ensures c.in_ok-put.ensures)
