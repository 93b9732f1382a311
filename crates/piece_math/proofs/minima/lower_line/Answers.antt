use Rattle.piece_math.proofs.Bends.{IsBend-turned}
use Rattle.piece_math.proofs.minima.lower_line.Goals as goal

pub returns-else-left-right : goal.returns-else-left-right
returns-else-left-right c = IsBend-turned c.args.left c.args.right c.args.count c.crossing-else-left-right.result c.crossing-else-left-right.ensures
