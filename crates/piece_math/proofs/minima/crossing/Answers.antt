use Rattle.std.proofs.Common.{arith}
use Rattle.piece_math.proofs.Bends.{IsBend-straight, IsBend-crossing}
use Rattle.piece_math.proofs.minima.crossing.Goals as goal

pub returns-then-whole-from : goal.returns-then-whole-from
returns-then-whole-from c = IsBend-straight c.args.low c.args.high c.args.count c.requires (omega arith) (omega (arith, c.from.ensures))

pub returns : goal.returns
returns c = IsBend-crossing c.args.low c.args.high c.args.count c.requires (omega arith) (omega (arith, c.from.ensures))
