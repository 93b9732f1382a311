use Rattle.level_bounds.proofs.CellKeys.{characters_differ}
use Rattle.gathered_stats.proofs.gather.characters_differ.Goals as goal

pub returns : goal.returns
returns c = characters_differ c.args.pool.now c.len.ensures.texts c.len.ensures.different
