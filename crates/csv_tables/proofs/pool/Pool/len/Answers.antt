use Rattle.csv_tables.proofs.PoolFacts.{different_texts, utf8_texts}
use Rattle.csv_tables.proofs.pool.Pool.len.Goals as goal

pub returns-clause-different : goal.returns-clause-different
returns-clause-different c = rw (← c.self.view_is) (different_texts c.self.inside.texts.keys c.len.ensures.unique)

pub returns-clause-texts : goal.returns-clause-texts
returns-clause-texts c = rw (← c.self.view_is) (utf8_texts c.self.inside.texts.keys)
