use Rattle.std.proofs.Common.{sym, ◌∙◌}
use Rattle.csv_tables.proofs.PoolFacts.{place_of_find}
use Rattle.csv_tables.proofs.pool.Pool.find.Goals as goal

pub returns-in-Some : goal.returns-in-Some
returns-in-Some c = rw (← c.self.view_is) (c.in-Some.ensures.index ∙ sym (place_of_find c.self.inside.texts.keys c.args.text.now))

pub returns-in-None : goal.returns-in-None
returns-in-None c = rw (← c.self.view_is) (c.in-None.ensures.index ∙ sym (place_of_find c.self.inside.texts.keys c.args.text.now))
