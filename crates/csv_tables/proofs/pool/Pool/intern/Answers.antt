use Rattle.std.proofs.Common.{sym, ◌∙◌}
use Rattle.csv_tables.proofs.PoolFacts.{known_text, place_of_insert, stored_text, text_at_place, texts_of_insert}
use Rattle.csv_tables.proofs.pool.Pool.intern.Goals as goal

pub returns-in-Some-clause-number : goal.returns-in-Some-clause-number
returns-in-Some-clause-number c = text_at_place c.args.self.now c.args.text.now c.in-Some.code (sym c.in-Some.ensures)

pub returns-in-Some-clause-texts : goal.returns-in-Some-clause-texts
returns-in-Some-clause-texts c = known_text c.args.self.now c.args.text.now c.in-Some.code (sym c.in-Some.ensures)

pub returns-clause-number : goal.returns-clause-number
returns-clause-number c =
    let at = c.in_ok-code.ensures.stored in
    stored_text c.insert_full.new.self.keys c.in_ok-owned.owned c.in_ok-code.code at.0 c.args.text.now c.in_ok-owned.ensures.ok at.1 at.2

pub returns-clause-place : goal.returns-clause-place
returns-clause-place c = rw (← c.self.view_is) (c.in_ok-code.ensures.index ∙ place_of_insert c.self.inside.texts.keys c.in_ok-owned.owned c.args.text.now c.in_ok-owned.ensures.ok)

pub returns-clause-texts : goal.returns-clause-texts
returns-clause-texts c = rw (← c.self.view_is, c.in_ok-code.ensures.keys) (texts_of_insert c.self.inside.texts.keys c.in_ok-owned.owned c.args.text.now c.in_ok-owned.ensures.ok)
