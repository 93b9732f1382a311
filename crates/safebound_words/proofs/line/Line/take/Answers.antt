use Rattle.safebound_words.proofs.Steps.{true_on_err, after_dashes_refused, after_dashes_step, value_refused, value_step}
use Rattle.safebound_words.proofs.line.Line.take.Goals as goal

pub returns-in_ok-add_positional-in-Positional-clause-ok : goal.returns-in_ok-add_positional-in-Positional-clause-ok
returns-in_ok-add_positional-in-Positional-clause-ok c =
    let next = c.in-Positional.is in
    rw next (after_dashes_step c.args.name c.add_positional.new.self c.args.self.now c.args.word.now
    c.in_ok-add_positional-in-Positional.ensures.ok
    (record { values = c.in_ok-add_positional-in-Positional.ensures.given; times = c.in_ok-add_positional-in-Positional.ensures.times }))

pub returns-in_err-add_positional-in-Positional-clause-err : goal.returns-in_err-add_positional-in-Positional-clause-err
returns-in_err-add_positional-in-Positional-clause-err c =
    true_on_err c.from_residual.result
    (let next = c.in-Positional.is in rw next (after_dashes_refused c.args.name c.args.self.now c.args.word.now c.in_err-add_positional-in-Positional.ensures.full))

pub returns-in_ok-add_value-in-Value-clause-ok : goal.returns-in_ok-add_value-in-Value-clause-ok
returns-in_ok-add_value-in-Value-clause-ok c =
    let next = c.in-Value.is in
    rw next (value_step c.args.name c.add_value.new.self c.args.self.now c.in-Value.option c.args.word.now
    c.in_ok-add_value-in-Value.ensures.positionals c.in_ok-add_value-in-Value.ensures.times c.in_ok-add_value-in-Value.ensures.ok)

pub returns-in_err-add_value-in-Value-clause-err : goal.returns-in_err-add_value-in-Value-clause-err
returns-in_err-add_value-in-Value-clause-err c =
    true_on_err c.from_residual-in_err-add_value-in-Value.result
    (let next = c.in-Value.is in
    let fits = c.requires in
    rw next (value_refused c.args.name c.args.self.now c.in-Value.option c.args.word.now (rw next at fits) c.in_err-add_value-in-Value.ensures.again))
