use Rattle.safebound_words.proofs.Steps.{true_on_err, end_step, flag_again, flag_step, joined_refused, joined_step, option_step, positional_refused, positional_step, unknown_refused, wanted}
use Rattle.safebound_words.proofs.line.Line.take_item.Goals as goal

pub returns-in-End-clause-ok : goal.returns-in-End-clause-ok
returns-in-End-clause-ok c = end_step c.args.name c.args.self.now c.args.word.now c.in-End.ensures

pub returns-in_ok-add_positional-in-Positional-clause-ok : goal.returns-in_ok-add_positional-in-Positional-clause-ok
returns-in_ok-add_positional-in-Positional-clause-ok c =
    positional_step c.args.name c.add_positional.new.self c.args.self.now c.args.word.now c.in-Positional.ensures
    c.in_ok-add_positional-in-Positional.ensures.ok
    (record { values = c.in_ok-add_positional-in-Positional.ensures.given; times = c.in_ok-add_positional-in-Positional.ensures.times })

pub returns-in_err-add_positional-in-Positional-clause-err : goal.returns-in_err-add_positional-in-Positional-clause-err
returns-in_err-add_positional-in-Positional-clause-err c =
    true_on_err c.from_residual.result
    (positional_refused c.args.name c.args.self.now c.args.word.now c.in-Positional.ensures c.in_err-add_positional-in-Positional.ensures.full)

pub returns-in_ok-add_flag-in-Flag-clause-ok : goal.returns-in_ok-add_flag-in-Flag-clause-ok
returns-in_ok-add_flag-in-Flag-clause-ok c =
    flag_step c.args.name c.add_flag.new.self c.args.self.now c.args.word.now c.in-Flag.flag c.in-Flag.ensures
    c.in_ok-add_flag-in-Flag.ensures.positionals c.in_ok-add_flag-in-Flag.ensures.given c.in_ok-add_flag-in-Flag.ensures.ok

pub returns-in_err-add_flag-in-Flag-clause-err : goal.returns-in_err-add_flag-in-Flag-clause-err
returns-in_err-add_flag-in-Flag-clause-err c =
    true_on_err c.from_residual-in_err-add_flag-in-Flag.result
    (flag_again c.args.name c.args.self.now c.args.word.now c.in-Flag.flag c.in-Flag.ensures c.in_err-add_flag-in-Flag.ensures.again)

pub returns-in-Option-clause-ok : goal.returns-in-Option-clause-ok
returns-in-Option-clause-ok c = option_step c.args.name c.args.self.now c.args.word.now c.in-Option.option c.in-Option.ensures

pub returns-in-Option-clause-fits : goal.returns-in-Option-clause-fits
returns-in-Option-clause-fits c = wanted c.args.name c.args.word.now c.in-Option.option c.in-Option.ensures

pub returns-in_ok-add_value-in-Value-clause-ok : goal.returns-in_ok-add_value-in-Value-clause-ok
returns-in_ok-add_value-in-Value-clause-ok c =
    joined_step c.args.name c.add_value.new.self c.args.self.now c.args.word.now c.in-Value.option c.in-Value.value.now c.in-Value.ensures
    c.in_ok-add_value-in-Value.ensures.positionals c.in_ok-add_value-in-Value.ensures.times c.in_ok-add_value-in-Value.ensures.ok

pub returns-in_err-add_value-in-Value-clause-err : goal.returns-in_err-add_value-in-Value-clause-err
returns-in_err-add_value-in-Value-clause-err c =
    true_on_err c.from_residual-in_err-add_value-in-Value.result
    (joined_refused c.args.name c.args.self.now c.args.word.now c.in-Value.option c.in-Value.value.now c.in-Value.ensures
    c.in_err-add_value-in-Value.ensures.again)

pub returns-in-Unknown-clause-err : goal.returns-in-Unknown-clause-err
returns-in-Unknown-clause-err c = unknown_refused c.args.name c.args.self.now c.args.word.now c.in-Unknown.ensures
