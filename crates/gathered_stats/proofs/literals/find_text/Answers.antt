use Rattle.std.proofs.Common.{Some, ap, sym, ◌∙◌}
use Rattle.gathered_stats.proofs.LiteralCells.{absent_text_has_no_cell, found_text_is_cell}
use Rattle.gathered_stats.proofs.literals.find_text.Goals as goal

pub returns-in-Some : goal.returns-in-Some
returns-in-Some c = λ most. found_text_is_cell c.args.pool.now most c.args.text.now c.from.result (sym c.find.ensures ∙ c.in-Some.is ∙ ap Some (sym c.from.ensures))

pub returns-in-None : goal.returns-in-None
returns-in-None c = λ most. absent_text_has_no_cell c.args.pool.now most c.args.text.now c.len-texts.ensures.texts c.utf8.text (sym c.find.ensures ∙ c.in-None.is)
