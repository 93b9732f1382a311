use Rattle.std.proofs.Common.{◌∙◌, sym, refl}
use Rattle.safebound_words.proofs.WholeLines.{named_words, no_words, unnamed_words}
use Rattle.safebound_words.proofs.words.command_in.Goals as goal

pub returns-in_err-first : goal.returns-in_err-first
returns-in_err-first c = rw (c.from_residual.ensures, no_words c.args.words.now c.in_err-first.ensures.cases) refl

pub returns-in_err-name : goal.returns-in_err-name
returns-in_err-name c =
    rw (
      c.from_residual-in_err-name.ensures,
      unnamed_words c.args.words.now c.in_ok-first.behind.now c.in_ok-first.first.now c.in_ok-first.ensures.cases.0 (sym c.in_err-name.ensures),
    ) refl

pub returns-in-Ok : goal.returns-in-Ok
returns-in-Ok c =
    c.command_of.ensures ∙ c.in-Ok.ensures.ok
    ∙ sym (named_words c.args.words.now c.in_ok-first.behind.now c.in_ok-first.first.now c.in_ok-name.name c.in_ok-first.ensures.cases.0 (sym c.in_ok-name.ensures))

pub returns-in-Err : goal.returns-in-Err
returns-in-Err c =
    sym (named_words c.args.words.now c.in_ok-first.behind.now c.in_ok-first.first.now c.in_ok-name.name c.in_ok-first.ensures.cases.0 (sym c.in_ok-name.ensures)
    ∙ c.in-Err.ensures.err)
