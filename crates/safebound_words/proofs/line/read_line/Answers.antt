use Rattle.std.proofs.Common.{map, arith, inl, inr}
use Rattle.safebound_words.proofs.Steps.{line_ended_after_dashes, first_asked, line_ended, value_missing}
use Rattle.safebound_words.proofs.line.read_line.Goals as goal

pub words-init : goal.words-init
words-init c = record {
  asked = first_asked c.args.name (map (λ w. w.now) c.args.words.now);
  fits = tt;
}

pub returns-in-Value-clause-err : goal.returns-in-Value-clause-err
returns-in-Value-clause-err c =
    let asked = c.words.invariant.asked in
    let next = c.in-Value.is in
    value_missing c.args.name c.words.line c.in-Value.field-0 c.args.words.now c.words.word-index _ (omega arith) (rw next at asked)

pub returns-in-Item : goal.returns-in-Item
returns-in-Item c =
    let asked = c.words.invariant.asked in
    record {
      ok = elim c.in-Item.is [
        | inl next ↦ line_ended c.args.name c.words.line c.args.words.now c.words.word-index _ (omega arith) (rw next at asked)
        | inr next ↦ line_ended_after_dashes c.args.name c.words.line c.args.words.now c.words.word-index _ (omega arith) (rw next at asked)
      ];
      err = tt;
    }
