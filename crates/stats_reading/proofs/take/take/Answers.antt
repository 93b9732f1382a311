use Rattle.std.proofs.Common.{◌≡◌, sym, None, Ok, Err}
use Rattle.stats_reading.specs.Stages.{next_stage}
use Rattle.stats_reading.proofs.Answering.{answers_if_read, refusal_for_any_draft, is_ready, kind_not_allowed, staged}
use Rattle.stats_reading.proofs.Known.{taken_words_are_allowed}
use Rattle.stats_reading.proofs.Stepping.{ended}
use Rattle.stats_reading.proofs.take.take.Goals as goal

pub returns-in_default-clause-answers : goal.returns-in_default-clause-answers
returns-in_default-clause-answers c = λ l is.
    let s = c.args.draft.now in
    let none : next_stage s.stage c.args.line.kind ≡ None = cc in
    kind_not_allowed c.args.schema.now s c.args.line.kind c.args.line.first.now c.args.line.second.now l is none

pub take_words-requires-clause-ready : goal.take_words-requires-clause-ready
take_words-requires-clause-ready c =
    is_ready c.args.draft.now.stage c.args.line.kind c.in-Some.stage c.args.schema.now c.args.draft.now (sym c.in-Some.ensures) c.requires.valid

pub returns-in-Err-clause-answers : goal.returns-in-Err-clause-answers
returns-in-Err-clause-answers c = λ l is.
    let s = c.args.draft.now in
    let t = c.take_words.new.draft in
    refusal_for_any_draft c.args.schema.now s (staged t c.in-Some.stage) t (ended l) c.in-Err.fault
    (answers_if_read c.args.schema.now s t c.args.line.kind c.in-Some.stage c.args.line.first.now c.args.line.second.now l (Err c.in-Err.fault) c.requires.schema c.requires.valid is
    (sym c.in-Some.ensures) c.in-Err.ensures)

pub returns-in-Ok-clause-answers : goal.returns-in-Ok-clause-answers
returns-in-Ok-clause-answers c = λ l is.
    answers_if_read c.args.schema.now c.args.draft.now c.take_words.new.draft c.args.line.kind c.in-Some.stage c.args.line.first.now c.args.line.second.now l (Ok c.in-Ok.field-0)
    c.requires.schema c.requires.valid is (sym c.in-Some.ensures) c.in-Ok.ensures

pub returns-in-Ok-clause-known : goal.returns-in-Ok-clause-known
returns-in-Ok-clause-known c = λ untested.
    taken_words_are_allowed c.args.draft.now.stage c.args.line.kind c.in-Some.stage c.args.schema.now c.args.draft.now c.take_words.new.draft c.args.line.first.now c.args.line.second.now
    c.in-Ok.field-0 (sym c.in-Some.ensures) untested c.requires.empty_second c.requires.valid c.in-Ok.ensures
