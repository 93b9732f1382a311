use Rattle.stats_reading.specs.Kinds.{words_text}
use Rattle.stats_reading.proofs.Answering.{no_text_continues}
use Rattle.stats_reading.proofs.Known.{answers_if_taken, answers_with_fault, no_words}
use Rattle.stats_reading.proofs.read.take_line.Goals as goal

pub returns-in_default : goal.returns-in_default
returns-in_default c =
    no_text_continues c.args.schema.now c.args.draft.now c.args.text.now (λ k first second is. c.in_default.ensures k (words_text k first second) is.whole)

pub returns-in_default-words_in : goal.returns-in_default-words_in
returns-in_default-words_in c = no_text_continues c.args.schema.now c.args.draft.now c.args.text.now c.in_default-words_in.ensures

pub returns-then-not-may_be_read : goal.returns-then-not-may_be_read
returns-then-not-may_be_read c =
    let w = c.in-Some-words_in in
    no_words c.args.schema.now c.args.draft.now c.in-Some.kind w.first.now w.second.now c.args.text.now w.ensures
    (λ are. let told = c.may_be_read.ensures.1 (λ tested. are) in cc)

pub returns-in-Ok : goal.returns-in-Ok
returns-in-Ok c =
    let w = c.in-Some-words_in in
    answers_if_taken c.args.schema.now c.args.draft.now c.take.new.draft c.in-Some.kind w.first.now w.second.now c.args.text.now c.in-Ok.field-0 w.ensures
    (c.may_be_read.ensures.0 (cc)) c.in-Ok.ensures.known (c.in-Ok.ensures.answers c.args.text.now)

pub returns-in-Err : goal.returns-in-Err
returns-in-Err c =
    let w = c.in-Some-words_in in
    answers_with_fault c.args.schema.now c.args.draft.now c.take.new.draft c.in-Some.kind w.first.now w.second.now c.args.text.now c.in-Err.fault c.fault_of.result w.ensures
    (c.in-Err.ensures.answers c.args.text.now) c.fault_of.ensures
