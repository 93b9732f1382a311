use Rattle.std.proofs.Common.{Ok, take}
use Rattle.std.specs.List.{flat_map}
use Rattle.base_io.specs.Devices.{growth}
use Rattle.base_io.specs.Writes.{WroteBuffered}
use Rattle.printed_texts.specs.Faults.{after_blank}
use Rattle.printed_texts.proofs.lines.put_words.Given as goal

abbrev pub invariant-words : goal.invariant-words
invariant-words g l =
    WroteBuffered (growth g.N.Sink.taken g.N.Sink.faults l.initial.sink l.sink) l.initial.buffer l.buffer (flat_map (λ w. after_blank w.now) (take l.word-index l.words)) (Ok tt)
