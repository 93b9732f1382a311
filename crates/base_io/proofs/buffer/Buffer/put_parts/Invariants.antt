use Rattle.std.proofs.Common.{Ok, take}
use Rattle.std.specs.List.{flat_map}
use Rattle.base_io.specs.Devices.{growth}
use Rattle.base_io.specs.Writes.{WroteBuffered}
use Rattle.base_io.proofs.buffer.Buffer.put_parts.Given as goal

abbrev pub invariant-parts : goal.invariant-parts
invariant-parts g l =
    WroteBuffered (growth g.N.Sink.taken g.N.Sink.faults l.initial.sink l.sink) l.initial.self l.self (flat_map (λ p. p.now) (take l.part-index l.parts)) (Ok tt)
