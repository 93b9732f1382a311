use Rattle.std.proofs.Common.{Ok, take}
use Rattle.std.specs.List.{flat_map}
use Rattle.base_io.specs.Devices.{growth}
use Rattle.base_io.specs.Writes.{WroteBuffered}
use Rattle.stats_file.specs.Parts.{part_text}
use Rattle.stats_file.proofs.parts.put_line.Given as goal

abbrev pub invariant-parts : goal.invariant-parts
invariant-parts g l =
    WroteBuffered (growth g.N.Sink.taken g.N.Sink.faults l.initial.sink l.sink) l.initial.buffer l.buffer (flat_map (part_text) (take l.part-index l.parts)) (Ok tt)
