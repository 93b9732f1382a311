use Rattle.std.proofs.Common.{Ok, take}
use Rattle.std.specs.List.{flat_map}
use Rattle.base_io.specs.Devices.{growth}
use Rattle.base_io.specs.Writes.{WroteBuffered}
use Rattle.stats_file.specs.Lines.{cut_line}
use Rattle.stats_file.proofs.write.put_cuts.Given as goal

abbrev pub invariant-cuts : goal.invariant-cuts
invariant-cuts g l =
    WroteBuffered (growth g.N.Sink.taken g.N.Sink.faults l.initial.sink l.sink) l.initial.buffer l.buffer (flat_map (cut_line) (take l.cut-index l.cuts)) (Ok tt)
