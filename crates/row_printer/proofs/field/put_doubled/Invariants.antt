use Rattle.std.proofs.Common.{Ok, take}
use Rattle.base_io.specs.Devices.{growth}
use Rattle.base_io.specs.Writes.{WroteBuffered}
use Rattle.row_printer.specs.Fields.{doubled}
use Rattle.row_printer.proofs.field.put_doubled.Given as goal

abbrev pub invariant-bytes : goal.invariant-bytes
invariant-bytes g l =
    WroteBuffered (growth g.N.Sink.taken g.N.Sink.faults l.initial.sink l.sink) l.initial.buffer l.buffer (doubled (take l.byte-index l.field)) (Ok tt)
