use Rattle.std.proofs.Common.{Ok, take}
use Rattle.std.specs.List.{flat_map}
use Rattle.base_io.specs.Devices.{growth}
use Rattle.base_io.specs.Writes.{WroteBuffered}
use Rattle.sql_meaning.specs.Tables.{tables_of}
use Rattle.printed_texts.specs.Lines.{next_field}
use Rattle.printed_texts.proofs.rows.put_others.Given as goal

abbrev pub invariant-outs : goal.invariant-outs
invariant-outs g l =
    WroteBuffered (growth g.N.Sink.taken g.N.Sink.faults l.initial.sink l.sink) l.initial.buffer l.buffer
    (flat_map (next_field (tables_of l.db) l.fn.line) (take l.out-index l.outs)) (Ok tt)
