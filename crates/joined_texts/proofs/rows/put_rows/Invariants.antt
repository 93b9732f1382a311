use Rattle.std.proofs.Common.{Ok, take}
use Rattle.std.specs.List.{flat_map}
use Rattle.base_io.specs.Devices.{growth}
use Rattle.base_io.specs.Writes.{WroteBuffered}
use Rattle.joined_texts.specs.JoinedRows.{choice_record, joined_choices}
use Rattle.joined_texts.proofs.rows.put_rows.Given as goal

abbrev pub invariant-rows : goal.invariant-rows
invariant-rows g l =
    WroteBuffered (growth g.N.Sink.taken g.N.Sink.faults l.initial.sink l.sink) l.initial.buffer l.buffer
    (flat_map (choice_record l.query l.db (joined_choices l.listed).entries) (take l.i (joined_choices l.listed).rows)) (Ok tt)
