use Rattle.std.proofs.Common.{List, ℕ, Ok, take}
use Rattle.std.specs.List.{flat_map}
use Rattle.base_io.specs.Devices.{growth}
use Rattle.base_io.specs.Writes.{WroteBuffered}
use Rattle.stats_file.specs.Lines.{frequent_line}
use Rattle.stats_file.specs.declared.types.Datum.{Datum}
use Rattle.stats_file.specs.Runs.{runs_of}
use Rattle.stats_file.proofs.write.put_frequent.Given as goal

abbrev pub invariant-frequent : goal.invariant-frequent
invariant-frequent g l =
    WroteBuffered (growth g.N.Sink.taken g.N.Sink.faults l.initial.sink l.sink) l.initial.buffer l.buffer (flat_map (λ (f : Datum × List ℕ). frequent_line f.0 (runs_of f.1)) (take l.value-index l.frequent)) (Ok tt)
