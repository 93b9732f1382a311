use Rattle.std.proofs.Common.{◌≡◌, ◌++◌, List, ℕ, Ok, drop}
use Rattle.base_io.specs.Devices.{growth}
use Rattle.base_io.specs.Writes.{WroteBuffered}
use Rattle.printed_texts.specs.Plans.{scan_lines}
use Rattle.printed_texts.proofs.plan.write_scans.Given as goal

abbrev pub invariant-scans : goal.invariant-scans
invariant-scans g l = record {
  done : List ℕ;
  left : done ++ scan_lines (drop l.i l.sources) (drop l.i l.bounds) ≡ scan_lines l.sources l.bounds;
  put : WroteBuffered (growth g.N.Sink.taken g.N.Sink.faults l.initial.sink l.sink) l.initial.buffer l.buffer done (Ok tt);
}
