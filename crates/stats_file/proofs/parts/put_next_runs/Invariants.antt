use Rattle.std.proofs.Common.{◌++◌, Ok, take}
use Rattle.std.specs.Prelude.{codes}
use Rattle.std.specs.List.{flat_map}
use Rattle.base_io.specs.Devices.{growth}
use Rattle.base_io.specs.Writes.{WroteBuffered}
use Rattle.stats_file.specs.Lines.{run_text}
use Rattle.piece_math.specs.declared.pieces.Piece.{Piece}
use Rattle.stats_file.proofs.parts.put_next_runs.Given as goal

abbrev pub invariant-runs : goal.invariant-runs
invariant-runs g l =
    WroteBuffered (growth g.N.Sink.taken g.N.Sink.faults l.initial.sink l.sink) l.initial.buffer l.buffer (flat_map (λ (next : Piece). codes " " ++ run_text next) (take l.run-index l.runs)) (Ok tt)
