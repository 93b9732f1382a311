use Rattle.std.proofs.Common.{List, ℕ, Ok, take}
use Rattle.std.specs.Prelude.{codes}
use Rattle.std.specs.List.{flat_map}
use Rattle.base_io.specs.Devices.{growth}
use Rattle.base_io.specs.Writes.{WroteBuffered}
use Rattle.stats_file.specs.Lines.{list_line}
use Rattle.stats_file.specs.Runs.{runs_of}
use Rattle.stats_file.proofs.write.put_nodes.Given as goal

abbrev pub invariant-nodes : goal.invariant-nodes
invariant-nodes g l =
    WroteBuffered (growth g.N.Sink.taken g.N.Sink.faults l.initial.sink l.sink) l.initial.buffer l.buffer (flat_map (λ (node : List ℕ). list_line (codes "node") (runs_of node)) (take l.node-index l.nodes)) (Ok tt)
