use Rattle.std.proofs.Common.{◌≡◌, ◌+◌, ◌++◌, List, ℕ, Ok, drop}
use Rattle.base_io.specs.Devices.{growth}
use Rattle.base_io.specs.Writes.{WroteBuffered}
use Rattle.printed_texts.specs.TreePlans.{node_lines}
use Rattle.printed_texts.proofs.tree.write_nodes.Given as goal

abbrev pub invariant-nodes : goal.invariant-nodes
invariant-nodes g l = record {
  done : List ℕ;
  left : done ++ node_lines (l.first + l.i) (drop l.i l.joins) ≡ node_lines l.first l.joins;
  put : WroteBuffered (growth g.N.Sink.taken g.N.Sink.faults l.initial.sink l.sink) l.initial.buffer l.buffer done (Ok tt);
}
