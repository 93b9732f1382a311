use Rattle.std.proofs.Common.{◌≡◌, ◌+◌, ◌++◌, List, ℕ, Ok, drop}
use Rattle.base_io.specs.Devices.{growth}
use Rattle.base_io.specs.Writes.{WroteBuffered}
use Rattle.printed_texts.specs.TreePlans.{node_audits}
use Rattle.joined_texts.specs.Printed.{node_counts}
use Rattle.joined_texts.proofs.tree_audit.put_nodes.Given as goal

abbrev pub invariant-nodes : goal.invariant-nodes
invariant-nodes g l = record {
  done : List ℕ;
  left : done ++ node_audits (l.first + l.i) (drop l.i l.joins) (drop l.i (node_counts l.first l.fn.done.nodes)) ≡ node_audits l.first l.joins (node_counts l.first l.fn.done.nodes);
  put : WroteBuffered (growth g.N.Sink.taken g.N.Sink.faults l.initial.sink l.sink) l.initial.buffer l.buffer done (Ok tt);
}
