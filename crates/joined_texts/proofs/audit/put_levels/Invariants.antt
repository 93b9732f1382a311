use Rattle.std.proofs.Common.{◌≡◌, ◌+◌, ◌++◌, List, ℕ, Ok, drop}
use Rattle.base_io.specs.Devices.{growth}
use Rattle.base_io.specs.Writes.{WroteBuffered}
use Rattle.plans.specs.Orders.{order_of_tree}
use Rattle.printed_texts.specs.Plans.{level_audits}
use Rattle.joined_texts.specs.Printed.{level_counts}
use Rattle.joined_texts.proofs.audit.put_levels.Given as goal

abbrev pub invariant-levels : goal.invariant-levels
invariant-levels g l =
    let its = order_of_tree l.plan in
    let counts = level_counts l.constants its.order l.fn.done.nodes in
    record {
      done : List ℕ;
      left : done ++ level_audits (l.i + 1) l.sources (drop l.i its.order) (drop l.i its.levels) (drop l.i counts) ≡ level_audits 1 l.sources its.order its.levels counts;
      put : WroteBuffered (growth g.N.Sink.taken g.N.Sink.faults l.initial.sink l.sink) l.initial.buffer l.buffer done (Ok tt);
    }
