use Rattle.std.proofs.Common.{◌≡◌, ◌+◌, ◌++◌, List, ℕ, Ok, drop}
use Rattle.base_io.specs.Devices.{growth}
use Rattle.base_io.specs.Writes.{WroteBuffered}
use Rattle.plans.specs.Orders.{order_of_tree}
use Rattle.printed_texts.specs.Plans.{level_lines}
use Rattle.printed_texts.proofs.plan.write_levels.Given as goal

abbrev pub invariant-levels : goal.invariant-levels
invariant-levels g l = (
    let order = order_of_tree l.plan in
    record {
      done : List ℕ;
      left : done ++ level_lines (l.i + 1) l.sources (drop l.i order.order) (drop l.i order.levels) ≡ level_lines 1 l.sources order.order order.levels;
      put : WroteBuffered (growth g.N.Sink.taken g.N.Sink.faults l.initial.sink l.sink) l.initial.buffer l.buffer done (Ok tt);
    }
    )
