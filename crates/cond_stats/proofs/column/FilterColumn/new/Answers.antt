use Rattle.std.proofs.Common.{◌<◌, ℕ, List, length, ap, refl, sym, subst, arith}
use Rattle.std.specs.List.{All}
use Rattle.cond_stats.specs.Columns.{cell_le}
use Rattle.cond_stats.specs.Order.{AreInValueOrder}
use Rattle.cond_stats.specs.Runs.{AreInRuns}
use Rattle.cond_stats.specs.declared.groups.ValueRun.{ValueRun}
use Rattle.cond_stats.proofs.InOrderFacts.{as_many_places, places_within}
use Rattle.cond_stats.proofs.column.FilterColumn.new.Goals as goal

pub cuts_of-requires-clause-places : goal.cuts_of-requires-clause-places
cuts_of-requires-clause-places c = subst (λ (s : List ℕ). All (λ place. place < length c.args.cells.now) s) (sym c.as_slice.ensures.value) (places_within c.in_ok-places.ensures.order)

pub cuts_of-requires-clause-rows : goal.cuts_of-requires-clause-rows
cuts_of-requires-clause-rows c = omega (arith, ap length c.as_slice.ensures.value, as_many_places c.in_ok-places.ensures.order, c.requires.rows)

pub invariant_of-result : goal.invariant_of-result
invariant_of-result c =
    let in_runs = c.in_ok-places.ensures in
    record {
      rows = c.requires.rows;
      moved = in_runs.order.moved;
      groups_are = c.by_frequency-groups.ensures (cell_le c.args.pool.now c.args.kind) c.args.cells.now c.in_ok-places.field-0.places.items c.requires.rows in_runs;
      cuts_are = c.in_ok-cuts.ensures (cell_le c.args.pool.now c.args.kind) in_runs.numbers
          (subst (λ (s : List ℕ). AreInValueOrder (cell_le c.args.pool.now c.args.kind) c.args.cells.now in_runs.numbers s) (sym c.as_slice.ensures.value) in_runs.order);
      starts_are = c.in_ok-starts.ensures (cell_le c.args.pool.now c.args.kind) c.args.cells.now c.in_ok-places.field-0.places.items refl
          (subst (λ (s : List ValueRun). AreInRuns (cell_le c.args.pool.now c.args.kind) c.args.cells.now c.in_ok-places.field-0.places.items s) (sym c.as_slice-2.ensures.value) in_runs);
    }
