use Rattle.std.proofs.Common.{arith, refl}
use Rattle.level_bounds.specs.Keys.{cell_at}
use Rattle.join_steps.specs.Columns.{column_cells}
use Rattle.join_steps.specs.Lists.{lists_of}
use Rattle.reduced_scans.specs.Lists.{column_of}
use Rattle.reduced_scans.proofs.UseFacts.{wired_one}
use Rattle.reduced_scans.proofs.wiring.add_equality.Goals as goal

pub add_column-requires-2-clause-few : goal.add_column-requires-2-clause-few
add_column-requires-2-clause-few c =
    omega (arith, c.in_ok-add_column.ensures.few, c.requires.lists.sizes c.args.edge.left.entry, c.requires.few)

pub returns-clause-wired : goal.returns-clause-wired
returns-clause-wired c equalities numbered so_far =
    wired_one (lists_of c.args.scans.now) equalities (cell_at c.args.db.now) c.args.equality c.args.edge numbered (column_cells c.args.db.now (column_of c.args.edge.left)) (column_cells c.args.db.now (column_of c.args.edge.right))
    c.args.known_values.now c.add_column.new.known_values c.add_column-2.new.known_values c.args.uses.now.items c.add_column.new.uses.items c.add_column-2.new.uses.items (λ row. refl) (λ row. refl)
    c.in_ok-add_column.ensures c.in_ok-add_column-2.ensures so_far

pub returns-clause-known_values : goal.returns-clause-known_values
returns-clause-known_values c =
    omega (
      arith,
      c.in_ok-add_column.ensures.few,
      c.requires.lists.sizes c.args.edge.left.entry,
      c.in_ok-add_column-2.ensures.few,
      c.requires.lists.sizes c.args.edge.right.entry,
    )

pub returns-clause-uses : goal.returns-clause-uses
returns-clause-uses c =
    omega (
      arith,
      c.in_ok-add_column.ensures.size,
      c.requires.lists.sizes c.args.edge.left.entry,
      c.in_ok-add_column-2.ensures.size,
      c.requires.lists.sizes c.args.edge.right.entry,
    )
