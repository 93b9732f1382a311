use Rattle.std.proofs.Common.{◌+◌, length, arith}
use Rattle.bushy_plan.specs.declared.weight.Weighing.TheVariants as weight
use Rattle.bushy_plan.proofs.Found.{numbers_below_limit, read_leaf, read_node, room_behind, room_left}
use Rattle.bushy_plan.proofs.ReadingOff.{Light, first_of_sides, light_sides}
use Rattle.bushy_plan.proofs.joins.+push_joins.Goals as goal

pub returns-then-all_but_first-eq0 : goal.returns-then-all_but_first-eq0
returns-then-all_but_first-eq0 t c =
    read_leaf (weight.SumIfBoundsAtMost c.args.most) c.args.bounds.now c.args.count c.args.set c.first_entry.result c.args.joins.now.items c.first_entry.ensures
    c.without_first-all_but_first.result c.without_first-all_but_first.ensures c.if-all_but_first-eq0.true

pub push_joins-requires : goal.push_joins-requires
push_joins-requires t c =
    let light : Light c.args.most c.args.bounds.now c.args.table.now c.args.set c.first_right-right_set.result =
    light_sides c.args.most c.args.bounds.now c.args.table.now c.args.set c.first_right-right_set.result c.first_right-right_set.ensures.lightest c.requires.light in (
      omega (arith, c.decreases, c.first_right-right_set.ensures.is_split.some_left, c.first_right-right_set.ensures.is_split.some_right),
      (
        c.requires.count,
        (
          c.requires.small,
          (
            c.first_right-right_set.ensures.is_split.some_left,
            (
              omega (arith, c.requires.set),
              (
                c.requires.filled,
                (
                  c.requires.table,
                  (
                    light.left,
                    room_left (weight.SumIfBoundsAtMost c.args.most) c.args.bounds.now c.args.table.now c.args.set (length c.args.bounds.now) c.first_right-right_set.result (length c.args.joins.now.items)
                        c.requires.set c.requires.table c.first_right-right_set.ensures.is_split c.requires.numbers,
                  ),
                ),
              ),
            ),
          ),
        ),
      ),
    )

pub push_joins-requires-2 : goal.push_joins-requires-2
push_joins-requires-2 t c =
    let light : Light c.args.most c.args.bounds.now c.args.table.now c.args.set c.first_right-right_set.result =
    light_sides c.args.most c.args.bounds.now c.args.table.now c.args.set c.first_right-right_set.result c.first_right-right_set.ensures.lightest c.requires.light in (
      omega (arith, c.decreases, c.first_right-right_set.ensures.is_split.some_left, c.first_right-right_set.ensures.is_split.some_right),
      (
        c.requires.count,
        (
          c.requires.small,
          (
            c.first_right-right_set.ensures.is_split.some_right,
            (
              omega (arith, c.requires.set, c.first_right-right_set.ensures.is_split.some_left),
              (
                c.requires.filled,
                (
                  c.requires.table,
                  (
                    light.right_side,
                    room_behind (weight.SumIfBoundsAtMost c.args.most) c.args.bounds.now c.args.count c.args.set c.first_right-right_set.result c.args.joins.now.items c.push_joins.new.joins.items c.in_ok-left.left
                        c.in_ok-left.ensures c.first_right-right_set.ensures.is_split c.requires.numbers,
                  ),
                ),
              ),
            ),
          ),
        ),
      ),
    )

pub overflow_cast-number : goal.overflow_cast-number
overflow_cast-number t c =
    omega (
      arith,
      c.len.ensures,
      numbers_below_limit (weight.SumIfBoundsAtMost c.args.most) c.args.bounds.now c.args.count c.args.set c.first_right-right_set.result
          c.args.joins.now.items c.push_joins.new.joins.items c.push_joins-2.new.joins.items c.in_ok-left.left c.in_ok-right.right
          c.in_ok-left.ensures c.in_ok-right.ensures c.first_right-right_set.ensures.is_split c.requires.numbers,
    )

pub overflow_add-number : goal.overflow_add-number
overflow_add-number t c =
    omega (
      arith,
      c.requires.count,
      c.len.ensures,
      numbers_below_limit (weight.SumIfBoundsAtMost c.args.most) c.args.bounds.now c.args.count c.args.set c.first_right-right_set.result
          c.args.joins.now.items c.push_joins.new.joins.items c.push_joins-2.new.joins.items c.in_ok-left.left c.in_ok-right.right
          c.in_ok-left.ensures c.in_ok-right.ensures c.first_right-right_set.ensures.is_split c.requires.numbers,
    )

pub returns : goal.returns
returns t c =
    read_node (weight.SumIfBoundsAtMost c.args.most) c.args.bounds.now c.args.count c.args.set c.first_right-right_set.result
    c.args.joins.now.items c.push_joins.new.joins.items c.push_joins-2.new.joins.items c.push.new.self.items c.in_ok-left.left c.in_ok-right.right (c.args.count + c.len.result)
    c.in_ok-left.ensures c.in_ok-right.ensures
    (first_of_sides c.args.most c.args.bounds.now c.args.table.now c.args.set (length c.args.bounds.now) c.first_right-right_set.result c.in_ok-left.ensures.tree c.in_ok-right.ensures.tree
    c.requires.set c.requires.table c.requires.light c.first_right-right_set.ensures c.in_ok-left.ensures.is_first c.in_ok-right.ensures.is_first)
    (omega (arith, c.len.ensures))
    c.in_ok-push.ensures.items
