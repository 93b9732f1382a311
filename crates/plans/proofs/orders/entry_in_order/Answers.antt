use Rattle.std.proofs.Common.{◌≡◌, ℕ, get_or, ap, sym, ◌∙◌, arith}
use Rattle.plans.specs.Orders.{first_entry, order_of_tree}
use Rattle.plans.specs.declared.bushy.Join.{Join}
use Rattle.plans.proofs.Reading.{entry_read}
use Rattle.plans.proofs.orders.entry_in_order.Goals as goal

abbrev no_join : Join
no_join = record { left = 0; right = 0; bound = 0 }

pub returns-then-i-gt0 : goal.returns-then-i-gt0
returns-then-i-gt0 c = rw c.as_slice-joins.ensures (entry_read c.args.tree.now c.args.i no_join (omega arith) c.requires)

pub returns-else-i-gt0 : goal.returns-else-i-gt0
returns-else-i-gt0 c =
    let none : c.args.i ≡ 0 = omega arith in
    c.first_entry.ensures ∙ ap first_entry c.as_slice-joins.ensures ∙ ap (λ (i : ℕ). get_or (order_of_tree c.args.tree.now).order i 0) (sym none)
