use Rattle.std.proofs.Common.{◌≡◌, ℕ, List, get_or, ap, sym, ◌∙◌, arith}
use Rattle.plans.specs.Orders.{first_entry, order_of_tree}
use Rattle.plans.specs.declared.bushy.Join.{Join}
use Rattle.plans.proofs.Reading.{bound_read}
use Rattle.plans.proofs.orders.level_bound.Goals as goal

abbrev no_join : Join
no_join = record { left = 0; right = 0; bound = 0 }

pub returns-then-i-gt0 : goal.returns-then-i-gt0
returns-then-i-gt0 c = rw c.as_slice-joins.ensures (bound_read c.args.tree.now c.args.i no_join (omega arith) c.requires.level)

pub returns-else-i-gt0 : goal.returns-else-i-gt0
returns-else-i-gt0 c =
    let tree = c.args.tree.now in
    let none : c.args.i ≡ 0 = omega arith in
    ap (λ (s : List ℕ). get_or s c.first_entry.result 0) c.as_slice.ensures
    ∙ ap (λ (entry : ℕ). get_or tree.scans entry 0) (c.first_entry.ensures ∙ ap first_entry c.as_slice-joins.ensures)
    ∙ ap (λ (i : ℕ). get_or (order_of_tree tree).levels i 0) (sym none)
