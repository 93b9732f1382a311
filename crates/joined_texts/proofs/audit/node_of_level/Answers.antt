use Rattle.std.proofs.Common.{ℕ, ap, sym, ◌∙◌, arith}
use Rattle.plans.specs.Orders.{level_node, order_of_tree}
use Rattle.joined_texts.proofs.AuditLines.{level_there}
use Rattle.joined_texts.proofs.audit.node_of_level.Goals as goal

pub returns-clause-node : goal.returns-clause-node
returns-clause-node c =
    let order = (order_of_tree c.args.plan.now).order in
    c.level_node.ensures order (sym c.entry_in_order.ensures) ∙ ap (λ (m : ℕ). level_node m order c.args.k) (c.len-n.ensures ∙ sym c.requires.plan.order.order.all)

pub returns-clause-there : goal.returns-clause-there
returns-clause-there c =
    let plan = c.args.plan.now in
    omega (
      arith,
      returns-clause-node c,
      ap (λ (m : ℕ). level_node m (order_of_tree plan).order c.args.k) c.requires.plan.order.order.all,
      level_there _ plan c.args.k c.requires.plan c.requires.level.0 c.requires.level.1,
    )
