use Rattle.std.proofs.Common.{◌∙◌}
use Rattle.csv_tables.proofs.OrderFacts.{order_of_texts}
use Rattle.csv_tables.proofs.order.compare_texts.Goals as goal

pub returns : goal.returns
returns c = c.cmp.ensures ∙ order_of_texts c.args.a.now c.args.b.now c.utf8.a c.utf8.b
