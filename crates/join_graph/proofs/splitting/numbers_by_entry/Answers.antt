use Rattle.std.proofs.Common.{arith}
use Rattle.join_graph.specs.Conjuncts.{numbers_where}
use Rattle.join_graph.specs.Naming.{is_same_part}
use Rattle.join_graph.specs.declared.splitting.Part.TheVariants as part
use Rattle.join_graph.proofs.Numbering.{entry_more}
use Rattle.join_graph.proofs.splitting.numbers_by_entry.Goals as goal

pub loop-entry-preserved : goal.loop-entry-preserved
loop-entry-preserved c =
    entry_more (λ entry. numbers_where (is_same_part (part.Local entry)) 0 c.args.parts.now) c.loop-entry.entry c.args.entries c.loop-entry.lists c.push.new.self _ (omega arith)
    c.in_ok-numbers_in.ensures c.in_ok-push.ensures.ok c.loop-entry.invariant
