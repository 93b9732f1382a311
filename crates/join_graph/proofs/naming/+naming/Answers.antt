use Rattle.std.proofs.Common.{◌∙◌, ap, arith}
use Rattle.query_types.specs.Named.{entries_named}
use Rattle.join_graph.specs.Naming.{named_of}
use Rattle.join_graph.proofs.NamedEntries.{member_more}
use Rattle.join_graph.proofs.naming.+naming.Goals as goal

pub named_by_all-loop-member-preserved : goal.named_by_all-loop-member-preserved
named_by_all-loop-member-preserved t c =
    member_more c.args.members.now c.loop-member.member-index _ c.loop-member.names c.together-names.result c.named_by.result (omega arith)
    (c.named_by.ensures ∙ ap (λ m. named_of (entries_named m)) c.member-item.is) c.together-names.ensures c.loop-member.invariant
