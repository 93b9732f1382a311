use Rattle.join_graph.proofs.Parting.{equality_is_kept}
use Rattle.join_graph.proofs.keeping.consider.Goals as goal

pub returns-in_ok-push : goal.returns-in_ok-push
returns-in_ok-push c = λ rest named.
    equality_is_kept c.args.edge c.args.names.now c.merge_components.new.names c.args.kept.now c.push.new.self rest c.requires.edge named c.if-names-edge.true c.in_ok-push.ensures.ok c.merge_components.ensures
