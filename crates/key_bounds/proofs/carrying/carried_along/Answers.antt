use Rattle.std.proofs.Common.{subst}
use Rattle.std.proofs.lemmas.List.{take_all}
use Rattle.sql_meaning.specs.Tables.{tables_of}
use Rattle.query_bounds.proofs.Holding.{no_edge}
use Rattle.key_stats.specs.Carrying.{HaveCarriedBounds}
use Rattle.key_bounds.proofs.CarriedOver.{tell_along_after_step}
use Rattle.key_bounds.proofs.carrying.carried_along.Goals as goal

pub carried_over-requires-clause-joined : goal.carried_over-requires-clause-joined
carried_over-requires-clause-joined c = c.requires.joined c.edges.number no_edge c.edges-test.true

pub edges-preserved : goal.edges-preserved
edges-preserved c =
    tell_along_after_step c.args.query.now (tables_of c.args.db.now) c.args.accuracy c.args.edges.now c.edges.number no_edge c.edges.carried c.push.new.self c.in_ok-one.one c.edges-test.true
    c.in_ok-one.ensures.edge c.in_ok-one.ensures.tells c.edges.invariant c.in_ok-push.ensures.ok

pub returns : goal.returns
returns c =
    subst (λ es. HaveCarriedBounds c.args.query.now (tables_of c.args.db.now) c.args.accuracy es c.edges.carried) (take_all c.edges.number c.args.edges.now c.edges-test.false) c.edges.invariant
