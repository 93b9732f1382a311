use Rattle.std.proofs.Common.{length, refl, arith}
use Rattle.join_graph.specs.Conjuncts.{equalities_of}
use Rattle.query_bounds.proofs.Sets.{all_bounds_are_held}
use Rattle.planning.proofs.Giving.{each_has_bounds, one_each, statistics_give_bounds, lists_from_statistics}
use Rattle.planning.proofs.sources.from_given_statistics.Goals as goal

pub bounds_from-requires-clause-few : goal.bounds_from-requires-clause-few
bounds_from-requires-clause-few c =
    omega (
      arith,
      one_each c.args.query.now c.args.parts.now.equalities c.requires.equalities c.in_ok-lists.lists c.in_ok-scans.scans c.len.result c.len.ensures c.in_ok-scans.ensures,
      c.requires.few,
    )

pub bounds_from-requires-clause-listed : goal.bounds_from-requires-clause-listed
bounds_from-requires-clause-listed c = λ subset fits.
    each_has_bounds c.args.query.now c.args.parts.now.equalities c.requires.equalities c.in_ok-lists.lists c.in_ok-scans.scans c.len.result c.len.ensures c.in_ok-scans.ensures
    (all_bounds_are_held c.args.query.now c.requires.told.known (length c.args.query.now.from) (equalities_of c.args.query.now) c.in_ok-lists.lists
    (c.in_ok-lists.ensures.holds c.requires.told.known c.requires.told.tells)) subset fits

pub bounds_from-requires-clause-depends_on_parts : goal.bounds_from-requires-clause-depends_on_parts
bounds_from-requires-clause-depends_on_parts c = λ subset part rest parted. (refl, refl)

pub returns-clause-gives : goal.returns-clause-gives
returns-clause-gives c = λ stats tells.
    statistics_give_bounds c.args.query.now c.args.parts.now.equalities c.requires.equalities c.in_ok-lists.lists c.in_ok-scans.scans c.len.result c.len.ensures c.in_ok-scans.ensures stats
    c.in_ok-known.known c.in_ok-known.ensures.sets c.in_ok-known.ensures.scans (c.in_ok-lists.ensures.bounds stats tells)

pub returns-clause-lists : goal.returns-clause-lists
returns-clause-lists c = λ stats tells.
    lists_from_statistics c.args.query.now stats c.in_ok-lists.lists (c.in_ok-lists.ensures.holds stats tells) (c.in_ok-lists.ensures.bounds stats tells)
