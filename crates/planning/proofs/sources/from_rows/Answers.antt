use Rattle.std.proofs.Common.{◌≡◌, length, refl, sym, ◌∙◌, subst, arith}
use Rattle.std.specs.Prelude.{All}
use Rattle.bound_fold.specs.Sets.{HaveLists}
use Rattle.join_graph.specs.Conjuncts.{equalities_of}
use Rattle.join_steps.specs.Lists.{lists_of}
use Rattle.join_steps.proofs.WholeScans.{length-lists_of}
use Rattle.reduced_scans.specs.Lists.{JoinsColumns}
use Rattle.reduced_scans.proofs.OfQuery.{joins_columns}
use Rattle.planning.proofs.Giving.{each_has_bounds, one_each, rows_give}
use Rattle.planning.proofs.CollectedBounds.{all_have_bounds}
use Rattle.planning.proofs.sources.from_rows.Goals as goal

pub lists_over_rows-requires-clause-columns : goal.lists_over_rows-requires-clause-columns
lists_over_rows-requires-clause-columns c =
    subst (All (JoinsColumns c.args.db.now)) (sym (c.as_slice.ensures ∙ c.requires.equalities)) (joins_columns c.args.query.now c.args.db.now c.requires.database)

pub bounds_from-requires-clause-few : goal.bounds_from-requires-clause-few
bounds_from-requires-clause-few c =
    omega (
      arith,
      one_each c.args.query.now c.args.parts.now.equalities c.requires.equalities c.in_ok-lists.lists c.in_ok-scans.scans c.len.result c.len.ensures c.in_ok-scans.ensures,
      c.requires.database.few,
    )

pub bounds_from-requires-clause-listed : goal.bounds_from-requires-clause-listed
bounds_from-requires-clause-listed c = λ subset fits.
    let count : length (lists_of c.args.rows.now) ≡ length c.args.query.now.from = length-lists_of c.args.rows.now ∙ c.requires.rows.count ∙ c.requires.database.entries in
    each_has_bounds c.args.query.now c.args.parts.now.equalities c.requires.equalities c.in_ok-lists.lists c.in_ok-scans.scans c.len.result c.len.ensures c.in_ok-scans.ensures
    (all_have_bounds c.args.db.now (lists_of c.args.rows.now) c.args.accuracy c.in_ok-lists.lists c.in_ok-lists.ensures.known (equalities_of c.args.query.now)
    (subst (All (HaveLists c.in_ok-lists.lists)) (c.as_slice.ensures ∙ c.requires.equalities) c.in_ok-lists.ensures.joined) (length c.args.query.now.from) (sym count)) subset fits

pub bounds_from-requires-clause-depends_on_parts : goal.bounds_from-requires-clause-depends_on_parts
bounds_from-requires-clause-depends_on_parts c = λ subset part rest parted. (refl, refl)

pub returns : goal.returns
returns c =
    rows_give c.args.query.now c.args.parts.now.equalities c.requires.equalities c.in_ok-lists.lists c.in_ok-scans.scans c.len.result c.len.ensures c.in_ok-scans.ensures c.args.db.now
    (lists_of c.args.rows.now) c.args.accuracy c.in_ok-known.known c.in_ok-known.ensures.sets c.in_ok-known.ensures.scans c.in_ok-lists.ensures.known
    (subst (All (HaveLists c.in_ok-lists.lists)) (c.as_slice.ensures ∙ c.requires.equalities) c.in_ok-lists.ensures.joined)
