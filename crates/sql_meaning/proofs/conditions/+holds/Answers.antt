use Rattle.std.proofs.Common.{◌<◌, slice_index, rules, subst}
use Rattle.query_types.specs.declared.types.Cond.{every-Cond, the_lemmas}
use Rattle.query_types.proofs.CondFacts.{every_compare}
use Rattle.query_types.specs.Typing.{IsTypedLayer}
use Rattle.sql_meaning.specs.Tables.{cells_of}
use Rattle.sql_meaning.proofs.ConditionFacts.{entries_in_and, entries_in_or, entries_in_not, every_in_and, every_in_or, every_in_not}
use Rattle.sql_meaning.proofs.conditions.+holds.Goals as goal
use Rattle.sql_meaning.specs.Databases.{IsColumnOfKind}

pub holds-requires : goal.holds-requires
holds-requires t c =
    let well_typed = every_in_and (IsTypedLayer (IsColumnOfKind c.args.db.now)) c.args.cond.now c.in-And.all c.as_slice-member-items.result.now c.all.member-index c.member-item.result c.in-And.is c.as_slice-member-items.ensures c.member-item.is c.all-test.true c.requires.well_typed in
    let rows = entries_in_and (λ entry. slice_index c.args.rows.now entry < (cells_of c.args.db.now entry).rows) c.args.cond.now c.in-And.all c.as_slice-member-items.result.now c.all.member-index c.member-item.result c.in-And.is c.as_slice-member-items.ensures c.member-item.is c.all-test.true c.requires.rows in
    (search (rules, the_lemmas), (c.requires.tables, (well_typed, (c.requires.places, rows))))

pub holds-requires-in-any : goal.holds-requires-in-any
holds-requires-in-any t c =
    let well_typed = every_in_or (IsTypedLayer (IsColumnOfKind c.args.db.now)) c.args.cond.now c.in-Or.any c.as_slice-member-items-in-Or.result.now c.any.member-index c.member-item-in-any.result c.in-Or.is c.as_slice-member-items-in-Or.ensures c.member-item-in-any.is c.any-test.true c.requires.well_typed in
    let rows = entries_in_or (λ entry. slice_index c.args.rows.now entry < (cells_of c.args.db.now entry).rows) c.args.cond.now c.in-Or.any c.as_slice-member-items-in-Or.result.now c.any.member-index c.member-item-in-any.result c.in-Or.is c.as_slice-member-items-in-Or.ensures c.member-item-in-any.is c.any-test.true c.requires.rows in
    (search (rules, the_lemmas), (c.requires.tables, (well_typed, (c.requires.places, rows))))

pub holds-requires-in-Not : goal.holds-requires-in-Not
holds-requires-in-Not t c =
    let well_typed = every_in_not (IsTypedLayer (IsColumnOfKind c.args.db.now)) c.args.cond.now c.in-Not.inner c.get.result.now c.in-Not.is c.get.ensures c.requires.well_typed in
    let rows = entries_in_not (λ entry. slice_index c.args.rows.now entry < (cells_of c.args.db.now entry).rows) c.args.cond.now c.in-Not.inner c.get.result.now c.in-Not.is c.get.ensures c.requires.rows in
    (search (rules, the_lemmas), (c.requires.tables, (well_typed, (c.requires.places, rows))))

pub comparison_holds-requires-clause-well_typed : goal.comparison_holds-requires-clause-well_typed
comparison_holds-requires-clause-well_typed t c =
    every_compare (IsTypedLayer (IsColumnOfKind c.args.db.now)) c.in-Compare.op c.in-Compare.left c.in-Compare.right (subst (every-Cond (IsTypedLayer (IsColumnOfKind c.args.db.now))) c.in-Compare.is c.requires.well_typed)
