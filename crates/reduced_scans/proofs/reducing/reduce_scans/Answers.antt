use Rattle.std.proofs.Common.{arith, ap, sym, subst, ◌≡◌, ℕ, List, length}
use Rattle.std.specs.Prelude.{All}
use Rattle.berge_tree.specs.declared.edges.Edge.{Edge}
use Rattle.counted_sets.specs.Sets.{marked}
use Rattle.join_graph.specs.Conjuncts.{equalities_of}
use Rattle.row_buf.specs.Rows.{Rows}
use Rattle.sql_meaning.specs.Tables.{tables_of}
use Rattle.level_bounds.specs.Keys.{are_equal_at, cell_at}
use Rattle.reduced_scans.specs.Families.{AreAscending, IsReduced}
use Rattle.join_steps.specs.Lists.{lists_of, scans_of}
use Rattle.reduced_scans.specs.Lists.{AreRowLists, JoinsColumns}
use Rattle.reduced_scans.specs.SemiJoins.{IsSifted}
use Rattle.reduced_scans.specs.Wiring.{HoldsByKey, marked_family}
use Rattle.reduced_scans.proofs.OfQuery.{scans_are_row_lists, equalities_within_conjuncts, joins_columns, lists_are, tells}
use Rattle.join_steps.proofs.WholeScans.{scan_ascends}
use Rattle.reduced_scans.proofs.Sifting.{reduced_of_sifted, sifted_tell}
use Rattle.reduced_scans.proofs.UseFacts.{items_within_limit}
use Rattle.reduced_scans.proofs.reducing.reduce_scans.Goals as goal

pub semi_join_all-requires-clause-lists : goal.semi_join_all-requires-clause-lists
semi_join_all-requires-clause-lists c = scans_are_row_lists c.args.query.now c.args.db.now c.args.scans.now c.requires.database c.requires.count c.requires.scans

pub semi_join_all-requires-clause-columns : goal.semi_join_all-requires-clause-columns
semi_join_all-requires-clause-columns c =
    subst (All (JoinsColumns c.args.db.now)) (sym c.requires.equalities) (joins_columns c.args.query.now c.args.db.now c.requires.database)

pub marks_of-requires-clause-lists : goal.marks_of-requires-clause-lists
marks_of-requires-clause-lists c = subst (AreRowLists c.args.db.now) (sym c.as_slice-remaining.ensures) c.in_ok-lists.ensures.lists

pub marks_of-requires-clause-columns : goal.marks_of-requires-clause-columns
marks_of-requires-clause-columns c =
    subst (All (JoinsColumns c.args.db.now)) (sym c.requires.equalities) (joins_columns c.args.query.now c.args.db.now c.requires.database)

pub marks_of-requires-clause-few : goal.marks_of-requires-clause-few
marks_of-requires-clause-few c =
    omega (arith, ap (λ (l : List Edge). length l) c.requires.equalities, equalities_within_conjuncts c.args.query.now, c.requires.database.conjuncts_within_limit)

pub marked_lists-requires-clause-sizes : goal.marked_lists-requires-clause-sizes
marked_lists-requires-clause-sizes c =
    let lists : AreRowLists c.args.db.now c.as_slice-remaining.result.now = subst (AreRowLists c.args.db.now) (sym c.as_slice-remaining.ensures) c.in_ok-lists.ensures.lists in
    lists.sizes

pub marked_lists-requires-clause-few_marks : goal.marked_lists-requires-clause-few_marks
marked_lists-requires-clause-few_marks c =
    let lists : AreRowLists c.args.db.now c.as_slice-remaining.result.now = subst (AreRowLists c.args.db.now) (sym c.as_slice-remaining.ensures) c.in_ok-lists.ensures.lists in
    omega (arith, c.in_ok-marks.ensures.length, items_within_limit c.as_slice-remaining.result.now lists.sizes (length c.as_slice-remaining.result.now), lists.few)

pub returns-clause-reduced : goal.returns-clause-reduced
returns-clause-reduced c =
    let query = c.args.query.now in
    let tables = tables_of c.args.db.now in
    let equal = are_equal_at tables in
    let scans = lists_of c.args.scans.now in
    let es = c.args.equalities.now in
    let left = lists_of c.as_slice-remaining.result.now in
    let same : scans ≡ scans_of query tables = lists_are query c.args.db.now c.args.scans.now c.requires.database c.requires.count c.requires.scans in
    let edges : es ≡ equalities_of query = c.requires.equalities in
    let tell : HoldsByKey scans es (cell_at c.args.db.now) equal =
    subst (λ s. HoldsByKey s es (cell_at c.args.db.now) equal) (sym same)
    (subst (λ es. HoldsByKey (scans_of query tables) es (cell_at c.args.db.now) equal) (sym edges)
    (tells query c.args.db.now c.requires.database c.recall_texts_are_different.ensures.different c.recall_texts_are_different.ensures.utf8)) in
    let sifted : IsSifted scans es equal left =
    subst (λ (lists : List (Rows ℕ)). IsSifted scans es equal (lists_of lists)) (sym c.as_slice-remaining.ensures)
    (c.in_ok-lists.ensures.sifted equal tell (subst AreAscending (sym same) (scan_ascends query tables))) in
    let kept = marked c.in_ok-marks.marks.items in
    let reduced : IsReduced scans es equal (marked_family kept 0 left) =
    reduced_of_sifted scans es equal left (marked_family kept 0 left) sifted
    (c.in_ok-marks.ensures.reduced equal (sifted_tell scans es equal (cell_at c.args.db.now) left tell sifted) sifted.is_family.ascending) in
    subst (IsReduced (scans_of query tables) (equalities_of query) equal) (sym c.in_ok-reduced.ensures.lists)
    (subst (λ es. IsReduced (scans_of query tables) es equal (marked_family kept 0 left)) edges
    (subst (λ s. IsReduced s es equal (marked_family kept 0 left)) same reduced))
