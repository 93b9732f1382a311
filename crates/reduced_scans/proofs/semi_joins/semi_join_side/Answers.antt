use Rattle.std.proofs.Common.{arith, ap, sym, subst, ◌∙◌, ◌≡◌, ◌<◌, ℕ, List, get_or, length}
use Rattle.std.specs.Prelude.{All}
use Rattle.join_steps.specs.Columns.{column_cells}
use Rattle.level_bounds.specs.Keys.{cell_at}
use Rattle.sql_meaning.specs.Tables.{cells_of}
use Rattle.join_steps.specs.Lists.{list_at, lists_of}
use Rattle.reduced_scans.specs.Lists.{column_of}
use Rattle.reduced_scans.specs.SemiJoins.{IsSemiJoin}
use Rattle.reduced_scans.proofs.SiftedLists.{got_list, joined_at, joined_lists, unchanged_is_joined}
use Rattle.reduced_scans.proofs.semi_joins.semi_join_side.Goals as goal

pub semi_join-requires-clause-rows : goal.semi_join-requires-clause-rows
semi_join-requires-clause-rows c =
    let entry = c.args.side.entry in
    let list : c.as_slice-list.result.now ≡ list_at (lists_of c.args.lists.now) entry = c.as_slice-list.ensures ∙ got_list c.args.lists.now entry c.get.result.now c.get.ensures in
    subst (λ (n : ℕ). All (λ row. row < n) c.as_slice-list.result.now) (sym c.cells_at.ensures.rows)
    (subst (All (λ row. row < (cells_of c.args.db.now entry).rows)) (sym list) (c.requires.lists.rows entry (omega (arith, c.requires.side.entry, c.requires.lists.count))))

pub semi_join-requires-clause-partners : goal.semi_join-requires-clause-partners
semi_join-requires-clause-partners c =
    let entry = c.args.other.entry in
    let list : c.as_slice-partners.result.now ≡ list_at (lists_of c.args.lists.now) entry = c.as_slice-partners.ensures ∙ got_list c.args.lists.now entry c.get-2.result.now c.get-2.ensures in
    subst (λ (n : ℕ). All (λ row. row < n) c.as_slice-partners.result.now) (sym c.cells_at-2.ensures.rows)
    (subst (All (λ row. row < (cells_of c.args.db.now entry).rows)) (sym list) (c.requires.lists.rows entry (omega (arith, c.requires.other.entry, c.requires.lists.count))))

pub semi_join-requires-clause-few : goal.semi_join-requires-clause-few
semi_join-requires-clause-few c =
    omega (
      arith,
      ap (λ (l : List ℕ). length l) (c.as_slice-list.ensures ∙ got_list c.args.lists.now c.args.side.entry c.get.result.now c.get.ensures),
      ap (λ (l : List ℕ). length l) (c.as_slice-partners.ensures ∙ got_list c.args.lists.now c.args.other.entry c.get-2.result.now c.get-2.ensures),
      c.requires.lists.sizes c.args.side.entry,
      c.requires.lists.sizes c.args.other.entry,
    )

pub returns-in-Some-clause-joined : goal.returns-in-Some-clause-joined
returns-in-Some-clause-joined c =
    let list : c.as_slice-list.result.now ≡ list_at (lists_of c.args.lists.now) c.args.side.entry =
    c.as_slice-list.ensures ∙ got_list c.args.lists.now c.args.side.entry c.get.result.now c.get.ensures in
    let partners : c.as_slice-partners.result.now ≡ list_at (lists_of c.args.lists.now) c.args.other.entry =
    c.as_slice-partners.ensures ∙ got_list c.args.lists.now c.args.other.entry c.get-2.result.now c.get-2.ensures in
    let Joins : List ℕ → List ℕ → List ℕ → List ℕ → Type 0 =
    λ cells partner_cells l p. IsSemiJoin (λ row. get_or cells row 0) (λ row. get_or partner_cells row 0) l p c.in-Some.rows.items in
    let found : Joins c.cells_at.result.now c.cells_at-2.result.now c.as_slice-list.result.now c.as_slice-partners.result.now = rw c.in-Some.is at c.in_ok-kept.ensures in
    let join : Joins (column_cells c.args.db.now (column_of c.args.side)) (column_cells c.args.db.now (column_of c.args.other)) (list_at (lists_of c.args.lists.now) c.args.side.entry)
    (list_at (lists_of c.args.lists.now) c.args.other.entry) =
    rw (← c.cells_at.ensures.cells, ← c.cells_at-2.ensures.cells, ← list, ← partners) found in
    joined_at (cell_at c.args.db.now) c.args.side c.args.other c.args.lists.now c.replace.new.self c.in-Some.rows (omega (arith, c.requires.side.entry, c.requires.lists.count)) c.replace.ensures.new join

pub returns-in-Some-clause-lists : goal.returns-in-Some-clause-lists
returns-in-Some-clause-lists c =
    joined_lists (cell_at c.args.db.now) c.args.side c.args.other c.args.db.now c.args.lists.now c.replace.new.self c.requires.lists (returns-in-Some-clause-joined c)

pub returns-in_default-clause-joined : goal.returns-in_default-clause-joined
returns-in_default-clause-joined c = unchanged_is_joined (cell_at c.args.db.now) c.args.side c.args.other (lists_of c.args.lists.now)
