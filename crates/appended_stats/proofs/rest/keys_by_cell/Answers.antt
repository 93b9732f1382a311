use Rattle.std.proofs.Common.{get_or, refl, sym, ◌∙◌}
use Rattle.appended_stats.proofs.Groups.{groups_complete, row_without_group, row_with_group}
use Rattle.appended_stats.proofs.rest.keys_by_cell.Goals as goal
use Rattle.appended_stats.proofs.rest.keys_by_cell.Goals.{in-Some+in_ok-add_key, in_default}

pub loop-i-preserved : goal.loop-i-preserved
loop-i-preserved c = elim c.match-get_index_of.branch [
  | in-Some+in_ok-add_key w ↦ rw w.groups-is (row_with_group c.args.others.now.keys c.args.cells.now c.args.joined.now c.requires.different c.requires.joined c.loop-i.groups
      w.add_key.new.groups c.loop-i.i w.in-Some.place (get_or c.args.joined.now c.loop-i.i 0) c.loop-i-test.true c.loop-i.invariant (sym c.get_index_of.ensures.index ∙ w.in-Some.is) refl
      w.in_ok-add_key.ensures)
  | in_default w ↦ rw w.groups-is (row_without_group c.args.others.now.keys c.args.cells.now c.args.joined.now c.requires.different c.requires.joined c.loop-i.groups c.loop-i.groups
      c.loop-i.i c.loop-i-test.true c.loop-i.invariant (sym c.get_index_of.ensures.index ∙ w.in_default.is) refl)
]

pub returns : goal.returns
returns c =
    groups_complete c.args.others.now.keys c.args.cells.now c.args.joined.now c.requires.different c.requires.joined c.loop-i.groups c.loop-i.i c.loop-i-test.false c.loop-i.invariant
