use Rattle.std.proofs.Common.{List, ap, ◌∙◌}
use Rattle.key_stats.specs.declared.carried.CarriedBounds.{CarriedBounds}
use Rattle.key_bounds.specs.InSets.{bounds_with_carried, list_within}
use Rattle.key_bounds.proofs.Made.{is_some, kept_there, list_known, part_more, sum_known}
use Rattle.key_bounds.proofs.in_sets.add_new.Goals as goal

pub add-requires-clause-total : goal.add-requires-clause-total
add-requires-clause-total c =
    sum_known c.args.keys.now c.args.subset c.args.place.entry c.args.place.column c.list_at-own.result.now c.list_at-own.ensures.list c.args.made.now c.in_ok-list.list
    (c.requires.part.rows c.args.place.entry c.requires.entry) c.requires.entry c.requires.carried
    (c.in_ok-list.ensures ∙ ap (λ (s : List CarriedBounds). list_within s c.args.subset c.args.place.entry c.args.place.column c.list_at-own.result.now) c.as_slice.ensures)

pub returns-clause-part : goal.returns-clause-part
returns-clause-part c =
    part_more (bounds_with_carried c.args.keys.now c.args.subset) c.args.keys.now.count c.args.place.entry c.args.place.column c.in_ok-list.list c.args.made.now c.add.new.self c.requires.part
    (c.in_ok-list.ensures ∙ ap (λ (s : List CarriedBounds). list_within s c.args.subset c.args.place.entry c.args.place.column c.list_at-own.result.now) c.as_slice.ensures
    ∙ list_known c.args.keys.now c.args.subset c.args.place.entry c.args.place.column c.list_at-own.result.now c.list_at-own.ensures.list)
    c.in_ok-add.ensures.set c.in_ok-add.ensures.others c.in_ok-add.ensures.rows

pub returns-clause-there : goal.returns-clause-there
returns-clause-there c = is_some _ c.in_ok-list.list c.in_ok-add.ensures.set

pub returns-clause-kept : goal.returns-clause-kept
returns-clause-kept c =
    kept_there (bounds_with_carried c.args.keys.now c.args.subset) c.args.place.entry c.args.place.column c.in_ok-list.list c.args.made.now c.add.new.self
    c.in_ok-add.ensures.set c.in_ok-add.ensures.others
