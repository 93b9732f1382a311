use Rattle.std.proofs.Common.{◌∙◌}
use Rattle.safebound_bounds.proofs.GivenSets.{set_has_its_bounds, arguments_in_set_are_valid, bound_of_set_is_bound}
use Rattle.safebound_bounds.proofs.in_sets.GivenEntryListsBySet.folded.Goals as goal

pub rows_in_set-requires : goal.rows_in_set-requires
rows_in_set-requires c = record {
  few = c.requires.listed.valid.rows_are_valid.few;
  there = λ i low. (c.requires.listed.valid.lists_are_valid i low).runs_there;
  valid = c.requires.listed.valid.runs_are_valid;
}

pub entry_lists-requires : goal.entry_lists-requires
entry_lists-requires c =
    let valid = arguments_in_set_are_valid c.args.self.now.rows.now c.args.self.now.equalities.now c.args.self.now.lists.now c.args.self.now.runs.now c.requires.listed.valid c.args.parts.now.equalities c.as_slice-edges.result.now
    c.args.subset c.requires.listed.edges c.as_slice-edges.ensures c.as_slice.result.now (c.as_slice.ensures ∙ c.in_ok-rows.ensures) in
    record { few = valid.rows_are_valid.few; rows = valid.rows_are_valid.each; lists = valid.lists_are_valid; runs = valid.runs_are_valid }

pub folded_bound-requires-clause-listed : goal.folded_bound-requires-clause-listed
folded_bound-requires-clause-listed c =
    set_has_its_bounds c.args.self.now.rows.now c.args.self.now.equalities.now c.args.self.now.lists.now c.args.self.now.runs.now c.requires.listed.valid c.args.parts.now.equalities c.as_slice-edges.result.now
    c.args.subset c.requires.listed.edges c.as_slice-edges.ensures c.as_slice.result.now (c.as_slice.ensures ∙ c.in_ok-rows.ensures)
    c.in_ok-lists.lists c.requires.listed.fits c.in_ok-lists.ensures

pub returns : goal.returns
returns c =
    bound_of_set_is_bound c.args.self.now.rows.now c.args.self.now.equalities.now c.args.self.now.lists.now c.args.self.now.runs.now c.requires.listed.valid c.args.parts.now.equalities c.as_slice-edges.result.now
    c.args.subset c.requires.listed.edges c.as_slice-edges.ensures c.as_slice.result.now (c.as_slice.ensures ∙ c.in_ok-rows.ensures)
    c.in_ok-lists.lists c.in_ok-lists.ensures c.folded_bound.result c.folded_bound.ensures
