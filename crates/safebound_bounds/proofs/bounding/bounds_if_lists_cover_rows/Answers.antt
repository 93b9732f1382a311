use Rattle.safebound_bounds.proofs.GivenSets.{covered_bound_is_bound, whole_set_has_bounds}
use Rattle.safebound_bounds.proofs.bounding.bounds_if_lists_cover_rows.Goals as goal

pub entry_lists-requires : goal.entry_lists-requires
entry_lists-requires c = record {
  few = c.requires.valid.rows_are_valid.few;
  rows = c.requires.valid.rows_are_valid.each;
  lists = c.requires.valid.lists_are_valid;
  runs = c.requires.valid.runs_are_valid;
}

pub bounds_of_sets-requires-clause-listed : goal.bounds_of_sets-requires-clause-listed
bounds_of_sets-requires-clause-listed c =
    whole_set_has_bounds c.args.given.now.rows.now c.args.given.now.equalities.now c.args.given.now.lists.now c.args.given.now.runs.now c.requires.valid c.in_ok-entries.entries c.args.parts.now.equalities c.requires.edges c.in_ok-entries.ensures

pub returns : goal.returns
returns c =
    covered_bound_is_bound c.args.given.now.rows.now c.args.given.now.equalities.now c.args.given.now.lists.now c.args.given.now.runs.now c.requires.valid c.in_ok-entries.entries c.args.parts.now.equalities c.in_ok-entries.ensures c.requires.full
    c.bounds_of_sets.result c.bounds_of_sets.ensures.exact
