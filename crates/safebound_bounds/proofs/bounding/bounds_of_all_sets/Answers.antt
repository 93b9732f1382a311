use Rattle.safebound_bounds.proofs.GivenSets.{known_in_depends_on_parts_only}
use Rattle.safebound_bounds.proofs.bounding.bounds_of_all_sets.Goals as goal

pub bounds_if_lists_cover_rows-requires-clause-full : goal.bounds_if_lists_cover_rows-requires-clause-full
bounds_if_lists_cover_rows-requires-clause-full c = c.cover_rows.ensures c.if-cover_rows.true

pub bounds_in_sets-requires-clause-listed : goal.bounds_in_sets-requires-clause-listed
bounds_in_sets-requires-clause-listed c subset fits = record { valid = c.requires.valid; edges = c.requires.edges; fits = fits }

pub bounds_in_sets-requires-clause-depends_on_parts : goal.bounds_in_sets-requires-clause-depends_on_parts
bounds_in_sets-requires-clause-depends_on_parts c = known_in_depends_on_parts_only c.args.given.now.rows.now c.args.given.now.equalities.now c.args.given.now.lists.now c.args.given.now.runs.now c.requires.valid c.args.parts.now.equalities c.requires.edges
