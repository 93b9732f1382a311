use Rattle.sql_meaning.proofs.Worked.{not_in, ends_swapped, thrice, x_is_by_cells}
use Rattle.query_grammar.specs.declared.tree.Op.TheVariants as op
use Rattle.sql_meaning.proofs.examples.filters.Goals as goal

pub returns : goal.returns
returns c = record { not_in = not_in; ends_swapped = ends_swapped; thrice = thrice; up_to = x_is_by_cells op.Le 2; below = x_is_by_cells op.Lt 2; above = x_is_by_cells op.Gt 2; absent = x_is_by_cells op.Eq 4; other = x_is_by_cells op.Ne 2 }
