use Rattle.level_bounds.proofs.NeverUnder.{level_choices_satisfy, level_choices_differ}
use Rattle.level_bounds.proofs.laws.levels_are_choices_of_scanned_rows.Goals as goal

pub returns-clause-satisfy : goal.returns-clause-satisfy
returns-clause-satisfy c = level_choices_satisfy

pub returns-clause-different : goal.returns-clause-different
returns-clause-different c = level_choices_differ
