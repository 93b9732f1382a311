use Rattle.level_bounds.proofs.EachScan.{database_within, levels_within}
use Rattle.level_bounds.proofs.NeverUnder.{within}
use Rattle.level_bounds.proofs.Scanning.{level_within}
use Rattle.level_bounds.proofs.laws.levels_are_never_under.Goals as goal

pub returns-clause-database : goal.returns-clause-database
returns-clause-database c = database_within

pub returns-clause-levels : goal.returns-clause-levels
returns-clause-levels c = levels_within

pub returns-clause-tables : goal.returns-clause-tables
returns-clause-tables c = within

pub returns-clause-conjuncts : goal.returns-clause-conjuncts
returns-clause-conjuncts c = λ conjuncts rows key es b subset order asks asked lists dominates o. level_within conjuncts rows key es subset order asks asked o b lists dominates
