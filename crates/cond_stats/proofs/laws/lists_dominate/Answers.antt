use Rattle.degree_sequences.proofs.CompressedLists.{compressed_dominates}
use Rattle.cond_stats.specs.Rows.{joined_keys}
use Rattle.cond_stats.proofs.Dominating.{value_dominates}
use Rattle.cond_stats.proofs.Ranges.{leaves_dominate, between_dominates}
use Rattle.cond_stats.proofs.laws.lists_dominate.Goals as goal

pub returns-clause-whole : goal.returns-clause-whole
returns-clause-whole c k rows = compressed_dominates k (joined_keys rows)

pub returns-clause-value : goal.returns-clause-value
returns-clause-value c = value_dominates

pub returns-clause-leaves : goal.returns-clause-leaves
returns-clause-leaves c = leaves_dominate

pub returns-clause-range : goal.returns-clause-range
returns-clause-range c = between_dominates
