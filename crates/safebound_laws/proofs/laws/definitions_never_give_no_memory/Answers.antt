use Rattle.stats_file_bounds.specs.Bounds.{scan_bounds_of_file, set_bounds_of_file}
use Rattle.stats_answers.proofs.StatsAnswers as stats
use Rattle.text_answers.proofs.QueryAnswers as queries
use Rattle.text_answers.proofs.SchemaAnswers as schemas
use Rattle.prepared_runs.proofs.ShapeFacts.{never_wants_memory, answer_never_wants_memory}
use Rattle.safebound_laws.proofs.TableErrors as tables
use Rattle.safebound_laws.proofs.laws.definitions_never_give_no_memory.Goals as goal

pub returns-clause-schemas : goal.returns-clause-schemas
returns-clause-schemas c = schemas.never_out_of_memory

pub returns-clause-queries : goal.returns-clause-queries
returns-clause-queries c = queries.never_out_of_memory

pub returns-clause-tables : goal.returns-clause-tables
returns-clause-tables c = tables.never_out_of_memory

pub returns-clause-plans : goal.returns-clause-plans
returns-clause-plans c = never_wants_memory

pub returns-clause-statistics : goal.returns-clause-statistics
returns-clause-statistics c = stats.never_out_of_memory

pub returns-clause-filed_plans : goal.returns-clause-filed_plans
returns-clause-filed_plans c = λ terms query file. answer_never_wants_memory terms.shape (set_bounds_of_file query file) (scan_bounds_of_file query file) terms.budget
