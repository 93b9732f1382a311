use Rattle.std.proofs.Common.{arith, map, subst, sym}
use Rattle.std.specs.Prelude.{IsPermutation}
use Rattle.sql_meaning.specs.Answers.{answer, selected}
use Rattle.sql_meaning.specs.Levels.{row_in}
use Rattle.level_bounds.proofs.LastLevel.{last_level_is_answer}
use Rattle.join_graph.specs.Conjuncts.{equalities_of}
use Rattle.level_bounds.specs.Keys.{are_equal_at}
use Rattle.sql_meaning.proofs.AskFacts.{depend_on_named}
use Rattle.join_steps.specs.Lists.{scans_of}
use Rattle.reduced_scans.proofs.Levels.{rows_stay}
use Rattle.reduced_scans.proofs.Matches.{match_stays}
use Rattle.join_steps.proofs.WholeScans.{scans_of_length}
use Rattle.reduced_scans.proofs.QueryScans.{name_entries}
use Rattle.reduced_scans.proofs.SameLevel.{same_level}
use Rattle.reduced_scans.proofs.laws.no_row_of_the_answer_is_lost.Goals as goal

pub returns-clause-choices : goal.returns-clause-choices
returns-clause-choices c query tables reduced choice named are satisfies entry entry_in_range =
    match_stays (scans_of query tables) (equalities_of query) (are_equal_at tables) reduced choice (name_entries query tables named) are satisfies entry (omega (arith, scans_of_length query tables))

pub returns-clause-rows : goal.returns-clause-rows
returns-clause-rows c query tables reduced order choice named are o there entry entry_in_range =
    rows_stay query tables (depend_on_named tables query.conjuncts) named order o choice there reduced are entry entry_in_range

pub returns-clause-level : goal.returns-clause-level
returns-clause-level c query tables reduced order named are o = same_level query tables reduced are named order o

pub returns-clause-answer : goal.returns-clause-answer
returns-clause-answer c query tables reduced order named are o =
    subst (λ level. IsPermutation (map (λ choice. selected query tables (row_in order choice)) level) (answer query tables)) (sym (same_level query tables reduced are named order o))
    (last_level_is_answer query tables order named o)
