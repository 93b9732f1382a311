use Rattle.std.proofs.Common.{map, slice_index, sym, ap}
use Rattle.sql_meaning.specs.Answers.{selected}
use Rattle.sql_meaning.proofs.AnswerFacts.{last_level_is_chosen, names_its_entries}
use Rattle.sql_meaning.proofs.laws.answer_law.Goals as goal

pub returns : goal.returns
returns c = record {
  choices = last_level_is_chosen;
  answer = λ query tables own. ap (map (λ choice. selected query tables (slice_index choice))) (sym (last_level_is_chosen query tables own));
  own = names_its_entries;
}
