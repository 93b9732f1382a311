use Rattle.sql_meaning.proofs.Order.{choices_ascend, choices_differ, has_choice, is_choice}
use Rattle.sql_meaning.proofs.laws.choices_law.Goals as goal

pub returns : goal.returns
returns c = record {
  ascend = choices_ascend;
  different = choices_differ;
  members = λ rows entries choice. (is_choice rows entries choice, has_choice rows entries choice);
}
