use Rattle.stats_answers.proofs.SmallTexts.{text_without_last_line, complete_text}
use Rattle.stats_answers.proofs.examples.small_texts.Goals as goal

pub returns : goal.returns
returns c = record { complete_text = complete_text; text_without_last_line = text_without_last_line }
