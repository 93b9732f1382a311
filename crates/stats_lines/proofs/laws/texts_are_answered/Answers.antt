use Rattle.std.proofs.Common.{[]}
use Rattle.stats_reading.specs.Drafts.{empty_draft}
use Rattle.stats_lines.specs.Results.{result_from}
use Rattle.stats_lines.proofs.Results.{never_no_memory, result_allowed}
use Rattle.stats_lines.proofs.laws.texts_are_answered.Goals as goal

pub returns : goal.returns
returns c = λ schema text good. (result_from schema empty_draft 1 [] text, result_allowed schema text good, never_no_memory schema text)
