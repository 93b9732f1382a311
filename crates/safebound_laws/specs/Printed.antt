-- The texts that a run prints, made from its outcome, and the task of a `plan` without flags.
use Rattle.std.specs.Prelude.{ℕ, List, Option}
use Rattle.prepared_runs.specs.RunOutcome.{RunOutcome}
use Rattle.safebound_top.specs.OutcomeTexts.{notes_text, out_text}
use Rattle.safebound_words.specs.declared.command.ListSource.TheVariants as sources
use Rattle.safebound_words.specs.declared.command.OutText.TheVariants as out
use Rattle.safebound_words.specs.declared.command.PlanTerms.{PlanTerms}
use Rattle.safebound_words.specs.declared.command.PlanWork.{PlanWork}

-- the text for the sink `notes` and the text for the sink `out`; either may be missing
abbrev pub both_texts : RunOutcome → Option (List ℕ) × Option (List ℕ)
both_texts outcome = (notes_text outcome, out_text outcome)

-- the task of a `plan` without `--keys`, `--reduce` or `--count`: statistics of whole columns at an accuracy, and no text for the sink `out`
abbrev pub plan_of_columns : PlanTerms → ℕ → PlanWork
plan_of_columns terms accuracy = record { terms = terms; accuracy = accuracy; source = sources.Columns; out = out.Nothing }
