-- The texts that a run writes, by its outcome.
use Rattle.std.specs.Prelude.{ℕ, List, Option, None, Some}
use Rattle.stats_file.specs.FileText.{file_text}
use Rattle.prepared_runs.specs.RunOutcome.{Appended, StatsMade, PlanFromStatsFile, RunOutcome, Planned, PlannedFromStats}
use Rattle.safebound_top.specs.Texts.{out_text_of, plan_text, plan_text_of}

-- the plan text of a plan from a statistics file
abbrev pub stats_file_plan_text : PlanFromStatsFile → List ℕ
stats_file_plan_text made = plan_text_of made.query.from made.shape made.plan made.memory

-- the text for notes, if there is one: the plan text
abbrev pub notes_text : RunOutcome → Option (List ℕ)
notes_text (Planned run) = Some (plan_text run)
notes_text (StatsMade made_stats) = None
notes_text (PlannedFromStats made) = Some (stats_file_plan_text made)
notes_text (Appended made) = None

-- the text for out, if there is one
abbrev pub out_text : RunOutcome → Option (List ℕ)
out_text (Planned run) = out_text_of run
out_text (StatsMade made_stats) = Some (file_text made_stats.schema made_stats.file)
out_text (PlannedFromStats made) = None
out_text (Appended made) = Some (file_text made.schema made.file)
