use Rattle.std.proofs.Common.{◌≡◌, ℕ, List, ◌++◌, ap, ◌∙◌}
use Rattle.base_io.proofs.WriteFacts.{wrote_equal_text}
use Rattle.printed_texts.specs.Memory.{memory_text}
use Rattle.query_types.specs.declared.types.Source.{Source}
use Rattle.prepared_runs.specs.RunOutcome.{PlanFromStatsFile}
use Rattle.prepared_runs.specs.Shapes.{shape_lines}
use Rattle.tree_rows.specs.Memory.{tree_bytes}
use Rattle.safebound_top.specs.OutcomeTexts.{stats_file_plan_text}
use Rattle.prepared_runs.specs.declared.stats_files.PreparedStatsFilePlan.{PreparedStatsFilePlan}
use Rattle.safebound_top.proofs.TextSteps.{plan_cut, plan_wrote}
use Rattle.safebound_top.proofs.texts.write_stats_file_plan.Goals as goal

abbrev made_of : PreparedStatsFilePlan → PlanFromStatsFile
made_of made = record { query = made.query; file = made.file; shape = made.shape; plan = made.plan; memory = made.memory }

text_is : (made : PreparedStatsFilePlan) {sources : List Source} → sources ≡ made.query.from → made.bytes ≡ tree_bytes made.plan
    → shape_lines sources made.shape made.plan ++ memory_text made.memory made.bytes ≡ stats_file_plan_text (made_of made)
text_is made from bytes =
    ap (λ (s : List Source). shape_lines s made.shape made.plan ++ memory_text made.memory made.bytes) from
    ∙ ap (λ (b : ℕ). shape_lines made.query.from made.shape made.plan ++ memory_text made.memory b) bytes

pub write_plan_text-requires : goal.write_plan_text-requires
write_plan_text-requires g c = rw c.as_slice.ensures c.requires.plan

pub returns-in-Ok : goal.returns-in-Ok
returns-in-Ok g c out still =
    let made = c.args.made in
    plan_wrote out _ (made_of made) still tt (wrote_equal_text (stats_file_plan_text (made_of made)) (text_is made c.as_slice.ensures c.requires.bytes) c.in-Ok.ensures)

pub returns : goal.returns
returns g c out still =
    let made = c.args.made in
    plan_cut out _ (made_of made) still _ (wrote_equal_text (stats_file_plan_text (made_of made)) (text_is made c.as_slice.ensures c.requires.bytes) c.in-Err.ensures)
