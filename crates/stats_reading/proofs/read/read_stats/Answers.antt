use Rattle.std.proofs.Common.{subst, sym, Err}
use Rattle.stats_file.specs.declared.types.StatsError.{StatsError}
use Rattle.stats_file.specs.Answers.{IsAllowedResult as FileAnswers}
use Rattle.stats_reading.proofs.Reading.{all_read, read_more, refused, too_early}
use Rattle.stats_reading.proofs.read.read_stats.Goals as goal

pub returns-in-Err : goal.returns-in-Err
returns-in-Err c =
    subst (λ (x : StatsError). FileAnswers c.args.schema.now c.args.bytes.now (Err x)) (sym c.refusal.ensures)
    (refused c.args.schema.now c.args.bytes.now c.lines.rest.now c.in-Some.text.now c.in-Some.others.now c.lines.draft c.take_line.new.draft c.lines.line c.in-Err.fault
    c.lines.invariant c.in-Some.ensures c.in-Err.ensures)

pub lines-preserved : goal.lines-preserved
lines-preserved c =
    read_more c.args.schema.now c.args.bytes.now c.lines.rest.now c.in-Some.text.now c.in-Some.others.now c.lines.draft c.take_line.new.draft c.lines.line
    c.lines.invariant c.in-Some.ensures c.in_default-take_line.ensures

pub returns-then-is_complete : goal.returns-then-is_complete
returns-then-is_complete c =
    let both = c.is_complete.ensures.0 (cc) in
    all_read c.args.schema.now c.args.bytes.now c.lines.rest.now c.lines.draft c.lines.line c.finish.result c.lines.invariant both.0 both.1 c.finish.ensures

pub returns-else-is_complete : goal.returns-else-is_complete
returns-else-is_complete c =
    too_early c.args.schema.now c.args.bytes.now c.lines.rest.now c.lines.draft c.lines.line c.lines.invariant c.in_default.ensures (λ both. let told = c.is_complete.ensures.1 both in cc)
