use Rattle.std.proofs.lemmas.Result.{err_from_is_err_and}
use Rattle.base_io.proofs.WriteFacts.{wrote_with_other_error, wrote_then}
use Rattle.printed_texts.specs.Memory.{memory_text}
use Rattle.safebound_top.proofs.TextSteps.{cut_first}
use Rattle.safebound_top.proofs.texts.write_plan_text.Goals as goal

pub returns-in_err-write_plan_lines : goal.returns-in_err-write_plan_lines
returns-in_err-write_plan_lines g c =
    let p = err_from_is_err_and c.from_residual.result c.from_residual.ensures.1 in
    wrote_with_other_error p.1 (cut_first (memory_text c.args.memory c.args.bytes) c.in_err-write_plan_lines.ensures)

pub returns : goal.returns
returns g c = wrote_then c.in_ok-write_plan_lines.ensures c.write_memory.ensures
