use Rattle.std.proofs.Common.{arith}
use Rattle.std.proofs.lemmas.Bool.Decides.{nat_tests}
use Rattle.stats_file.specs.Lines.{runs_text}
use Rattle.stats_file.proofs.RunFacts.{first_and_others}
use Rattle.base_io.proofs.WriteFacts.{put_equal_text, put_then}
use Rattle.stats_file.proofs.parts.put_runs.Goals as goal

pub returns : goal.returns
returns g c =
    put_equal_text (runs_text c.args.runs.now) (first_and_others c.args.runs.now _ (grind (arith, nat_tests))) (put_then c.in_ok-put_run.ensures c.put_next_runs.ensures)
