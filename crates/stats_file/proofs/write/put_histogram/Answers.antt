use Rattle.std.proofs.Common.{List, ℕ}
use Rattle.std.specs.Prelude.{codes}
use Rattle.std.specs.List.{flat_map}
use Rattle.std.proofs.lemmas.Result.{err_from_is_err_and}
use Rattle.stats_file.specs.Lines.{list_line}
use Rattle.stats_file.specs.Runs.{runs_of}
use Rattle.base_io.proofs.WriteFacts.{put_failed, put_with_other_error, put_then}
use Rattle.stats_file.proofs.write.put_histogram.Goals as goal

pub returns-in_err-put_cuts : goal.returns-in_err-put_cuts
returns-in_err-put_cuts g c =
    let p = err_from_is_err_and c.from_residual.result c.from_residual.ensures.1 in
    put_with_other_error p.1 (put_failed (flat_map (λ (node : List ℕ). list_line (codes "node") (runs_of node)) c.args.pair.now.nodes) (rw c.as_slice.ensures at c.in_err-put_cuts.ensures))

pub returns : goal.returns
returns g c = put_then (rw c.as_slice.ensures at c.in_ok-put_cuts.ensures) (rw c.as_slice-2.ensures at c.put_nodes.ensures)
