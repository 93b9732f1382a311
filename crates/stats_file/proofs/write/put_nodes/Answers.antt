use Rattle.std.proofs.Common.{List, ℕ, refl, arith}
use Rattle.std.specs.Prelude.{codes}
use Rattle.std.proofs.lemmas.Result.{err_from_is_err_and}
use Rattle.base_io.proofs.WriteFacts.{put_with_other_error, put_item, put_item_failed}
use Rattle.stats_file.specs.Lines.{list_line}
use Rattle.stats_file.specs.Runs.{runs_of}
use Rattle.stats_file.proofs.write.put_nodes.Goals as goal

pub returns-in_err-put_list_line : goal.returns-in_err-put_list_line
returns-in_err-put_list_line g c =
    let p = err_from_is_err_and c.from_residual.result c.from_residual.ensures.1 in
    put_with_other_error p.1 (put_item_failed (λ (node : List ℕ). list_line (codes "node") (runs_of node)) c.args.nodes.now c.nodes.node-index c.node-item.result (omega arith) c.node-item.is refl c.nodes.invariant c.in_err-put_list_line.ensures)

pub nodes-preserved : goal.nodes-preserved
nodes-preserved g c = put_item (λ (node : List ℕ). list_line (codes "node") (runs_of node)) c.args.nodes.now c.nodes.node-index c.node-item.result (omega arith) c.node-item.is refl c.nodes.invariant c.in_ok-put_list_line.ensures
