use Rattle.std.proofs.Common.{length, ap, arith}
use Rattle.std.proofs.lemmas.Result.{err_from_is_err_and}
use Rattle.base_io.proofs.WriteFacts.{wrote_with_last_flush, wrote_err}
use Rattle.joined_texts.proofs.tree_audit.write_tree_audit.Goals as goal

pub put_nodes-requires : goal.put_nodes-requires
put_nodes-requires g c = record {
  nodes = omega (arith, c.requires.nodes, c.len-first.ensures, ap (λ s. length s) c.as_slice.ensures);
  few = omega (arith, c.requires.plan.few, c.requires.plan.joins, c.len-first.ensures, ap (λ s. length s) c.as_slice.ensures);
}

pub returns-in_err-put_nodes : goal.returns-in_err-put_nodes
returns-in_err-put_nodes g c =
    let p = err_from_is_err_and c.from_residual.result c.from_residual.ensures.1 in
    wrote_err c.new-buffer.ensures p.1 (rw (c.as_slice.ensures, c.len-first.ensures) at c.in_err-put_nodes.ensures)

pub returns : goal.returns
returns g c = wrote_with_last_flush c.new-buffer.ensures (rw (c.as_slice.ensures, c.len-first.ensures) at c.in_ok-put_nodes.ensures) c.flush.ensures.wrote
