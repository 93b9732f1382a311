use Rattle.std.proofs.Common.{◌≡◌, ◌++◌, ℕ, length, ap, sym, arith}
use Rattle.std.proofs.lemmas.Result.{err_from_is_err_and}
use Rattle.base_io.proofs.WriteFacts.{wrote_with_last_flush, put_equal_text, put_failed, put_then, wrote_err}
use Rattle.printed_texts.specs.Plans.{scan_lines}
use Rattle.printed_texts.specs.TreePlans.{node_lines, tree_lines}
use Rattle.printed_texts.proofs.tree.write_tree.Goals as goal

pub write_nodes-requires : goal.write_nodes-requires
write_nodes-requires g c =
    let joins : length c.as_slice-2.result.now ≡ length c.args.plan.now.joins = ap (λ s. length s) c.as_slice-2.ensures in
    record { few = omega (arith, joins, c.requires.few, c.requires.joins) }

pub returns-in_err-write_scans : goal.returns-in_err-write_scans
returns-in_err-write_scans g c =
    let p = err_from_is_err_and c.from_residual.result c.from_residual.ensures.1 in
    wrote_err c.new-buffer.ensures p.1
    (put_failed (node_lines (length c.args.plan.now.scans) c.args.plan.now.joins) (rw c.as_slice.ensures at c.in_err-write_scans.ensures))

pub returns-in_err-write_nodes : goal.returns-in_err-write_nodes
returns-in_err-write_nodes g c =
    let p = err_from_is_err_and c.from_residual-in_err-write_nodes.result c.from_residual-in_err-write_nodes.ensures.1 in
    wrote_err c.new-buffer.ensures p.1
    (put_equal_text (tree_lines c.args.sources.now c.args.plan.now) (ap (λ (n : ℕ). scan_lines c.args.sources.now c.args.plan.now.scans ++ node_lines n c.args.plan.now.joins) (sym c.requires.scans))
    (put_then (rw c.as_slice.ensures at c.in_ok-write_scans.ensures) (rw c.as_slice-2.ensures at c.in_err-write_nodes.ensures)))

pub returns : goal.returns
returns g c =
    wrote_with_last_flush c.new-buffer.ensures
    (put_equal_text (tree_lines c.args.sources.now c.args.plan.now) (ap (λ (n : ℕ). scan_lines c.args.sources.now c.args.plan.now.scans ++ node_lines n c.args.plan.now.joins) (sym c.requires.scans))
    (put_then (rw c.as_slice.ensures at c.in_ok-write_scans.ensures) (rw c.as_slice-2.ensures at c.in_ok-write_nodes.ensures)))
    c.flush.ensures.wrote
