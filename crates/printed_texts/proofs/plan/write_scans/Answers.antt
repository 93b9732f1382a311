use Rattle.std.proofs.Common.{◌+◌, ◌++◌, drop, get_or, ap, sym, refl, ◌∙◌, arith}
use Rattle.std.proofs.lemmas.Result.{err_from_is_err_and}
use Rattle.base_io.proofs.WriteFacts.{put_failed_next, put_with_other_error, put_then}
use Rattle.printed_texts.specs.Plans.{scan_line, scan_lines}
use Rattle.printed_texts.proofs.PlanLines.{next_scan, one_more_done}
use Rattle.printed_texts.proofs.plan.write_scans.Goals as goal

pub returns-in_err-write_scan : goal.returns-in_err-write_scan
returns-in_err-write_scan g c =
    let p = err_from_is_err_and c.from_residual.result c.from_residual.ensures.1 in
    let sources = c.args.sources.now in
    let bounds = c.args.bounds.now in
    let next = next_scan sources bounds c.scans.i c.index-sources-i.result (get_or bounds c.scans.i 0) (omega arith) (omega arith) c.index-sources-i.is refl in
    put_with_other_error p.1 (put_failed_next (scan_lines (drop (c.scans.i + 1) sources) (drop (c.scans.i + 1) bounds)) (scan_lines sources bounds)
    (ap (λ x. c.scans.invariant.done ++ x) (sym next) ∙ c.scans.invariant.left) c.scans.invariant.put (rw c.as_str.ensures at c.in_err-write_scan.ensures))

pub scans-preserved : goal.scans-preserved
scans-preserved g c =
    let sources = c.args.sources.now in
    let bounds = c.args.bounds.now in
    let next = next_scan sources bounds c.scans.i c.index-sources-i.result (get_or bounds c.scans.i 0) (omega arith) (omega arith) c.index-sources-i.is refl in
    record {
      done = c.scans.invariant.done ++ scan_line c.index-sources-i.result.alias (get_or bounds c.scans.i 0);
      left = one_more_done c.scans.invariant.done _ _ _ _ c.scans.invariant.left next;
      put = put_then c.scans.invariant.put (rw c.as_str.ensures at c.in_ok-write_scan.ensures);
    }
