use Rattle.std.proofs.Common.{◌++◌, sym}
use Rattle.std.specs.Prelude.{codes}
use Rattle.std.specs.List.{concat, flat_map}
use Rattle.std.proofs.lemmas.Result.{err_from_is_err_and}
use Rattle.stats_file.specs.Lines.{list_line}
use Rattle.stats_file.specs.FileText.{pair_lines, value_line}
use Rattle.stats_file.specs.Runs.{runs_of}
use Rattle.stats_file.proofs.TextFacts.{pair_text_is, histogram_part}
use Rattle.base_io.proofs.WriteFacts.{put_equal_text, put_failed, put_with_other_error, put_then}
use Rattle.stats_file.proofs.write.put_pair.Goals as goal

pub returns-in_err-put_names : goal.returns-in_err-put_names
returns-in_err-put_names g c =
    let p = err_from_is_err_and c.from_residual.result c.from_residual.ensures.1 in
    let pair = c.args.pair.now in
    put_with_other_error p.1 (put_equal_text (concat (pair_lines c.args.table.now pair)) (sym (pair_text_is c.args.table.now pair))
    (put_failed (list_line (codes "whole") (runs_of pair.whole) ++ (flat_map value_line pair.frequent ++ (list_line (codes "rest") (runs_of pair.rest) ++ histogram_part pair)))
    c.in_err-put_names.ensures))

pub returns-in_err-put_list_line : goal.returns-in_err-put_list_line
returns-in_err-put_list_line g c =
    let p = err_from_is_err_and c.from_residual-in_err-put_list_line.result c.from_residual-in_err-put_list_line.ensures.1 in
    let pair = c.args.pair.now in
    put_with_other_error p.1 (put_equal_text (concat (pair_lines c.args.table.now pair)) (sym (pair_text_is c.args.table.now pair))
    (put_then c.in_ok-put_names.ensures
    (put_failed (flat_map value_line pair.frequent ++ (list_line (codes "rest") (runs_of pair.rest) ++ histogram_part pair)) c.in_err-put_list_line.ensures)))

pub returns-in_err-put_frequent : goal.returns-in_err-put_frequent
returns-in_err-put_frequent g c =
    let p = err_from_is_err_and c.from_residual-in_err-put_frequent.result c.from_residual-in_err-put_frequent.ensures.1 in
    let pair = c.args.pair.now in
    put_with_other_error p.1 (put_equal_text (concat (pair_lines c.args.table.now pair)) (sym (pair_text_is c.args.table.now pair))
    (put_then c.in_ok-put_names.ensures (put_then c.in_ok-put_list_line.ensures
    (put_failed (list_line (codes "rest") (runs_of pair.rest) ++ histogram_part pair) (rw c.as_slice.ensures at c.in_err-put_frequent.ensures)))))

pub returns-in_err-put_list_line-2 : goal.returns-in_err-put_list_line-2
returns-in_err-put_list_line-2 g c =
    let p = err_from_is_err_and c.from_residual-in_err-put_list_line-2.result c.from_residual-in_err-put_list_line-2.ensures.1 in
    let pair = c.args.pair.now in
    put_with_other_error p.1 (put_equal_text (concat (pair_lines c.args.table.now pair)) (sym (pair_text_is c.args.table.now pair))
    (put_then c.in_ok-put_names.ensures (put_then c.in_ok-put_list_line.ensures (put_then (rw c.as_slice.ensures at c.in_ok-put_frequent.ensures)
    (put_failed (histogram_part pair) c.in_err-put_list_line-2.ensures)))))

pub returns : goal.returns
returns g c =
    let pair = c.args.pair.now in
    put_equal_text (concat (pair_lines c.args.table.now pair)) (sym (pair_text_is c.args.table.now pair))
    (put_then c.in_ok-put_names.ensures (put_then c.in_ok-put_list_line.ensures (put_then (rw c.as_slice.ensures at c.in_ok-put_frequent.ensures)
    (put_then c.in_ok-put_list_line-2.ensures c.put_histogram.ensures))))
