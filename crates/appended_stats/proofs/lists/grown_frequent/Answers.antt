use Rattle.std.proofs.Common.{◌<◌, ◌^◌, ℕ, List, length, sum, ap, ◌∙◌, arith}
use Rattle.std.specs.List.{zip}
use Rattle.std.proofs.lemmas.List.{length-set}
use Rattle.csv_tables.specs.Cells.{value_of_cell}
use Rattle.stats_file.specs.declared.types.Datum.{Datum}
use Rattle.appended_stats.specs.Grown.{with_new_rows}
use Rattle.appended_stats.proofs.Frequent.{grown_made}
use Rattle.appended_stats.proofs.Walks.{all_changed, length-changed, one_changed, read_all}
use Rattle.appended_stats.proofs.lists.grown_frequent.Goals as goal

pub get-requires : goal.get-requires
get-requires c =
    omega (
      arith,
      c.loop-i-test.true,
      c.len-i-end.ensures,
      length-changed (with_new_rows (value_of_cell c.args.pool.now c.args.kind) c.args.accuracy (zip c.args.cells.now c.args.joined.now)) c.args.frequent c.loop-i.grown c.loop-i.i c.loop-i.invariant,
    )

pub get-requires-in-loop-i : goal.get-requires-in-loop-i
get-requires-in-loop-i c =
    omega (
      arith,
      c.loop-i-test.true,
      c.len-i-end.ensures,
      length-changed (with_new_rows (value_of_cell c.args.pool.now c.args.kind) c.args.accuracy (zip c.args.cells.now c.args.joined.now)) c.args.frequent c.loop-i.grown c.loop-i.i c.loop-i.invariant,
    )

pub sum_by_rank-requires-clause-list : goal.sum_by_rank-requires-clause-list
sum_by_rank-requires-clause-list c =
    read_all (λ (found : Datum × List ℕ). sum found.1 < 2 ^ 64) (with_new_rows (value_of_cell c.args.pool.now c.args.kind) c.args.accuracy (zip c.args.cells.now c.args.joined.now))
    c.args.frequent c.loop-i.grown c.loop-i.i c.get-in-loop-i.result.now c.requires.frequent (omega (arith, c.loop-i-test.true, c.len-i-end.ensures)) c.loop-i.invariant c.get-in-loop-i.ensures

pub replace-value-requires : goal.replace-value-requires
replace-value-requires c =
    omega (
      arith,
      c.loop-i-test.true,
      c.len-i-end.ensures,
      length-changed (with_new_rows (value_of_cell c.args.pool.now c.args.kind) c.args.accuracy (zip c.args.cells.now c.args.joined.now)) c.args.frequent c.loop-i.grown c.loop-i.i c.loop-i.invariant,
    )

pub replace-requires : goal.replace-requires
replace-requires c =
    omega (
      arith,
      c.loop-i-test.true,
      c.len-i-end.ensures,
      length-changed (with_new_rows (value_of_cell c.args.pool.now c.args.kind) c.args.accuracy (zip c.args.cells.now c.args.joined.now)) c.args.frequent c.loop-i.grown c.loop-i.i c.loop-i.invariant,
      ap (λ (s : List (Datum × List ℕ)). length s) c.replace-value.ensures.new ∙ length-set c.loop-i.grown c.loop-i.i _,
    )

pub loop-i-preserved : goal.loop-i-preserved
loop-i-preserved c =
    one_changed (with_new_rows (value_of_cell c.args.pool.now c.args.kind) c.args.accuracy (zip c.args.cells.now c.args.joined.now)) c.args.frequent c.loop-i.grown
    c.replace-value.new.self c.replace.new.self c.loop-i.i c.replace-value.result _ _ (omega (arith, c.loop-i-test.true, c.len-i-end.ensures)) c.loop-i.invariant
    c.replace-value.ensures.old c.replace-value.ensures.new
    (grown_made (value_of_cell c.args.pool.now c.args.kind) c.args.accuracy (zip c.args.cells.now c.args.joined.now) c.loop-i.grown c.loop-i.i c.replace-value.result c.get.result.now
    c.get-in-loop-i.result.now c.in_ok-more.more c.in_ok-list.list c.replace-value.ensures.old c.get.ensures c.get-in-loop-i.ensures c.in_ok-more.ensures.list c.in_ok-list.ensures)
    c.replace.ensures.new

pub returns : goal.returns
returns c =
    all_changed (with_new_rows (value_of_cell c.args.pool.now c.args.kind) c.args.accuracy (zip c.args.cells.now c.args.joined.now)) c.args.frequent c.loop-i.grown c.loop-i.i
    (omega (arith, c.loop-i-test.false, c.len-i-end.ensures)) c.loop-i.invariant
