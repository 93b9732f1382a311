use Rattle.std.proofs.Common.{List, length, ap, ◌∙◌, arith}
use Rattle.std.proofs.lemmas.List.{length-set}
use Rattle.stats_file.specs.declared.types.PairStats.{PairStats}
use Rattle.appended_stats.specs.Cells.{pair_by_cells}
use Rattle.appended_stats.specs.Conditions.{MayGrow}
use Rattle.appended_stats.proofs.Walks.{all_changed, length-changed, one_changed, read_all}
use Rattle.appended_stats.proofs.file.pairs_after.Goals as goal

pub replace-pair-requires : goal.replace-pair-requires
replace-pair-requires c =
    omega (
      arith,
      c.loop-i-test.true,
      c.len-i-end.ensures,
      length-changed (pair_by_cells c.args.pool.now c.args.cells.now c.args.accuracy c.args.before) c.args.pairs c.loop-i.after c.loop-i.i c.loop-i.invariant,
    )

pub pair_after-requires-clause-pair : goal.pair_after-requires-clause-pair
pair_after-requires-clause-pair c =
    read_all (MayGrow c.args.cells.now c.args.before) (pair_by_cells c.args.pool.now c.args.cells.now c.args.accuracy c.args.before) c.args.pairs c.loop-i.after c.loop-i.i
    c.replace-pair.result c.requires.pairs (omega (arith, c.loop-i-test.true, c.len-i-end.ensures)) c.loop-i.invariant c.replace-pair.ensures.old

pub replace-requires : goal.replace-requires
replace-requires c =
    omega (
      arith,
      c.loop-i-test.true,
      c.len-i-end.ensures,
      length-changed (pair_by_cells c.args.pool.now c.args.cells.now c.args.accuracy c.args.before) c.args.pairs c.loop-i.after c.loop-i.i c.loop-i.invariant,
      ap (λ (s : List PairStats). length s) c.replace-pair.ensures.new ∙ length-set c.loop-i.after c.loop-i.i _,
    )

pub loop-i-preserved : goal.loop-i-preserved
loop-i-preserved c =
    one_changed (pair_by_cells c.args.pool.now c.args.cells.now c.args.accuracy c.args.before) c.args.pairs c.loop-i.after c.replace-pair.new.self c.replace.new.self c.loop-i.i
    c.replace-pair.result _ _ (omega (arith, c.loop-i-test.true, c.len-i-end.ensures)) c.loop-i.invariant c.replace-pair.ensures.old c.replace-pair.ensures.new c.in_ok-grown.ensures
    c.replace.ensures.new

pub returns : goal.returns
returns c =
    all_changed (pair_by_cells c.args.pool.now c.args.cells.now c.args.accuracy c.args.before) c.args.pairs c.loop-i.after c.loop-i.i
    (omega (arith, c.loop-i-test.false, c.len-i-end.ensures)) c.loop-i.invariant
