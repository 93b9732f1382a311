use Rattle.std.proofs.Common.{List, length, ap, ◌∙◌, arith}
use Rattle.std.proofs.lemmas.List.{length-set}
use Rattle.stats_file.specs.declared.types.TableStats.{TableStats}
use Rattle.appended_stats.specs.Cells.{section_after_by_cells}
use Rattle.appended_stats.proofs.Sections.{may_grow, one_grown, other_kept}
use Rattle.appended_stats.proofs.Walks.{all_changed, length-changed}
use Rattle.appended_stats.proofs.file.sections_after.Goals as goal
use Rattle.appended_stats.proofs.file.sections_after.Goals.{then-get-table+in_ok-grown, else-get-table}

pub get-requires : goal.get-requires
get-requires c =
    omega (
      arith,
      c.loop-i-test.true,
      c.len-i-end.ensures,
      length-changed (section_after_by_cells c.args.pool.now c.args.cells.now c.args.accuracy c.args.table) c.args.sections c.loop-i.after c.loop-i.i c.loop-i.invariant,
    )

pub replace-section-requires : goal.replace-section-requires
replace-section-requires c =
    omega (
      arith,
      c.loop-i-test.true,
      c.len-i-end.ensures,
      length-changed (section_after_by_cells c.args.pool.now c.args.cells.now c.args.accuracy c.args.table) c.args.sections c.loop-i.after c.loop-i.i c.loop-i.invariant,
    )

pub section_after-requires-clause-section : goal.section_after-requires-clause-section
section_after-requires-clause-section c =
    may_grow c.args.pool.now c.args.cells.now c.args.accuracy c.args.table c.args.sections c.loop-i.after c.loop-i.i (omega (arith, c.loop-i-test.true, c.len-i-end.ensures))
    c.get.result.now c.replace-section.result c.requires.sections c.loop-i.invariant c.get.ensures c.if-get-table.true c.replace-section.ensures.old

pub replace-requires : goal.replace-requires
replace-requires c =
    omega (
      arith,
      c.loop-i-test.true,
      c.len-i-end.ensures,
      length-changed (section_after_by_cells c.args.pool.now c.args.cells.now c.args.accuracy c.args.table) c.args.sections c.loop-i.after c.loop-i.i c.loop-i.invariant,
      ap (λ (s : List TableStats). length s) c.replace-section.ensures.new ∙ length-set c.loop-i.after c.loop-i.i _,
    )

pub loop-i-preserved : goal.loop-i-preserved
loop-i-preserved c = elim c.if-get-table.branch [
  | then-get-table+in_ok-grown w ↦ one_grown c.args.pool.now c.args.cells.now c.args.accuracy c.args.table c.args.sections c.loop-i.after c.loop-i.i
      (omega (arith, c.loop-i-test.true, c.len-i-end.ensures)) w.replace-section.new.self c.if-get-table.after c.get.result.now w.replace-section.result _ _ c.loop-i.invariant c.get.ensures
      w.if-get-table.true w.replace-section.ensures.old w.replace-section.ensures.new w.in_ok-grown.ensures (w.after-is ∙ w.replace.ensures.new)
  | else-get-table w ↦ other_kept c.args.pool.now c.args.cells.now c.args.accuracy c.args.table c.args.sections c.loop-i.after c.loop-i.i
      (omega (arith, c.loop-i-test.true, c.len-i-end.ensures)) c.if-get-table.after c.get.result.now c.loop-i.invariant c.get.ensures w.if-get-table.false w.after-is
]

pub returns : goal.returns
returns c =
    all_changed (section_after_by_cells c.args.pool.now c.args.cells.now c.args.accuracy c.args.table) c.args.sections c.loop-i.after c.loop-i.i
    (omega (arith, c.loop-i-test.false, c.len-i-end.ensures)) c.loop-i.invariant
