use Rattle.std.proofs.Common.{◌≡◌, ◌==◌, drop}
use Rattle.std.specs.Prelude.{find}
use Rattle.stats_file.specs.declared.types.TableStats.{TableStats}
use Rattle.stats_file_bounds.proofs.find.section_of.Given as goal

abbrev pub invariant-loop-section : goal.invariant-loop-section
invariant-loop-section l = find (λ (section : TableStats). section.table == l.table) l.file.tables
    ≡ find (λ (section : TableStats). section.table == l.table) (drop l.section-index l.section-items)
