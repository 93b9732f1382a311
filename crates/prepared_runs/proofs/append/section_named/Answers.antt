use Rattle.std.proofs.Common.{List, get_or, length, ap, sym, ◌∙◌, arith}
use Rattle.stats_file.specs.declared.types.TableStats.{TableStats}
use Rattle.prepared_runs.specs.Appending.{is_of_table}
use Rattle.prepared_runs.proofs.Found.{first_found, none_at_all, none_more}
use Rattle.prepared_runs.proofs.append.section_named.Goals as goal

pub sections-preserved : goal.sections-preserved
sections-preserved c =
    none_more (is_of_table c.args.schema.now c.args.name.now) c.args.stats.now.tables c.sections.section-index c.section-item.result
    (omega (arith, c.sections-test.true, ap (λ (s : List TableStats). length s) c.as_slice-section-items.ensures))
    (c.section-item.is ∙ ap (λ (s : List TableStats). get_or s c.sections.section-index c.section-item.result) c.as_slice-section-items.ensures)
    (sym c.is_named.ensures ∙ c.if-is_named.false) c.sections.invariant

pub returns-then-is_named : goal.returns-then-is_named
returns-then-is_named c =
    sym (first_found (is_of_table c.args.schema.now c.args.name.now) c.args.stats.now.tables c.sections.section-index c.section-item.result
    (omega (arith, c.sections-test.true, ap (λ (s : List TableStats). length s) c.as_slice-section-items.ensures))
    (c.section-item.is ∙ ap (λ (s : List TableStats). get_or s c.sections.section-index c.section-item.result) c.as_slice-section-items.ensures)
    (sym c.is_named.ensures ∙ c.if-is_named.true) c.sections.invariant)

pub returns : goal.returns
returns c =
    sym (none_at_all (is_of_table c.args.schema.now c.args.name.now) c.args.stats.now.tables c.sections.section-index
    (omega (arith, c.sections-test.false, ap (λ (s : List TableStats). length s) c.as_slice-section-items.ensures)) c.sections.invariant)
