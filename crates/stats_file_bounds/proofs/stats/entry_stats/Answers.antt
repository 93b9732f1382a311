use Rattle.std.proofs.Common.{◌==◌, List, ap, sym, ◌∙◌}
use Rattle.std.specs.List.{filter_map}
use Rattle.std.proofs.lemmas.List.Elements.{recursion_from_All}
use Rattle.degree_sequences.specs.Degrees.{different}
use Rattle.gathered_stats.specs.Asked.{asked_columns, compared_column}
use Rattle.predicate_bounds.specs.declared.steps.Step.{Step}
use Rattle.stats_file.specs.declared.types.TableStats.{TableStats}
use Rattle.stats_file_of_query.specs.Standing.{section_of}
use Rattle.stats_file_bounds.specs.Entries.{IsSectionOfSome}
use Rattle.stats_file_bounds.proofs.EntryFacts.{asks_among, entry_has_stats, its_needs, its_section}
use Rattle.stats_file_bounds.proofs.Finding.{found_one}
use Rattle.stats_file_bounds.proofs.Small.{sections_keep_rules}
use Rattle.stats_file_bounds.proofs.stats.entry_stats.Goals as goal

pub list_columns-requires-clause-section : goal.list_columns-requires-clause-section
list_columns-requires-clause-section c =
    found_one IsSectionOfSome (λ (s : TableStats). s.table == c.table_of.result) c.args.file.now.tables c.in-Some.section.now
    (recursion_from_All IsSectionOfSome c.args.file.now.tables (sections_keep_rules c.args.file.now c.requires.file)) (sym c.in-Some.ensures)

pub list_columns-requires-clause-asks : goal.list_columns-requires-clause-asks
list_columns-requires-clause-asks c =
    asks_among c.in_ok-needs.needs c.as_slice-5.result.now
    (c.in_ok-needs.ensures.filters ∙ ap (λ (s : List Step). different (filter_map compared_column s)) (c.as_slice.ensures ∙ sym c.as_slice-5.ensures))

pub returns-clause-told : goal.returns-clause-told
returns-clause-told c =
    entry_has_stats c.args.query.now c.args.file.now c.args.entry c.in-Some.section.now c.in_ok-needs.needs c.as_slice-5.result.now c.in_ok-stats.stats
    (its_section c.args.query.now c.args.file.now c.args.entry c.in-Some.section.now (c.in-Some.ensures ∙ ap (section_of c.args.file.now) c.table_of.ensures))
    (its_needs c.args.query.now c.args.file.now c.args.entry c.in_ok-needs.needs c.as_slice.result.now c.as_slice-2.result.now c.in_ok-needs.ensures.filters c.in_ok-needs.ensures.joined
    (c.as_slice.ensures ∙ c.in_ok-steps.ensures) (c.as_slice-2.ensures ∙ c.requires.equalities))
    (c.as_slice-5.ensures ∙ c.in_ok-steps.ensures)
    (c.in_ok-stats.ensures.columns ∙ c.as_slice-6.ensures ∙ c.in_ok-columns.ensures ∙ ap (asked_columns c.args.entry) (c.as_slice-4.ensures ∙ c.requires.equalities))
    c.in_ok-stats.ensures.steps
