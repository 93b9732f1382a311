use Rattle.std.proofs.Common.{Some, option_map, ap, sym, ◌∙◌}
use Rattle.stats_file_of_query.specs.Databases.{section_of_cells}
use Rattle.stats_file_of_query.specs.Files.{first_entry}
use Rattle.stats_file_of_query.proofs.Few.{columns_below_2_32}
use Rattle.stats_file_of_query.proofs.SameSections.{first_is}
use Rattle.stats_file_of_query.proofs.Walks.{same_if_none, append_if_some}
use Rattle.stats_file_of_query.proofs.files.sections_of.Goals as goal
use Rattle.stats_file_of_query.proofs.files.sections_of.Goals.{in-Some+in_ok-section+in_ok-push, in_default}

pub section_of-requires-clause-entry : goal.section_of-requires-clause-entry
section_of-requires-clause-entry c = (first_is c.args.query.now c.loop-table.table c.in-Some.entry (sym c.first_entry.ensures ∙ c.in-Some.is)).0

pub section_of-requires-clause-within_limit : goal.section_of-requires-clause-within_limit
section_of-requires-clause-within_limit c =
    columns_below_2_32 c.args.schema.now c.args.query.now c.args.db.now c.requires.over c.in-Some.entry
    (first_is c.args.query.now c.loop-table.table c.in-Some.entry (sym c.first_entry.ensures ∙ c.in-Some.is)).0

pub loop-table-preserved : goal.loop-table-preserved
loop-table-preserved c = elim c.match-first_entry.branch [
  | in-Some+in_ok-section+in_ok-push w ↦ append_if_some (λ table. option_map (section_of_cells c.args.query.now c.args.db.now c.args.accuracy table) (first_entry c.args.query.now table))
      c.loop-table.table c.loop-table.sections c.match-first_entry.sections w.in_ok-section.section c.loop-table.invariant
      (ap (option_map (section_of_cells c.args.query.now c.args.db.now c.args.accuracy c.loop-table.table)) (sym c.first_entry.ensures ∙ w.in-Some.is) ∙ ap Some (sym w.in_ok-section.ensures))
      (w.sections-is ∙ w.in_ok-push.ensures.ok)
  | in_default w ↦ same_if_none (λ table. option_map (section_of_cells c.args.query.now c.args.db.now c.args.accuracy table) (first_entry c.args.query.now table))
      c.loop-table.table c.loop-table.sections c.match-first_entry.sections c.loop-table.invariant
      (ap (option_map (section_of_cells c.args.query.now c.args.db.now c.args.accuracy c.loop-table.table)) (sym c.first_entry.ensures ∙ w.in_default.is)) w.sections-is
]
