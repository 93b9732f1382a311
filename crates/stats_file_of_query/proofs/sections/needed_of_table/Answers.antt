use Rattle.std.proofs.Common.{◌==◌, sym, ◌∙◌}
use Rattle.std.proofs.lemmas.Bool.{eq-eqb, ne_eqb}
use Rattle.stats_file_of_query.specs.Needs.{needed, table_of}
use Rattle.stats_file_of_query.proofs.Walks.{same_if_fails, append_if_passes}
use Rattle.stats_file_of_query.proofs.sections.needed_of_table.Goals as goal
use Rattle.stats_file_of_query.proofs.sections.needed_of_table.Goals.{then-table_of-table+in_ok-add_needed, else-table_of-table}

pub loop-entry-preserved : goal.loop-entry-preserved
loop-entry-preserved c = elim c.if-table_of-table.branch [
  | then-table_of-table+in_ok-add_needed w ↦ append_if_passes (λ entry. table_of c.args.query.now entry == c.args.table) (needed c.args.query.now) c.loop-entry.entry c.loop-entry.pairs
      c.if-table_of-table.pairs c.loop-entry.invariant (eq-eqb (table_of c.args.query.now c.loop-entry.entry) c.args.table (sym c.table_of.ensures ∙ w.if-table_of-table.true))
      (w.pairs-is ∙ w.in_ok-add_needed.ensures)
  | else-table_of-table w ↦ same_if_fails (λ entry. table_of c.args.query.now entry == c.args.table) (needed c.args.query.now) c.loop-entry.entry c.loop-entry.pairs
      c.if-table_of-table.pairs c.loop-entry.invariant
      (ne_eqb (table_of c.args.query.now c.loop-entry.entry) c.args.table (λ same. w.if-table_of-table.false (c.table_of.ensures ∙ same))) w.pairs-is
]
