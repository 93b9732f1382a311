use Rattle.std.proofs.Common.{◌==◌, length, ap, sym, ◌∙◌, inl, inr, arith}
use Rattle.std.proofs.lemmas.Bool.{cases_eq, eq-eqb, ne_eqb}
use Rattle.stats_file_of_query.specs.Needs.{table_of}
use Rattle.stats_file_of_query.proofs.Finding.{first_found, none_found}
use Rattle.stats_file_of_query.proofs.files.first_entry.Goals as goal

pub returns-then-table_of-table : goal.returns-then-table_of-table
returns-then-table_of-table c =
    sym (first_found (λ entry. table_of c.args.query.now entry == c.args.table) 0 (length c.args.query.now.from) c.loop-entry.entry (omega arith)
    (omega (arith, c.loop-entry-test.true, c.len-entry-end.ensures)) (λ k from to. c.loop-entry.invariant k to)
    (eq-eqb (table_of c.args.query.now c.loop-entry.entry) c.args.table (sym c.table_of.ensures ∙ c.if-table_of-table.true)))

pub loop-entry-preserved : goal.loop-entry-preserved
loop-entry-preserved c = λ k low. elim (cases_eq k c.loop-entry.entry) [
  | inl same ↦ ap (λ e. table_of c.args.query.now e == c.args.table) same
      ∙ ne_eqb (table_of c.args.query.now c.loop-entry.entry) c.args.table (λ is. c.if-table_of-table.false (c.table_of.ensures ∙ is))
  | inr apart ↦ c.loop-entry.invariant k (omega (arith, low, apart))
]

pub returns : goal.returns
returns c =
    sym (none_found (λ entry. table_of c.args.query.now entry == c.args.table) 0 (length c.args.query.now.from)
    (λ k from to. c.loop-entry.invariant k (omega (arith, to, c.loop-entry-test.false, c.len-entry-end.ensures))))
