use Rattle.std.proofs.Common.{subst, sym}
use Rattle.schema_types.specs.declared.types.Kind.{Kind}
use Rattle.csv_tables.specs.Values.{Text}
use Rattle.table_stats.specs.Cells.{IsCellFor}
use Rattle.gathered_stats.proofs.literals.cell_of_text.Goals as goal

pub returns-in-Text : goal.returns-in-Text
returns-in-Text c = subst (λ (k : Kind). IsCellFor c.args.pool.now k (Text c.args.text.now) c.find_text.result) (sym c.in-Text.is) (c.find_text.ensures c.in-Text.field-0)
