use Rattle.schema_types.proofs.Built.{table_is}
use Rattle.schema_types.proofs.scope.Scope.table.Goals as goal

pub returns : goal.returns
returns c =
    table_is c.args.self.now.text.now c.args.self.now.tables.now c.args.table.now c.args.index.now c.in_ok-name.name c.in_ok-columns.columns c.in_ok-links.links.keys c.in_ok-links.links.references
    c.requires.indexed c.in_ok-name.ensures (rw c.as_slice.ensures at c.in_ok-columns.ensures)
    (rw c.as_slice-2.ensures at c.in_ok-links.ensures.keys) (rw c.as_slice-2.ensures at c.in_ok-links.ensures.references)
