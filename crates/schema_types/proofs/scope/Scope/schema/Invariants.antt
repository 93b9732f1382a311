use Rattle.std.proofs.Common.{◌≡◌, map, take}
use Rattle.schema_types.specs.Meaning.{table_of}
use Rattle.schema_types.proofs.scope.Scope.schema.Given as goal

abbrev pub invariant-tables : goal.invariant-tables
invariant-tables l = l.tables ≡ map (table_of l.self.text.now l.self.tables.now) (take l.i l.self.tables.now)
