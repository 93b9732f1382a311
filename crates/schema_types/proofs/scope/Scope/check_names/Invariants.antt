use Rattle.std.proofs.Common.{◌≡◌, [], map, take}
use Rattle.schema_types.specs.Declarations.{table_names}
use Rattle.schema_types.specs.Names.{flat_map_with_all_earlier}
use Rattle.schema_types.specs.Offences.{table_offences}
use Rattle.schema_types.specs.Validity.{upper_case}
use Rattle.schema_types.proofs.scope.Scope.check_names.Given as goal

abbrev pub invariant-tables : goal.invariant-tables
invariant-tables l = record {
  taken : l.taken ≡ map upper_case (table_names l.self.text.now (take l.i l.self.tables.now));
  clean : flat_map_with_all_earlier (table_offences l.self.text.now l.self.tables.now) (take l.i l.self.tables.now) ≡ [];
}
