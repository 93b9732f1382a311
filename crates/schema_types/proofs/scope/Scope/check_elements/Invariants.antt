use Rattle.std.proofs.Common.{◌≡◌, [], map, take}
use Rattle.std.specs.List.{list_any}
use Rattle.schema_types.specs.Declarations.{column_names}
use Rattle.schema_types.specs.Names.{flat_map_with_all_earlier}
use Rattle.schema_types.specs.Offences.{element_offences, is_primary}
use Rattle.schema_types.specs.Validity.{upper_case}
use Rattle.schema_types.proofs.scope.Scope.check_elements.Given as goal

abbrev pub invariant-elements : goal.invariant-elements
invariant-elements l = record {
  keyed : l.keyed ≡ list_any is_primary (take l.element-index l.elements);
  taken : l.taken ≡ map upper_case (column_names l.fn.self.text.now (take l.element-index l.elements));
  clean : flat_map_with_all_earlier (element_offences l.fn.self.text.now l.fn.self.tables.now l.declared) (take l.element-index l.elements) ≡ [];
}
