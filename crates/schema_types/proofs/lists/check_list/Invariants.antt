use Rattle.std.proofs.Common.{◌≡◌, [], take}
use Rattle.schema_types.specs.Names.{names_of, flat_map_with_all_earlier}
use Rattle.schema_types.specs.Offences.{listed_offences}
use Rattle.schema_types.proofs.lists.check_list.Given as goal

abbrev pub invariant-columns : goal.invariant-columns
invariant-columns l = record {
  names : l.earlier ≡ names_of l.text (take l.column-index l.columns);
  clean : flat_map_with_all_earlier (listed_offences l.text l.declared) (take l.column-index l.columns) ≡ [];
}
