use Rattle.std.proofs.Common.{◌≡◌, map, take}
use Rattle.std.specs.String.{string_bytes}
use Rattle.schema_types.specs.Numbers.{number_of_name}
use Rattle.schema_types.proofs.name_list.NameList.numbers_of_columns.Given as goal

abbrev pub invariant-names : goal.invariant-names
invariant-names l = l.found ≡ map (number_of_name l.declared) (map string_bytes (take l.name-index l.name-items))
