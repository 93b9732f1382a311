use Rattle.std.proofs.Common.{◌≡◌, map, take}
use Rattle.schema_types.specs.Numbers.{number_of_column}
use Rattle.schema_types.proofs.scope.Scope.numbers.Given as goal

abbrev pub invariant-columns : goal.invariant-columns
invariant-columns l = l.found ≡ map (number_of_column l.self.text.now l.declared) (take l.column-index l.columns)
