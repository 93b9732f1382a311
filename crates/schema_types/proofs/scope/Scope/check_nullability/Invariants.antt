use Rattle.std.proofs.Common.{◌≡◌, [], take}
use Rattle.std.specs.List.{flat_map}
use Rattle.schema_types.specs.Refusals.{nullable_in}
use Rattle.schema_types.proofs.scope.Scope.check_nullability.Given as goal

abbrev pub invariant-tables : goal.invariant-tables
invariant-tables l = flat_map (nullable_in l.self.text.now) (take l.i l.self.tables.now) ≡ []
