use Rattle.std.proofs.Common.{◌≡◌, [], take}
use Rattle.std.specs.List.{flat_map}
use Rattle.schema_types.specs.Refusals.{numbers_above, element_lengths}
use Rattle.schema_types.proofs.scope.Scope.check_text_lengths.Given as goal

abbrev pub invariant-tables : goal.invariant-tables
invariant-tables l = flat_map (λ table. flat_map (λ element. numbers_above 1000000 (element_lengths l.self.text.now element)) table.elements) (take l.table-index l.self.tables.now) ≡ []
