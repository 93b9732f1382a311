use Rattle.std.proofs.Common.{◌≡◌, [], take}
use Rattle.std.specs.List.{flat_map}
use Rattle.schema_types.specs.Refusals.{numbers_above, element_lengths}
use Rattle.schema_types.proofs.scope.Scope.check_lengths.Given as goal

abbrev pub invariant-elements : goal.invariant-elements
invariant-elements l = flat_map (λ element. numbers_above 1000000 (element_lengths l.self.text.now element)) (take l.element-index l.elements) ≡ []
