use Rattle.std.proofs.Common.{◌≡◌, [], take}
use Rattle.std.specs.List.{flat_map}
use Rattle.std.specs.Option.{unwrap_or}
use Rattle.schema_types.specs.Refusals.{nullable_element}
use Rattle.schema_types.proofs.scope.Scope.check_elements_null.Given as goal

abbrev pub invariant-elements : goal.invariant-elements
invariant-elements l = flat_map (nullable_element l.self.text.now (unwrap_or l.key [])) (take l.element-index l.elements) ≡ []
