use Rattle.std.proofs.Common.{◌≡◌, take}
use Rattle.std.specs.List.{flat_map}
use Rattle.schema_types.specs.Meaning.{element_column}
use Rattle.schema_types.proofs.scope.Scope.columns.Given as goal

abbrev pub invariant-elements : goal.invariant-elements
invariant-elements l = l.found ≡ flat_map (element_column l.self.text.now) (take l.element-index l.elements)
