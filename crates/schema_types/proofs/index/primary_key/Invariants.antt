use Rattle.std.proofs.Common.{◌≡◌, [], take}
use Rattle.std.specs.List.{flat_map}
use Rattle.schema_types.specs.Declarations.{element_primary_key}
use Rattle.schema_types.proofs.index.primary_key.Given as goal

abbrev pub invariant-elements : goal.invariant-elements
invariant-elements l = flat_map element_primary_key (take l.element-index l.elements) ≡ []
