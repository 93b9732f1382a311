use Rattle.std.proofs.Common.{◌≡◌, take}
use Rattle.schema_types.specs.Declarations.{column_names}
use Rattle.schema_types.proofs.index.column_names.Given as goal

abbrev pub invariant-elements : goal.invariant-elements
invariant-elements l = l.found ≡ column_names l.text (take l.element-index l.elements)
