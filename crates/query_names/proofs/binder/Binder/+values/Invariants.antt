use Rattle.std.proofs.Common.{[], map, take}
use Rattle.std.specs.List.{flat_map}
use Rattle.query_names.specs.Scopes.{tests}
use Rattle.query_names.specs.Binding.{value_by}
use Rattle.query_names.specs.Checking.{IsStateAfterTests}
use Rattle.query_names.proofs.binder.Binder.+values.Given as goal

abbrev pub invariant-values-all : goal.invariant-values-all
invariant-values-all l =
    IsStateAfterTests l.self l.visible.scope (flat_map tests (take l.condition-index l.conditions)) l.fn.held l.held [] l.found
    (map (value_by l.self l.visible.scope) (take l.condition-index l.conditions))
