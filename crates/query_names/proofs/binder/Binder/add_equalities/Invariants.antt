use Rattle.std.proofs.Common.{[], map, take}
use Rattle.std.specs.List.{flat_map}
use Rattle.query_names.specs.Checking.{IsStateAfterChecks, wrong_literal, equal_to}
use Rattle.query_names.proofs.binder.Binder.add_equalities.Given as goal

abbrev pub invariant-all : goal.invariant-all
invariant-all l =
    IsStateAfterChecks l.self [] (flat_map (wrong_literal l.left.is_text) (take l.value-index l.values)) []
    l.fn.held l.held l.fn.found l.found (map (equal_to l.self.text.now l.left.value) (take l.value-index l.values))
