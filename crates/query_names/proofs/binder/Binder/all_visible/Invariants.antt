use Rattle.std.proofs.Common.{◌≡◌}
use Rattle.query_names.specs.Binding.{FirstTwoAreEnough}
use Rattle.query_names.proofs.binder.Binder.all_visible.Given as goal

abbrev pub invariant-all : goal.invariant-all
invariant-all l = record { shown : FirstTwoAreEnough l.self l.visible; here : l.visible.scope ≡ record { first = 0; end = l.counter } }
