use Rattle.std.proofs.Common.{◌∙◌, zero-add}
use Rattle.std.proofs.lemmas.List.FromFn.{get_or-range_with_len}
use Rattle.limits.specs.Profile.{greatest_entries}
use Rattle.join_graph.proofs.keeping.own_components.Goals as goal

pub returns : goal.returns
returns c = λ x less. get_or-range_with_len 0 greatest_entries x 0 less ∙ zero-add x
