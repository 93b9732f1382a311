use Rattle.std.proofs.Common.{[], sym, subst}
use Rattle.join_graph.specs.Kept.{Keeps}
use Rattle.join_graph.proofs.Connecting.{own_components, keeps_computed, kept_are_computed}
use Rattle.join_graph.proofs.laws.kept_equalities_are_unique.Goals as goal

pub returns : goal.returns
returns c = λ es kept. (
  λ keeps. kept_are_computed keeps (λ x. x) own_components,
  λ is. subst (Keeps es) (sym is) (keeps_computed (λ x. x) [] es own_components),
)
