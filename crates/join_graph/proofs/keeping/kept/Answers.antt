use Rattle.std.proofs.Common.{◌≡◌, List, [], sym, subst}
use Rattle.berge_tree.specs.declared.edges.Edge.{Edge}
use Rattle.berge_tree.specs.Equalities.{AreWithin, ClosesNoCycle}
use Rattle.entry_sets.specs.Sets.{entries_of_set}
use Rattle.berge_tree.proofs.NoCycle.{has_no_cycle}
use Rattle.berge_tree.proofs.Tested.{joins_no_cycle}
use Rattle.join_graph.specs.Kept.{Keeps, order_of_turn, kept_of}
use Rattle.join_graph.proofs.Connecting.{own_components, keeps_computed, kept_joins}
use Rattle.join_graph.proofs.Parting.{turn_wraps_around}
use Rattle.join_graph.proofs.Turning.{kept_within}
use Rattle.join_graph.proofs.keeping.kept.Goals as goal

pub returns-clause-computed : goal.returns-clause-computed
returns-clause-computed c =
    let P : List Edge → Type 0 = λ es. c.consider_all-2.new.kept ≡ kept_of c.args.subset c.args.turn es in
    subst P c.as_slice-edges.ensures
    (turn_wraps_around c.args.subset c.args.turn c.first_of_turn.result c.as_slice-edges.result.now c.split_at.result.0.now c.split_at.result.1.now c.new-kept.result c.consider_all.new.kept c.consider_all-2.new.kept
    c.own_components-names.result c.consider_all.new.names c.consider_all-2.new.names c.split_at.ensures.front c.split_at.ensures.back c.first_of_turn.ensures.before c.first_of_turn.ensures.from
    c.own_components-names.ensures c.new-kept.ensures c.in_ok-consider_all.ensures c.in_ok-consider_all-2.ensures)

pub returns-clause-kept : goal.returns-clause-kept
returns-clause-kept c =
    subst (Keeps (order_of_turn c.args.subset c.args.turn c.args.parts.now.equalities)) (sym (returns-clause-computed c))
    (keeps_computed (λ x. x) [] (order_of_turn c.args.subset c.args.turn c.args.parts.now.equalities) own_components)

pub returns-clause-within : goal.returns-clause-within
returns-clause-within c =
    subst (AreWithin (entries_of_set c.args.subset)) (sym (returns-clause-computed c)) (kept_within c.args.subset c.args.turn c.args.parts.now.equalities)

pub returns-clause-entries : goal.returns-clause-entries
returns-clause-entries c =
    subst ClosesNoCycle (sym (returns-clause-computed c)) (joins_no_cycle (kept_of c.args.subset c.args.turn c.args.parts.now.equalities)
    (kept_joins (λ x. x) (order_of_turn c.args.subset c.args.turn c.args.parts.now.equalities)))

pub returns-clause-classes : goal.returns-clause-classes
returns-clause-classes c = has_no_cycle _ (returns-clause-entries c)
