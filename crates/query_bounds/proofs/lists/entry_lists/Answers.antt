use Rattle.std.proofs.Common.{◌≡◌, ◌∷◌, [], ◌++◌, List, ap, refl, sym, ◌∙◌, get_or, length, subst, take, arith}
use Rattle.std.proofs.lemmas.List.{take_all}
use Rattle.berge_tree.specs.declared.edges.Edge.{Edge}
use Rattle.berge_tree.specs.declared.edges.Place.{Place}
use Rattle.berge_tree.specs.Equalities.{places_of}
use Rattle.query_bounds.specs.Bounds.{HoldsKnown}
use Rattle.query_bounds.proofs.Holding.{held_after_list, bounds_are_known, may_add, no_edge, pair_has_lists, places_more}
use Rattle.query_bounds.proofs.lists.entry_lists.Goals as goal

pub loop-edge-init : goal.loop-edge-init
loop-edge-init c = λ known tells. c.in_ok-lists.ensures known tells

pub add_list-requires : goal.add_list-requires
add_list-requires c =
    may_add c.args.query.now c.args.stats.now c.requires.told.known (length c.args.query.now.from) (places_of (take c.loop-edge.edge-index c.args.parts.now.equalities))
    (get_or c.as_slice-edge-items.result.now c.loop-edge.edge-index no_edge).left c.loop-edge.lists c.requires.told.tells refl
    (pair_has_lists c.args.query.now c.args.stats.now c.requires.told.known c.as_slice-edge-items.result.now c.requires.told.tells (c.as_slice-edge-items.ensures ∙ c.requires.equalities)
    c.loop-edge.edge-index no_edge c.loop-edge-test.true).0
    (c.loop-edge.invariant c.requires.told.known c.requires.told.tells)

pub add_list-requires-in-loop-edge : goal.add_list-requires-in-loop-edge
add_list-requires-in-loop-edge c =
    let left : Place = (get_or c.as_slice-edge-items.result.now c.loop-edge.edge-index no_edge).left in
    let told = pair_has_lists c.args.query.now c.args.stats.now c.requires.told.known c.as_slice-edge-items.result.now c.requires.told.tells (c.as_slice-edge-items.ensures ∙ c.requires.equalities)
    c.loop-edge.edge-index no_edge c.loop-edge-test.true in
    may_add c.args.query.now c.args.stats.now c.requires.told.known (length c.args.query.now.from) (places_of (take c.loop-edge.edge-index c.args.parts.now.equalities) ++ left ∷ [])
    (get_or c.as_slice-edge-items.result.now c.loop-edge.edge-index no_edge).right c.add_list.new.lists c.requires.told.tells refl told.1
    (held_after_list c.args.query.now c.args.stats.now c.requires.told.known (length c.args.query.now.from) (places_of (take c.loop-edge.edge-index c.args.parts.now.equalities)) left
    c.loop-edge.lists c.add_list.new.lists told.0 (c.loop-edge.invariant c.requires.told.known c.requires.told.tells) c.in_ok-add_list.ensures.set c.in_ok-add_list.ensures.others c.in_ok-add_list.ensures.rows)

pub loop-edge-preserved : goal.loop-edge-preserved
loop-edge-preserved c = λ known tells.
    let left : Place = (get_or c.as_slice-edge-items.result.now c.loop-edge.edge-index no_edge).left in
    let right : Place = (get_or c.as_slice-edge-items.result.now c.loop-edge.edge-index no_edge).right in
    let before : List Place = places_of (take c.loop-edge.edge-index c.args.parts.now.equalities) in
    let told = pair_has_lists c.args.query.now c.args.stats.now known c.as_slice-edge-items.result.now tells (c.as_slice-edge-items.ensures ∙ c.requires.equalities)
    c.loop-edge.edge-index no_edge c.loop-edge-test.true in
    let one = held_after_list c.args.query.now c.args.stats.now known (length c.args.query.now.from) before left c.loop-edge.lists c.add_list.new.lists told.0 (c.loop-edge.invariant known tells)
    c.in_ok-add_list.ensures.set c.in_ok-add_list.ensures.others c.in_ok-add_list.ensures.rows in
    let two = held_after_list c.args.query.now c.args.stats.now known (length c.args.query.now.from) (before ++ left ∷ []) right c.add_list.new.lists c.add_list-in-loop-edge.new.lists told.1 one
    c.in_ok-add_list-2.ensures.set c.in_ok-add_list-2.ensures.others c.in_ok-add_list-2.ensures.rows in
    subst (λ (places : List Place). HoldsKnown c.args.query.now known (length c.args.query.now.from) places c.add_list-in-loop-edge.new.lists)
    (sym (places_more c.args.parts.now.equalities c.as_slice-edge-items.result.now c.loop-edge.edge-index no_edge c.as_slice-edge-items.ensures c.loop-edge-test.true)) two

pub returns-clause-holds : goal.returns-clause-holds
returns-clause-holds c = λ known tells.
    let same : length c.as_slice-edge-items.result.now ≡ length c.args.parts.now.equalities = ap (λ (s : List Edge). length s) c.as_slice-edge-items.ensures in
    let all : take c.loop-edge.edge-index c.args.parts.now.equalities ≡ c.args.parts.now.equalities =
    take_all c.loop-edge.edge-index c.args.parts.now.equalities (omega (arith, c.loop-edge-test.false, same)) in
    subst (λ (es : List Edge). HoldsKnown c.args.query.now known (length c.args.query.now.from) (places_of es) c.loop-edge.lists) (all ∙ c.requires.equalities) (c.loop-edge.invariant known tells)

pub returns-clause-bounds : goal.returns-clause-bounds
returns-clause-bounds c = λ known tells. bounds_are_known c.args.query.now known c.loop-edge.lists (returns-clause-holds c known tells)
