use Rattle.std.proofs.Common.{◌<◌, ◌++◌, [], ◌∷◌, length, ap, sym, ◌∙◌, subst}
use Rattle.std.specs.List.{filter}
use Rattle.berge_tree.specs.declared.edges.Edge.{Edge}
use Rattle.join_graph.specs.Conjuncts.{equalities_of}
use Rattle.key_carriers.specs.Carriers.{carries}
use Rattle.key_carriers.proofs.Carrying.{named_entries_exist, one_more}
use Rattle.key_carriers.proofs.references.carrying_equalities.Goals as goal

pub add_carrier-requires-clause-entry : goal.add_carrier-requires-clause-entry
add_carrier-requires-clause-entry c =
    (named_entries_exist (length c.args.query.now.from) c.as_slice-equalities.result.now (equalities_of c.args.query.now) c.equalities.number _
    (c.as_slice-equalities.ensures ∙ c.requires.equalities) c.requires.named c.equalities-test.true).1

pub add_carrier-requires-in-equalities-clause-entry : goal.add_carrier-requires-in-equalities-clause-entry
add_carrier-requires-in-equalities-clause-entry c =
    subst (λ (e : Edge). e.right.entry < length c.args.query.now.from) (sym c.exchanged.ensures)
    (named_entries_exist (length c.args.query.now.from) c.as_slice-equalities.result.now (equalities_of c.args.query.now) c.equalities.number _
    (c.as_slice-equalities.ensures ∙ c.requires.equalities) c.requires.named c.equalities-test.true).0

pub equalities-preserved : goal.equalities-preserved
equalities-preserved c =
    one_more c.args.schema.now c.args.query.now c.as_slice-equalities.result.now c.equalities.number _ c.equalities.edges c.add_carrier.new.edges c.add_carrier-in-equalities.new.edges
    c.equalities-test.true c.equalities.invariant c.in_ok-add_carrier.ensures
    (c.in_ok-add_carrier-2.ensures ∙ ap (λ (e : Edge). c.add_carrier.new.edges ++ filter (carries c.args.schema.now c.args.query.now) (e ∷ [])) c.exchanged.ensures)
