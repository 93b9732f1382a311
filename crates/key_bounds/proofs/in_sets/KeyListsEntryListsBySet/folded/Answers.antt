use Rattle.std.proofs.Common.{◌≡◌, List, sym, ◌∙◌, subst}
use Rattle.std.specs.Prelude.{All}
use Rattle.std.proofs.lemmas.Result.{IfOk-weaker}
use Rattle.berge_tree.specs.declared.edges.Edge.{Edge}
use Rattle.bound_fold.specs.Lists.{bounds_of}
use Rattle.bound_fold.specs.Sets.{HaveLists}
use Rattle.set_bounds.specs.AllSets.{bound_in_128_bits}
use Rattle.key_bounds.specs.InSets.{CarriesLists, bounds_with_carried}
use Rattle.key_bounds.proofs.Made.{none_known, set_has_bounds, same_set_bound}
use Rattle.key_bounds.proofs.in_sets.KeyListsEntryListsBySet.folded.Goals as goal

pub lists_in-requires-clause-carried : goal.lists_in-requires-clause-carried
lists_in-requires-clause-carried c = subst (λ (es : List Edge). All (CarriesLists es) c.args.self.now.carried) (sym c.as_slice.ensures) c.requires.listed.carried

pub folded_bound-requires-clause-listed : goal.folded_bound-requires-clause-listed
folded_bound-requires-clause-listed c =
    set_has_bounds (bounds_with_carried c.args.self.now c.args.subset) c.args.self.now.count c.in_ok-lists.lists c.in_ok-lists.ensures.part (none_known c.args.self.now c.args.subset)
    c.args.parts.now.equalities (subst (λ (es : List Edge). All (HaveLists c.in_ok-lists.lists) es) c.as_slice.ensures c.in_ok-lists.ensures.lists) c.args.subset c.requires.listed.fits

pub returns : goal.returns
returns c =
    IfOk-weaker c.folded_bound.result (λ n. n ≡ bound_in_128_bits (bounds_of c.in_ok-lists.lists) c.args.parts.now.equalities c.args.subset)
    (λ n. n ≡ bound_in_128_bits (bounds_with_carried c.args.self.now c.args.subset) c.args.parts.now.equalities c.args.subset)
    (λ n is. is ∙ same_set_bound (bounds_with_carried c.args.self.now c.args.subset) c.args.self.now.count c.in_ok-lists.lists c.in_ok-lists.ensures.part (none_known c.args.self.now c.args.subset)
    c.args.parts.now.equalities (subst (λ (es : List Edge). All (HaveLists c.in_ok-lists.lists) es) c.as_slice.ensures c.in_ok-lists.ensures.lists) c.args.subset c.requires.listed.fits)
    c.folded_bound.ensures
