use Rattle.std.proofs.Common.{◌∙◌, ℕ, List, ap, get_or, subst, arith}
use Rattle.berge_tree.specs.declared.edges.Edge.{Edge}
use Rattle.set_bounds.specs.Parts.{ConsistsOfParts}
use Rattle.set_bounds.proofs.Tested.{product_of_part_bounds, bounds_below_length}
use Rattle.set_bounds.proofs.one_set.forest_bound.Goals as goal

pub bounds-smaller-bits : goal.bounds-smaller-bits
bounds-smaller-bits g c =
    omega (
      arith,
      c.bits.ensures,
      c.consists_of_parts.ensures.part c.if-consists_of_parts.true,
      bounds_below_length (g.K.EntryListsBySet.known c.args.lists.now) c.args.parts.now.equalities c.args.subset c.args.smaller.now c.requires.smaller,
    )

pub bounds-smaller-bits-then-consists_of_parts : goal.bounds-smaller-bits-then-consists_of_parts
bounds-smaller-bits-then-consists_of_parts g c =
    omega (
      arith,
      c.bits-then-consists_of_parts.ensures,
      c.consists_of_parts.ensures.rest c.if-consists_of_parts.true,
      bounds_below_length (g.K.EntryListsBySet.known c.args.lists.now) c.args.parts.now.equalities c.args.subset c.args.smaller.now c.requires.smaller,
    )

pub returns-then-consists_of_parts : goal.returns-then-consists_of_parts
returns-then-consists_of_parts g c =
    c.saturating_mul.ensures
    ∙ product_of_part_bounds (g.K.EntryListsBySet.known c.args.lists.now) c.args.parts.now.equalities c.args.subset c.first_part-part.result c.rest_of-rest.result
    (get_or c.args.smaller.now c.bits.result 0) (get_or c.args.smaller.now c.bits-then-consists_of_parts.result 0) c.args.smaller.now c.requires.forest
    (subst (λ (es : List Edge). ConsistsOfParts es c.args.subset c.first_part-part.result c.rest_of-rest.result) c.as_slice-edges.ensures (c.consists_of_parts.ensures.consists c.if-consists_of_parts.true))
    c.requires.depends_on_parts c.requires.smaller (c.consists_of_parts.ensures.part c.if-consists_of_parts.true) (c.consists_of_parts.ensures.rest c.if-consists_of_parts.true)
    (ap (λ (k : ℕ). get_or c.args.smaller.now k 0) c.bits.ensures) (ap (λ (k : ℕ). get_or c.args.smaller.now k 0) c.bits-then-consists_of_parts.ensures)
