use Rattle.std.proofs.Common.{◌≡◌, ◌<◌, ◌∙◌, ℕ, ◌||◌, refl, ap, eqb, length, set, arith}
use Rattle.std.proofs.lemmas.List.{get_or_default, length-set}
use Rattle.limits.specs.Profile.{greatest_entries}
use Rattle.entry_sets.specs.Sets.{has_entry}
use Rattle.set_bounds.proofs.Neighbours.{both_more}
use Rattle.set_bounds.proofs.graph.with_neighbours.Goals as goal

pub returns : goal.returns
returns c a b low =
    let before = c.args.neighbours in
    let left = c.args.edge.left.entry in
    let right = c.args.edge.right.entry in
    let once = set before left c.with.result in
    let lengths : length before ≡ greatest_entries = c.well_formed.0.1.0.1 in
    let left_in_range : left < length before = omega (arith, lengths, c.requires.0) in
    let right_in_range : right < length before = omega (arith, lengths, c.requires.1) in
    let right_in_once : right < length once = omega (arith, right_in_range, length-set before left c.with.result) in
    both_more c.args.edge before once (set once right c.with-2.result) c.with.result c.with-2.result left_in_range right_in_range
    refl (λ other. c.with.ensures.entries other ∙ ap (λ (s : ℕ). has_entry s other || eqb other right) (get_or_default before left c.index-more-left.result 0 left_in_range))
    refl (λ other. c.with-2.ensures.entries other ∙ ap (λ (s : ℕ). has_entry s other || eqb other left) (get_or_default once right c.index-more-right.result 0 right_in_once))
    a b
