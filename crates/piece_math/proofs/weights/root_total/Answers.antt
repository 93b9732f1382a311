use Rattle.std.proofs.Common.{map, sum, ap, ◌∙◌}
use Rattle.degree_sequences.specs.Composition.{row_weights}
use Rattle.degree_sequences.specs.Saturation.{saturated}
use Rattle.piece_math.specs.Children.{lists_of}
use Rattle.piece_math.proofs.Weighing.{total-weights}
use Rattle.piece_math.proofs.weights.root_total.Goals as goal

pub returns : goal.returns
returns c =
    c.total.ensures
    ∙ ap (λ s. saturated (sum s)) c.in_ok-weights.ensures.value
    ∙ total-weights (row_weights (map lists_of c.args.children.now) c.args.rows)
