use Rattle.std.proofs.Common.{◌≡◌, sum, map, ap, ◌∙◌, arith}
use Rattle.degree_sequences.specs.Composition.{row_weights}
use Rattle.degree_sequences.specs.Descending.{trimmed}
use Rattle.degree_sequences.specs.Saturation.{saturated}
use Rattle.piece_math.specs.Children.{lists_of}
use Rattle.piece_math.proofs.Composing.{composed_value, composed_runs}
use Rattle.piece_math.proofs.blocks.compose.Goals as goal

pub row_weights-requires : goal.row_weights-requires
row_weights-requires c = record { columns = λ k d h. c.requires.columns k d h ∙ omega (arith, c.total-rows.ensures, c.requires.small) }

pub returns-clause-value : goal.returns-clause-value
returns-clause-value c =
    let rows_is : c.total-rows.result ≡ sum c.args.parent.now = omega (arith, c.total-rows.ensures, c.requires.small) in
    composed_value c.grouped.result c.args.parent.now c.in_ok-weights.weights (map lists_of c.args.children.now)
    (c.in_ok-weights.ensures.value ∙ ap (λ n. map saturated (trimmed (row_weights (map lists_of c.args.children.now) n))) rows_is) c.grouped.ensures.value

pub returns-clause-few_pieces : goal.returns-clause-few_pieces
returns-clause-few_pieces c =
    composed_runs c.grouped.result c.args.parent.now c.in_ok-weights.weights c.args.children.now c.grouped.ensures.descends c.grouped.ensures.positive
    c.in_ok-weights.ensures.few_pieces (returns-clause-value c) c.grouped.ensures.few_pieces
