use Rattle.std.proofs.Common.{ℕ, ◌<◌, List, length, get_or, ap, sym, ◌∙◌, arith, inl, inr}
use Rattle.std.proofs.lemmas.Bool.{cases_lt, eq-eqb, false≢true}
use Rattle.piece_math.specs.declared.pieces.Piece.{Piece}
use Rattle.piece_compress.proofs.GrowingRuns.{first_piece_value}
use Rattle.piece_compress.proofs.first_degree.Goals as goal

pub returns : goal.returns
returns c =
    let ps : List Piece = c.pieces-runs.result.now in
    let some : 0 < length ps = elim (cases_lt 0 (length ps)) [
      | inl h ↦ h
      | inr h ↦ absurd (false≢true (sym c.if-is_empty.false ∙ c.is_empty.ensures ∙ eq-eqb (length ps) 0 (omega arith)))
    ] in
    first_piece_value ps c.pieces-runs.ensures.whole some ∙ ap (λ (s : List ℕ). get_or s 0 0) (sym c.pieces-runs.ensures.stands_for)
