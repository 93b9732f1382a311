use Rattle.std.proofs.Common.{◌<◌, subst}
use Rattle.std.specs.List.{All}
use Rattle.std.proofs.lemmas.List.Elements.{All-from_recursion}
use Rattle.degree_sequences.specs.Descending.{IsDescending}
use Rattle.piece_math.specs.Expanded.{expanded}
use Rattle.piece_math.proofs.Expansion.{runs-expanded, IsDescending-expanded, positive-expanded}
use Rattle.piece_math.proofs.pieces.Pieces.pieces.Goals as goal

pub returns-clause-one_per_run : goal.returns-clause-one_per_run
returns-clause-one_per_run c = rw (c.as_slice.ensures.value, ← c.self.view_is) (runs-expanded c.self.inside.parts.items c.self.invariant.descends)

pub returns-clause-list_falls : goal.returns-clause-list_falls
returns-clause-list_falls c = subst IsDescending c.self.view_is (IsDescending-expanded c.self.inside.parts.items c.self.invariant.descends)

pub returns-clause-positive : goal.returns-clause-positive
returns-clause-positive c =
    subst (All (λ x. 0 < x)) c.self.view_is
    (All-from_recursion (λ x. 0 < x) (expanded c.self.inside.parts.items) (positive-expanded c.self.inside.parts.items c.self.invariant.descends))
