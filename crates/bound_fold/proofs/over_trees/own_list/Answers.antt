use Rattle.std.proofs.Common.{◌≡◌, List, ℕ, [], map}
use Rattle.degree_sequences.specs.Composition.{composed}
use Rattle.degree_sequences.specs.Saturation.{saturated}
use Rattle.bound_fold.proofs.Leaves.{is_composed}
use Rattle.bound_fold.proofs.Below.{if_ok}
use Rattle.bound_fold.proofs.over_trees.own_list.Goals as goal

pub returns : goal.returns
returns c =
    if_ok (λ (own : List ℕ). own ≡ c.args.list.now) (λ (own : List ℕ). own ≡ map saturated (composed c.args.list.now [])) c.copy.result
    (λ own same. is_composed c.args.list.now own c.requires c.pieces.ensures.list_falls c.pieces.ensures.positive same) c.copy.ensures
