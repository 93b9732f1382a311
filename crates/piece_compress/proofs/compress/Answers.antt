use Rattle.std.proofs.Common.{◌≡◌, ℕ, ◌+◌, ◌*◌, ◌≤◌, List, get_or, subst}
use Rattle.std.specs.Prelude.{IfOk}
use Rattle.degree_sequences.specs.Degrees.{degree_list}
use Rattle.degree_sequences.specs.Domination.{DominatesKeys}
use Rattle.piece_compress.proofs.compress.Goals as goal

pub returns-clause-dominates : goal.returns-clause-dominates
returns-clause-dominates c =
    subst (λ (f : List ℕ). IfOk c.compress_runs.result (λ (list : List ℕ). (keys : List ℕ) → degree_list keys ≡ f → DominatesKeys list keys))
    c.in_ok-falling.ensures c.compress_runs.ensures.dominates

pub returns-clause-near : goal.returns-clause-near
returns-clause-near c =
    subst (λ (f : List ℕ). IfOk c.compress_runs.result (λ (list : List ℕ). (r : ℕ) → c.args.accuracy * get_or list r 0 ≤ (c.args.accuracy + 1) * get_or f r 0))
    c.in_ok-falling.ensures c.compress_runs.ensures.near
