use Rattle.std.proofs.Common.{◌≡◌, ℕ, List, ap, sym, ◌∙◌, arith}
use Rattle.std.proofs.lemmas.Fmt.{decimal_injective}
use Rattle.stats_reading.proofs.takes.take_accuracy.Goals as goal

pub returns-in_default : goal.returns-in_default
returns-in_default c = λ k may e.
    let n = c.in-Some.accuracy in
    let same : k ≡ n = decimal_injective k n (omega (arith, may.1)) (omega (arith, c.in-Some.ensures.0)) (ap (λ (p : List ℕ × List ℕ). p.0) e ∙ sym c.in-Some.ensures.1) in
    omega (arith, may.0)
