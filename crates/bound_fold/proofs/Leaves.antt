-- If no class is below an entry, no list is composed with the entry's list, and it stays as it is.
use Rattle.std.proofs.Common.{◌≡◌, ℕ, ◌+◌, ◌^◌, ◌<◌, List, [], ◌∷◌, map, refl, ap, sym, ◌∙◌, sum, arith}
use Rattle.std.specs.List.{All}
use Rattle.std.proofs.lemmas.List.Sums.{sum_by-cons}
use Rattle.degree_sequences.specs.Composition.{composed}
use Rattle.degree_sequences.specs.Descending.{IsDescending}
use Rattle.degree_sequences.specs.Saturation.{saturated}
use Rattle.piece_math.proofs.Composing.{All-recursion, composed-none}

saturated_unchanged : (s : List ℕ) → sum s < 2 ^ 64 → map saturated s ≡ s
saturated_unchanged [] small = refl
saturated_unchanged (x ∷ s) small =
    let whole : sum (x ∷ s) ≡ x + sum s = sum_by-cons (λ (y : ℕ). y) x s in
    let here : saturated x ≡ x = omega (arith, whole, small) in
    rw (here, saturated_unchanged s (omega (arith, whole, small))) refl

pub is_composed : (s own : List ℕ) → sum s < 2 ^ 64 → IsDescending s → All (λ x. 0 < x) s → own ≡ s → own ≡ map saturated (composed s [])
is_composed s own small fall pos same = same ∙ sym (ap (map saturated) (composed-none s fall (All-recursion s pos)) ∙ saturated_unchanged s small)
