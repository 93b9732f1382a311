-- Two pairs are equal exactly if both of their numbers are equal.
use Rattle.std.proofs.Common.{◌≡◌, ℕ, Bool, true, ◌&&◌, List, refl, ap, ◌∙◌}
use Rattle.std.specs.Prelude.{nat_eq}
use Rattle.std.specs.Bool.{Decides}
use Rattle.std.specs.List.{IsDistinct}
use Rattle.std.proofs.lemmas.Bool.{and_parts, eq-eqb, eqb-true}
use Rattle.std.proofs.lemmas.Map.Made.{AllPairs-from_IsDistinct}
use Rattle.reduced_scans.specs.Wiring.{ValuesAreDifferent}

abbrev pub same_pair : ℕ × ℕ → ℕ × ℕ → Bool
same_pair a b = nat_eq a.0 b.0 && nat_eq a.1 b.1

one_pair : (a b : ℕ × ℕ) → a.0 ≡ b.0 → a.1 ≡ b.1 → a ≡ b
one_pair a b p q = ap (λ (n : ℕ). let pair : ℕ × ℕ = (n, a.1) in pair) p ∙ ap (λ (n : ℕ). let pair : ℕ × ℕ = (b.0, n) in pair) q

same_pair_decides : (a b : ℕ × ℕ) → Decides (same_pair a b) (a ≡ b)
same_pair_decides a b = (
  λ e. (let parts : (nat_eq a.0 b.0 ≡ true) × (nat_eq a.1 b.1 ≡ true) = and_parts (nat_eq a.0 b.0) (nat_eq a.1 b.1) e in one_pair a b (eqb-true a.0 b.0 parts.0) (eqb-true a.1 b.1 parts.1)),
  λ e. rw (eq-eqb a.0 b.0 (ap (λ (p : ℕ × ℕ). p.0) e), eq-eqb a.1 b.1 (ap (λ (p : ℕ × ℕ). p.1) e)) refl,
)

pub different_pairs : (pairs : List (ℕ × ℕ)) → IsDistinct same_pair pairs → ValuesAreDifferent pairs
different_pairs pairs distinct = AllPairs-from_IsDistinct {eq = same_pair} same_pair_decides pairs distinct
