-- A run of equal numbers at the front of a list.
use Rattle.std.proofs.Common.{List, ap, drop, refl, replicate, suc, zero, zero-add, ℕ, ◌++◌, ◌+◌, ◌∙◌, ◌∷◌, ◌≡◌}
use Rattle.std.proofs.Math.Nat.{suc-add}

pub drop-run : (x w : ℕ) (s : List ℕ) → drop x (replicate x w ++ s) ≡ s
drop-run zero w s = refl
drop-run (suc x) w s = drop-run x w s

pub run-add : (m n w : ℕ) (s : List ℕ) → replicate (m + n) w ++ s ≡ replicate m w ++ (replicate n w ++ s)
run-add zero n w s = ap (λ k. replicate k w ++ s) (zero-add n)
run-add (suc m) n w s = ap (λ k. replicate k w ++ s) (suc-add m n) ∙ ap (λ (l : List ℕ). w ∷ l) (run-add m n w s)
