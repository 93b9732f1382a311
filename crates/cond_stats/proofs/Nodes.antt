-- The node whose size `node_size` gives for two leaves holds both of them, and each leaf between them.
use Rattle.std.proofs.Common.{◌≡◌, ℕ, ◌/◌, ◌<◌, ◌≤◌, ◌⊎◌, Bool, true, cond, eqb, List, [], ◌∷◌, Some, None, refl, sym, ◌∙◌, arith, inl, inr}
use Rattle.std.specs.Prelude.{find, unwrap_or}
use Rattle.std.proofs.Math.Nat.{div-mul-le_self}
use Rattle.std.proofs.lemmas.Nat.{le-div}
use Rattle.std.proofs.lemmas.Bool.{cases_Bool, cond_both, eqb-true, eq-eqb}
use Rattle.cond_stats.specs.Leaves.{node_size, in_node}

-- if no smaller size fits, the size is 32, and all leaves lie in the single node of this size
node_size_shared : (low high : ℕ) (sizes : List ℕ) → (low / unwrap_or (find (λ size. eqb (low / size) (high / size)) sizes) 32 ≡ high / unwrap_or (find (λ size. eqb (low / size) (high / size)) sizes) 32)
    ⊎ (unwrap_or (find (λ size. eqb (low / size) (high / size)) sizes) 32 ≡ 32)
node_size_shared low high [] = inr refl
node_size_shared low high (size ∷ sizes) = elim (cases_Bool (eqb (low / size) (high / size))) [
  | inl e ↦ rw e (inl (eqb-true (low / size) (high / size) e))
  | inr e ↦ rw e (node_size_shared low high sizes)
]

pub node_holds : (low high : ℕ) → low ≤ 31 → high ≤ 31 → low / node_size low high ≡ high / node_size low high
node_holds low high small_low small_high = elim (node_size_shared low high (1 ∷ 2 ∷ 4 ∷ 8 ∷ 16 ∷ [])) [
  | inl same ↦ same
  | inr whole ↦ (let l : low / 32 ≡ 0 = omega arith in
      let h : high / 32 ≡ 0 = omega arith in
      rw whole (l ∙ sym h))
]

pub div-mono : (a b s : ℕ) → 0 < s → a ≤ b → a / s ≤ b / s
div-mono a b s some h = le-div (a / s) b s some (omega (arith, div-mul-le_self a s))

all-positive : (p : ℕ → Bool) → 0 < unwrap_or (find p (1 ∷ 2 ∷ 4 ∷ 8 ∷ 16 ∷ [])) 32
all-positive p = cond_both (p 1) (Some 1) (cond (p 2) (Some 2) (cond (p 4) (Some 4) (cond (p 8) (Some 8) (cond (p 16) (Some 16) None)))) (λ o. 0 < unwrap_or o 32)
    (λ e. omega arith)
    (λ e. cond_both (p 2) (Some 2) (cond (p 4) (Some 4) (cond (p 8) (Some 8) (cond (p 16) (Some 16) None))) (λ o. 0 < unwrap_or o 32)
    (λ e. omega arith)
    (λ e. cond_both (p 4) (Some 4) (cond (p 8) (Some 8) (cond (p 16) (Some 16) None)) (λ o. 0 < unwrap_or o 32)
    (λ e. omega arith)
    (λ e. cond_both (p 8) (Some 8) (cond (p 16) (Some 16) None) (λ o. 0 < unwrap_or o 32)
    (λ e. omega arith)
    (λ e. cond_both (p 16) (Some 16) None (λ o. 0 < unwrap_or o 32) (λ e. omega arith) (λ e. omega arith)))))

pub node_size-positive : (low high : ℕ) → 0 < node_size low high
node_size-positive low high = all-positive (λ size. eqb (low / size) (high / size))

pub node_between : (low high leaf : ℕ) → low ≤ 31 → high ≤ 31 → low ≤ leaf → leaf ≤ high → in_node (node_size low high) low leaf ≡ true
node_between low high leaf small_low small_high from to =
    let size : ℕ = node_size low high in
    let some : 0 < size = node_size-positive low high in
    eq-eqb (leaf / size) (low / size) (omega (arith, node_holds low high small_low small_high, div-mono low leaf size some from, div-mono leaf high size some to))
