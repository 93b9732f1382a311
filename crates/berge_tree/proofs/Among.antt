-- An entry is in the list `xs ++ ys` exactly if it is in `xs` or in `ys`. The code tests `xs` first, and then `ys`.
use Rattle.std.proofs.Common.{◌≡◌, ◌≢◌, ℕ, Bool, true, false, eqb, List, [], ◌∷◌, ◌++◌, refl, ap, sym, ◌∙◌, inl, inr}
use Rattle.std.specs.Prelude.{◌||◌}
use Rattle.std.proofs.lemmas.Bool.{cases_Bool, eqb-true}
use Rattle.berge_tree.specs.Walk.{is_among}

pub among-append : (xs ys : List ℕ) (x : ℕ) → is_among (xs ++ ys) x ≡ (is_among xs x || is_among ys x)
among-append [] ys x = refl
among-append (z ∷ xs) ys x = elim (cases_Bool (eqb z x)) [
  | inl t ↦ rw t refl
  | inr n ↦ rw n (among-append xs ys x)
]

pub among_first : (xs ys : List ℕ) (x : ℕ) (b : Bool) → b ≡ is_among xs x → b ≡ true → true ≡ is_among (xs ++ ys) x
among_first xs ys x b is told = sym (among-append xs ys x ∙ ap (λ c. c || is_among ys x) (sym is ∙ told))

pub among_later : (xs ys : List ℕ) (x : ℕ) (a b : Bool) → a ≡ is_among xs x → a ≡ false → b ≡ is_among ys x → b ≡ is_among (xs ++ ys) x
among_later xs ys x a b is told later = later ∙ sym (among-append xs ys x ∙ ap (λ c. c || is_among ys x) (sym is ∙ told))

pub among_rest : (own : ℕ) (xs : List ℕ) (x : ℕ) (b : Bool) → own ≢ x → b ≡ is_among xs x → b ≡ is_among (own ∷ xs) x
among_rest own xs x b apart is = elim (cases_Bool (eqb own x)) [
  | inl t ↦ absurd (apart (eqb-true own x t))
  | inr n ↦ rw n is
]
