-- Loops that look for the first item of a list that passes a test.
use Rattle.std.proofs.Common.{◌≡◌, ℕ, zero, suc, ◌+◌, ◌<◌, ◌≤◌, Bool, true, false, cond, List, [], ◌∷◌, length, get_or, take, Option, None, Some, ap, sym, ◌∙◌, arith, inl, inr}
use Rattle.std.specs.List.{find}
use Rattle.std.specs.Option.{option_or}
use Rattle.std.proofs.lemmas.Bool.{cases_Bool}
use Rattle.std.proofs.lemmas.List.{take_all, take_more}
use Rattle.std.proofs.lemmas.List.Folds.{find-append}

module _ {X : Type 0} (p : X → Bool) where
  pub none_more : (xs : List X) (i : ℕ) (x : X) → i < length xs → x ≡ get_or xs i x → p x ≡ false → find p (take i xs) ≡ None → find p (take (i + 1) xs) ≡ None
  none_more xs i x low at fails none =
      ap (find p) (take_more xs i x low) ∙ find-append p (take i xs) (get_or xs i x ∷ [])
      ∙ ap (λ (o : Option X). option_or o (find p (get_or xs i x ∷ []))) none
      ∙ ap (λ (y : X). cond (p y) (Some y) None) (sym at) ∙ ap (λ (b : Bool). cond b (Some x) None) fails

  pub first_found : (xs : List X) (i : ℕ) (x : X) → i < length xs → x ≡ get_or xs i x → p x ≡ true → find p (take i xs) ≡ None → find p xs ≡ Some x
  first_found [] i x low at passes none = absurd (omega (arith, low))
  first_found (y ∷ xs) zero x low at passes none = ap (λ (b : Bool). cond b (Some y) (find p xs)) (ap p (sym at) ∙ passes) ∙ ap Some (sym at)
  first_found (y ∷ xs) (suc i) x low at passes none = elim (cases_Bool (p y)) [
    | inl e ↦ (let no : Some y ≡ None = sym (ap (λ (b : Bool). cond b (Some y) (find p (take i xs))) e) ∙ none in absurd cc)
    | inr e ↦ ap (λ (b : Bool). cond b (Some y) (find p xs)) e
        ∙ first_found xs i x (omega (arith, low)) at passes (sym (ap (λ (b : Bool). cond b (Some y) (find p (take i xs))) e) ∙ none)
  ]

  pub none_at_all : (xs : List X) (i : ℕ) → length xs ≤ i → find p (take i xs) ≡ None → find p xs ≡ None
  none_at_all xs i past none = ap (find p) (sym (take_all i xs past)) ∙ none
