-- Steps of the loop over the tokens that looks for numbers outside the range.
use Rattle.std.proofs.Common.{◌≡◌, ℕ, ◌+◌, ◌-◌, ◌^◌, ◌<◌, ◌≤◌, min, Bool, true, false, List, [], ◌∷◌, ◌++◌, length, drop, get_or, Option, Some, None, ap, ◌∙◌, refl, arith}
use Rattle.std.proofs.lemmas.Grind.{common_steps}
use Rattle.std.proofs.lemmas.List.{drop_all}
use Rattle.ll_grammars.specs.declared.lexeme.Lexeme.{Lexeme}
use Rattle.query_names.specs.Answers.{first}
use Rattle.query_names.specs.Numbers.{is_out_of_range, sign_before, number_offence, offences_after}
use Rattle.query_names.proofs.Walk.{rest_at, first-append}

pub still_too_large : (negative : Bool) (n : ℕ) → is_out_of_range negative (min n (2 ^ 64 - 1)) ≡ is_out_of_range negative n
still_too_large true n = grind (arith, common_steps)
still_too_large false n = grind (arith, common_steps)

none_before : (xs ys : List ℕ) → first xs ≡ None → first (xs ++ ys) ≡ first ys
none_before [] ys none = refl
none_before (x ∷ xs) ys none = absurd cc

module _ (text : List ℕ) (tokens : List Lexeme) (before : Option Lexeme) (whole : Option ℕ) (i : ℕ) (d : Lexeme) where
  abbrev here : List ℕ
  here = number_offence text (sign_before before) (get_or tokens i d)

  abbrev rest : List ℕ
  rest = offences_after text (Some (get_or tokens i d)) (drop (i + 1) tokens)

  split : i < length tokens → whole ≡ first (offences_after text before (drop i tokens)) → whole ≡ first (here ++ rest)
  split below left = left ∙ ap (λ l. first (offences_after text before l)) (rest_at tokens i d below)

  pub none_here : i < length tokens → whole ≡ first (offences_after text before (drop i tokens)) → first here ≡ None → whole ≡ first rest
  none_here below left none = split below left ∙ none_before here rest none

  pub offence_here : (n : ℕ) → i < length tokens → whole ≡ first (offences_after text before (drop i tokens)) → first here ≡ Some n → whole ≡ Some n
  offence_here n below left is = split below left ∙ first-append here rest n is

  pub none_at_end : length tokens ≤ i → whole ≡ first (offences_after text before (drop i tokens)) → whole ≡ None
  none_at_end done left = left ∙ ap (λ l. first (offences_after text before l)) (drop_all i tokens done)
