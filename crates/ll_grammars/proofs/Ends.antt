-- The answer of a parser that reads a language, for all tokens of a text: the value that they spell, or the byte of the syntax error.
use Rattle.std.proofs.Common.{◌≡◌, ℕ, true, false, List, [], ◌∷◌, Option, Some, None, refl, sym, ap, subst, ◌∙◌}
use Rattle.ll_grammars.specs.declared.lexeme.Lexeme.{Lexeme}
use Rattle.ll_grammars.specs.Language.{Language, GoesWrong}
use Rattle.ll_grammars.specs.Reading.{Parser}
use Rattle.ll_grammars.specs.Parses.{FirstAndFollow, Parses}
use Rattle.ll_grammars.specs.Rules.{next_token_start, is_empty}
use Rattle.ll_grammars.specs.Places.{IsSyntaxErrorAt}
use Rattle.ll_grammars.proofs.Theory.{goes_wrong, spells, found, one_value}

empty_is : (rest : List Lexeme) → is_empty rest ≡ true → rest ≡ []
empty_is [] h = refl
empty_is (t ∷ rest) h = absurd cc

pub spelled : {A : Type 0} {L : Language A} {s : FirstAndFollow} {p : Parser A} → Parses L s p → (tokens : List Lexeme) (value : A) (rest : List Lexeme) → p tokens ≡ (Some value, rest) → is_empty rest ≡ true → L tokens value
spelled reads tokens value rest e h = spells _ _ _ reads tokens value (e ∙ ap (λ x. (Some value, x)) (empty_is rest h))

pub wrong_after : {A : Type 0} {L : Language A} {s : FirstAndFollow} {p : Parser A} → Parses L s p → (tokens : List Lexeme) (value : A) (rest : List Lexeme) (text_len at : ℕ) → p tokens ≡ (Some value, rest) → is_empty rest ≡ false → at ≡ next_token_start rest text_len → IsSyntaxErrorAt L tokens text_len at
wrong_after {A = A} {L = L} {s = s} {p = p} reads tokens value rest text_len at e h here =
    let other : (v : A) → p tokens ≡ (Some v, []) → ⊥ = λ v f. (let k : rest ≡ [] = ap (λ x. x.1) (sym e ∙ f) in let k' : is_empty rest ≡ true = rw k refl in cc) in
    record { rest = rest; wrong = subst (λ x. GoesWrong L tokens x) (ap (λ x. x.1) e) (goes_wrong _ _ _ reads tokens other); here = here }

pub wrong_at : {A : Type 0} {L : Language A} {s : FirstAndFollow} {p : Parser A} → Parses L s p → (tokens : List Lexeme) (rest : List Lexeme) (text_len at : ℕ) → p tokens ≡ (None, rest) → at ≡ next_token_start rest text_len → IsSyntaxErrorAt L tokens text_len at
wrong_at {A = A} {L = L} {s = s} {p = p} reads tokens rest text_len at e here =
    let other : (v : A) → p tokens ≡ (Some v, []) → ⊥ = λ v f. (let k : ◌≡◌ {A = Option A} None (Some v) = ap (λ x. x.0) (sym e ∙ f) in cc) in
    record { rest = rest; wrong = subst (λ x. GoesWrong L tokens x) (ap (λ x. x.1) e) (goes_wrong _ _ _ reads tokens other); here = here }

pub all_found : {A : Type 0} {L : Language A} {s : FirstAndFollow} {p : Parser A} → Parses L s p → (tokens : List Lexeme) (value : A) → L tokens value → p tokens ≡ (Some value, [])
all_found reads tokens value l = found _ _ _ reads tokens value l

pub at_most_one : {A : Type 0} {L : Language A} {s : FirstAndFollow} {p : Parser A} → Parses L s p → (tokens : List Lexeme) (a b : A) → L tokens a → L tokens b → a ≡ b
at_most_one reads tokens a b la lb = one_value _ _ _ reads tokens a b la lb
