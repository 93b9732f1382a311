-- Predictive parsers. A parser gives a value or no value, and the tokens that it hasn't read. It decides only by the next token.
use Rattle.std.specs.Prelude.{ℕ, zero, suc, Bool, false, if◌then◌else◌, Option, Some, None, List, [], ◌∷◌, ◌++◌, length}
use Rattle.ll_grammars.specs.declared.lexeme.Lexeme.{Lexeme}
use Rattle.ll_grammars.specs.declared.terminal.Terminal.{Terminal}
use Rattle.ll_grammars.specs.Terminals.{among}

-- a value or no value, and the tokens that are left
abbrev pub Answer : Type 0 → Type 0
Answer A = Option A × List Lexeme

abbrev pub Parser : Type 0 → Type 0
Parser A = List Lexeme → Answer A

-- if there is a value, goes on with the parser that `f` gives for the value
abbrev pub next : {A B : Type 0} → Option A → List Lexeme → (A → Parser B) → Answer B
next None rest f = (None, rest)
next (Some a) rest f = f a rest

infixl 10 ◌>>=◌
abbrev pub ◌>>=◌ : {A B : Type 0} → Answer A → (A → Parser B) → Answer B
answer >>= f = next answer.0 answer.1 f

-- whether the first token has one of these terminals
abbrev pub starts : List Terminal → List Lexeme → Bool
starts terminals [] = false
starts terminals (token ∷ rest) = among terminals token.terminal

-- reads the first token if it is one of these terminals, else nothing
abbrev pub read_one : List Terminal → Parser Lexeme
read_one terminals [] = (None, [])
read_one terminals (token ∷ rest) = if among terminals token.terminal then (Some token, rest) else (None, token ∷ rest)

-- gives the value and reads nothing
abbrev pub give : {A : Type 0} → A → Parser A
give a rest = (Some a, rest)

-- ---- one parser for each combinator of languages

abbrev pub read_second : {A B : Type 0} → Parser B → A → Parser (A × B)
read_second q a rest = q rest >>= λ b. give (a, b)

abbrev pub read_then : {A B : Type 0} → Parser A → Parser B → Parser (A × B)
read_then p q text = p text >>= read_second q

abbrev pub read_mapped : {A B : Type 0} → (A → B) → Parser A → Parser B
read_mapped f p text = p text >>= λ a. give (f a)

-- p reads if the first token is in `first`, otherwise q reads. `first` has the terminals with which texts for p begin
abbrev pub read_either : {A : Type 0} → List Terminal → Parser A → Parser A → Parser A
read_either first p q text = if starts first text then p text else q text

abbrev pub read_maybe : {A : Type 0} → List Terminal → Parser A → Parser (Option A)
read_maybe first p text = if starts first text then (p text >>= λ a. give (Some a)) else give None text

abbrev pub read_others : {A : Type 0} → Parser (List A) → A → Parser (List A)
read_others q a rest = q rest >>= λ others. give (a ∷ others)

-- at most n items. Another item is read only if the next token is in `first`
abbrev pub read_up_to : {A : Type 0} → ℕ → List Terminal → Parser A → Parser (List A)
read_up_to zero first p text = give [] text
read_up_to (suc n) first p text = if starts first text then (p text >>= read_others (read_up_to n first p)) else give [] text

-- any number of items. Each item takes at least one token, so there are no more items than tokens
unfoldable pub read_many : {A : Type 0} → List Terminal → Parser A → Parser (List A)
read_many first p text = read_up_to (length text) first p text

-- the same answer, with the items of `front` before the other items
abbrev pub with_front : {A : Type 0} → List A → Answer (List A) → Answer (List A)
with_front front answer = answer >>= λ others. give (front ++ others)

-- items, each after a separator, and maybe one more separator at the end. The token after a separator decides whether an item follows
abbrev pub read_tails_up_to : {A : Type 0} → ℕ → List Terminal → List Terminal → Parser A → Parser (List A)
read_tails_up_to zero separators first p text = give [] text
read_tails_up_to (suc n) separators first p [] = give [] []
read_tails_up_to (suc n) separators first p (token ∷ rest) =
    if among separators token.terminal then (if starts first rest
    then (p rest >>= read_others (read_tails_up_to n separators first p)) else give [] rest) else give [] (token ∷ rest)

unfoldable pub read_tails : {A : Type 0} → List Terminal → List Terminal → Parser A → Parser (List A)
read_tails separators first p text = read_tails_up_to (length text) separators first p text
