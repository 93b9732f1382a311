-- Common forms of grammar rules, and parsers for some of these forms.
use Rattle.std.specs.Prelude.{◌≡◌, ℕ, Bool, true, false, ⊤, List, [], ◌∷◌, Some, None, Result, Ok, Err}
use Rattle.ll_grammars.specs.declared.lexeme.Lexeme.{Lexeme}
use Rattle.ll_grammars.specs.declared.terminal.Terminal.{Terminal}
use Rattle.ll_grammars.specs.declared.terminal.Terminal.TheVariants as terminal
use Rattle.ll_grammars.specs.declared.stop.Stop.{Stop}
use Rattle.ll_grammars.specs.declared.stop.Stop.TheVariants as stop
use Rattle.ll_grammars.specs.Language.{Language, one, ◌▸◌, mapped, many}
use Rattle.ll_grammars.specs.Reading.{Parser, Answer, read_one, read_then, read_mapped}

-- ---- values of rules, from the values of their parts

-- the list of a first item and the other items
abbrev pub first_and_others : {A : Type 0} → A × List A → List A
first_and_others parts = parts.0 ∷ parts.1

abbrev pub second : {A B : Type 0} → A × B → B
second parts = parts.1

abbrev pub middle : {A B C : Type 0} → A × (B × C) → B
middle parts = parts.1.0

-- ---- forms of rules

-- one terminal
abbrev pub word : Terminal → Language Lexeme
word t = one (t ∷ [])

-- L { separator L }
abbrev pub listed : {A : Type 0} → Terminal → Language A → Language (List A)
listed separator L = mapped first_and_others (L ▸ many (mapped second (word separator ▸ L)))

-- "(" L ")"
abbrev pub in_parentheses : {A : Type 0} → Language A → Language A
in_parentheses L = mapped middle (word terminal.Open ▸ L ▸ word terminal.Close)

-- ---- parsers of these forms

abbrev pub read_word : Terminal → Parser Lexeme
read_word t = read_one (t ∷ [])

abbrev pub read_in_parentheses : {A : Type 0} → Parser A → Parser A
read_in_parentheses p = read_mapped middle (read_then (read_word terminal.Open) (read_then p (read_word terminal.Close)))

-- a function gives the parser's value and leaves the same tokens, unless memory runs out
abbrev pub IsReadAs : {A : Type 0} → Result A Stop → List Lexeme → Answer A → Type 0
IsReadAs (Ok a) rest answer = answer ≡ (Some a, rest)
IsReadAs (Err stop.Syntax) rest answer = answer ≡ (None, rest)
IsReadAs (Err stop.NoMemory) rest answer = ⊤

-- the start of the next token, or the text's end if no token is left
abbrev pub next_token_start : List Lexeme → ℕ → ℕ
next_token_start [] end = end
next_token_start (token ∷ rest) end = token.start

abbrev pub is_empty : List Lexeme → Bool
is_empty [] = true
is_empty (token ∷ rest) = false
