-- Formal languages: which lists of tokens spell which values, and where the syntax error of a list is.
use Rattle.std.specs.Prelude.{◌≡◌, true, ◌⊎◌, Option, Some, None, List, [], ◌∷◌, ◌++◌}
use Rattle.ll_grammars.specs.declared.lexeme.Lexeme.{Lexeme}
use Rattle.ll_grammars.specs.declared.terminal.Terminal.{Terminal}
use Rattle.ll_grammars.specs.Terminals.{among}

-- L relates lists of tokens to values: `L text value` says that the list spells the value. The texts of L are the lists that spell some value
abbrev pub Language : Type 0 → Type 1
Language A = List Lexeme → A → Type 0

-- one token, of one of these terminals; the value is the token itself
abbrev pub one : List Terminal → Language Lexeme
one terminals text token = (text ≡ token ∷ []) × (among terminals token.terminal ≡ true)

-- a text of L followed by a text of M; the value is the pair of both values
pub record Then {A B : Type 0} (L : Language A) (M : Language B) (text : List Lexeme) (values : A × B) : Type 0 where
  pub front : List Lexeme
  pub rest : List Lexeme
  pub whole : text ≡ front ++ rest
  pub first : L front values.0
  pub second : M rest values.1

infixr 20 ◌▸◌
abbrev pub ◌▸◌ : {A B : Type 0} → Language A → Language B → Language (A × B)
L ▸ M = Then L M

-- a text of L. Its value is `f` of the value that it has in L
abbrev pub mapped : {A B : Type 0} → (A → B) → Language A → Language B
mapped {A} f L text value = (a : A) × (f a ≡ value) × L text a

-- a text of L or of M
infixr 15 ◌∪◌
abbrev pub ◌∪◌ : {A : Type 0} → Language A → Language A → Language A
(L ∪ M) text value = L text value ⊎ M text value

-- a text of L, or no token
abbrev pub maybe : {A : Type 0} → Language A → Language (Option A)
maybe L text None = text ≡ []
maybe L text (Some value) = L text value

-- any number of texts of L, one after another; the value is the list of their values
abbrev pub many : {A : Type 0} → Language A → Language (List A)
many L text [] = text ≡ []
many L text (value ∷ values) = (front : List Lexeme) × (rest : List Lexeme) × (text ≡ front ++ rest) × L front value × many L rest values

-- `front` is a viable prefix: some text of L begins with it
pub record IsViablePrefix {A : Type 0} (L : Language A) (front : List Lexeme) : Type 0 where
  pub more : List Lexeme
  pub value : A
  pub spelled : L (front ++ more) value

-- the first list, followed by the first token of the second list, is no viable prefix. If the second list is empty, the first list is no text of L
abbrev pub Fails : {A : Type 0} → Language A → List Lexeme → List Lexeme → Type 0
Fails {A} L front [] = (value : A) → L front value → ⊥
Fails L front (token ∷ rest) = IsViablePrefix L (front ++ token ∷ []) → ⊥

-- `text` is no text of L, and `rest` is what follows its longest viable prefix
pub record GoesWrong {A : Type 0} (L : Language A) (text rest : List Lexeme) : Type 0 where
  pub front : List Lexeme
  pub whole : text ≡ front ++ rest
  pub begins : IsViablePrefix L front
  pub fails : Fails L front rest
