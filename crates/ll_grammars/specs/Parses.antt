-- When a parser reads a language. Such parsers can be combined as the rules of an LL(1) grammar are.
use Rattle.std.specs.Prelude.{◌≡◌, Bool, true, false, Option, Some, None, List, [], ◌∷◌, ◌++◌, ⊤}
use Rattle.ll_grammars.specs.declared.lexeme.Lexeme.{Lexeme}
use Rattle.ll_grammars.specs.declared.terminal.Terminal.{Terminal}
use Rattle.ll_grammars.specs.Terminals.{among}
use Rattle.ll_grammars.specs.Language.{Language, IsViablePrefix}
use Rattle.ll_grammars.specs.Reading.{Parser}

-- the sets that the conditions of an LL(1) grammar compare, for a language and its parser. `first` has the terminals with which texts of the language
-- begin. `nullable` says whether the empty list is a text. `more` has the terminals with which the parser reads on after a text
pub record FirstAndFollow : Type 0 where
  pub first : List Terminal
  pub nullable : Bool
  pub more : List Terminal

-- a text begins with a terminal of the FIRST set, or it is empty and the language is nullable
abbrev pub BeginsIn : FirstAndFollow → List Lexeme → Type 0
BeginsIn s [] = s.nullable ≡ true
BeginsIn s (token ∷ rest) = among s.first token.terminal ≡ true

-- the list doesn't begin with any of these terminals
abbrev pub BeginsOutside : List Terminal → List Lexeme → Type 0
BeginsOutside more [] = ⊤
BeginsOutside more (token ∷ rest) = among more token.terminal ≡ false

-- both lists are empty, or both have the same first token
pub data SameHead : List Lexeme → List Lexeme → Type 0 where
  nothing : SameHead [] []
  token : (t : Lexeme) (xs ys : List Lexeme) → SameHead (t ∷ xs) (t ∷ ys)

-- what was read spells the value, or is a viable prefix if there is no value
abbrev pub Spelled : {A : Type 0} → Language A → List Lexeme → Option A → Type 0
Spelled L front None = IsViablePrefix L front
Spelled L front (Some value) = L front value

-- `text` is `front`, which was read, followed by `rest`
pub record Splits {A : Type 0} (L : Language A) (text : List Lexeme) (value : Option A) (rest : List Lexeme) : Type 0 where
  pub front : List Lexeme
  pub whole : text ≡ front ++ rest
  pub spelled : Spelled L front value

-- the parser reads the language
pub record Parses {A : Type 0} (L : Language A) (s : FirstAndFollow) (p : Parser A) : Type 0 where
  -- the language has a text
  pub some : IsViablePrefix L []
  -- each text of the language begins as `s` says
  pub begins : (text : List Lexeme) (value : A) → L text value → BeginsIn s text
  -- what is read spells the value, or is a viable prefix if there is no value
  pub splits : (text : List Lexeme) → Splits L text (p text).0 (p text).1
  -- each text is read to its end, if the token after it isn't one with which the parser goes on
  pub complete : (front rest : List Lexeme) (value : A) → L front value → BeginsOutside s.more rest → p (front ++ rest) ≡ (Some value, rest)
  -- the parser looks at no token after the token at which it stops
  pub looks : (front rest other : List Lexeme) → SameHead rest other → (p (front ++ rest)).1 ≡ rest
      → p (front ++ other) ≡ ((p (front ++ rest)).0, other)
