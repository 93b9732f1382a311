-- Properties of a value that follow from properties of the tokens that spell it.
use Rattle.std.specs.Prelude.{◌≡◌, true, All, List}
use Rattle.ll_grammars.specs.declared.lexeme.Lexeme.{Lexeme}
use Rattle.ll_grammars.specs.declared.terminal.Terminal.{Terminal}
use Rattle.ll_grammars.specs.Terminals.{among}
use Rattle.ll_grammars.specs.Language.{Language}

-- if all tokens of a text of L have P, then the value of the text has Q
pub record Preserves {A : Type 0} (P : Lexeme → Type 0) (L : Language A) (Q : A → Type 0) : Type 0 where
  pub kept : (text : List Lexeme) (value : A) → L text value → All P text → Q value

-- the token has P and is one of these terminals
abbrev pub IsOneOf : List Terminal → (Lexeme → Type 0) → Lexeme → Type 0
IsOneOf terminals P token = P token × (among terminals token.terminal ≡ true)
