-- The byte of a syntax error.
use Rattle.std.specs.Prelude.{◌≡◌, ℕ, ⊤, List}
use Rattle.ll_grammars.specs.declared.lexeme.Lexeme.{Lexeme}
use Rattle.ll_grammars.specs.declared.syntax_error.SyntaxError.{SyntaxError}
use Rattle.ll_grammars.specs.declared.syntax_error.SyntaxError.TheVariants as error
use Rattle.ll_grammars.specs.Language.{Language, GoesWrong}
use Rattle.ll_grammars.specs.Rules.{next_token_start}

-- `at` is the byte of the syntax error: the start of the first token that can't follow the tokens before it in any text of the language. If the
-- tokens end too early, `at` is the text's length
pub record IsSyntaxErrorAt {A : Type 0} (L : Language A) (tokens : List Lexeme) (text_len at : ℕ) : Type 0 where
  pub rest : List Lexeme
  pub wrong : GoesWrong L tokens rest
  pub here : at ≡ next_token_start rest text_len

-- what an error says of the tokens: `At` gives the byte of the syntax error, and `NoMemory` says nothing
abbrev pub IsSyntaxError : {A : Type 0} → Language A → List Lexeme → ℕ → SyntaxError → Type 0
IsSyntaxError L tokens text_len (error.At at) = IsSyntaxErrorAt L tokens text_len at
IsSyntaxError L tokens text_len error.NoMemory = ⊤
