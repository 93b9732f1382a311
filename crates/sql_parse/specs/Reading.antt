-- The results that reading a query text may have.
use Rattle.std.specs.Prelude.{◌≡◌, ◌⊎◌, ℕ, ◌<◌, ◌≤◌, min, List, [], ◌∷◌, length, map, Result, Err}
use Rattle.ll_grammars.specs.declared.lexeme.Lexeme.{Lexeme}
use Rattle.ll_grammars.specs.Places.{IsSyntaxErrorAt}
use Rattle.sql_tokens.specs.declared.token.Token.{Token}
use Rattle.sql_tokens.specs.Words.{lexeme_of}
use Rattle.sql_tokens.specs.Lexing.{IsLexed, IsBad}
use Rattle.query_grammar.specs.declared.tree.QueryNode.{QueryNode}
use Rattle.query_grammar.specs.Grammar.{QuerySpecification}
use Rattle.query_grammar.specs.Nesting.{nesting}
use Rattle.schema_types.specs.declared.types.Schema.{Schema}
use Rattle.schema_types.specs.declared.errors.LimitKind.TheVariants as limit
use Rattle.query_names.specs.declared.errors.QueryError.{QueryError}
use Rattle.query_names.specs.declared.errors.QueryError.TheVariants as error
use Rattle.query_types.specs.declared.types.Query.{Query}
use Rattle.query_names.specs.Numbers.{number_offences}
use Rattle.sql_parse.specs.QueryOrRefusal.{query_or_refusal, refusal}

-- the tokens of a text, as `Lexeme`s, which grammars take
abbrev pub lexemes_of : List ℕ → List Token → List Lexeme
lexemes_of text tokens = map (lexeme_of text) tokens

-- the most parentheses that may be open at once
abbrev pub most_nesting : ℕ
most_nesting = 64

-- the lesser of `offset` and the first of the other byte offsets, if there is one
abbrev pub earlier_offset : ℕ → List ℕ → ℕ
earlier_offset offset [] = offset
earlier_offset offset (other ∷ rest) = min offset other

-- a refusal at the first of these byte offsets of numbers outside the range, or `answer` if there are none
abbrev pub unless_number : List ℕ → Result Query QueryError → Result Query QueryError
unless_number [] answer = answer
unless_number (offset ∷ rest) answer = Err (error.Syntax offset)

module _ (schema : Schema) (text : List ℕ) (answer : Result Query QueryError) where
  -- the text can't be split into tokens. Its first error is at byte `place`
  pub record IsUnlexed : Type 0 where
    pub place : ℕ
    pub bad : IsBad text place
    pub refused : answer ≡ Err (error.Syntax place)

  -- more parentheses are open at once than the limit allows
  pub record IsTooDeep : Type 0 where
    pub tokens : List Token
    pub lexed : IsLexed text tokens
    pub deep : most_nesting < nesting (lexemes_of text tokens)
    pub refused : answer ≡ Err (refusal limit.Nesting (nesting (lexemes_of text tokens)))

  -- the tokens spell no query. The refusal is at their syntax error, or at an earlier number outside the range
  pub record IsUnspelled : Type 0 where
    pub tokens : List Token
    pub lexed : IsLexed text tokens
    pub shallow : nesting (lexemes_of text tokens) ≤ most_nesting
    pub place : ℕ
    pub wrong : IsSyntaxErrorAt QuerySpecification (lexemes_of text tokens) (length text) place
    pub refused : answer ≡ Err (error.Syntax (earlier_offset place (number_offences text (lexemes_of text tokens))))

  -- the tokens spell a query. A number outside the range is refused first; otherwise names, kinds and limits decide the answer
  pub record IsSpelled : Type 0 where
    pub tokens : List Token
    pub lexed : IsLexed text tokens
    pub shallow : nesting (lexemes_of text tokens) ≤ most_nesting
    pub tree : QueryNode
    pub spelled : QuerySpecification (lexemes_of text tokens) tree
    pub answered : answer ≡ unless_number (number_offences text (lexemes_of text tokens)) (query_or_refusal schema text tree)

  -- the results that a text may have. `NoMemory` is always allowed
  abbrev pub IsAnswer : Type 0
  IsAnswer = (answer ≡ Err error.NoMemory) ⊎ IsUnlexed ⊎ IsTooDeep ⊎ IsUnspelled ⊎ IsSpelled
