-- The results that a reader may return for the bytes of a file, and which line a refusal names.
use Rattle.std.specs.Prelude.{ℕ, ◌≡◌, ◌≢◌, ◌+◌, ◌⊎◌, List, [], ◌∷◌, ◌++◌, length, All, Result, Ok, Err, ⊤}
use Rattle.std.specs.List.{concat}
use Rattle.schema_types.specs.declared.types.Schema.{Schema}
use Rattle.stats_file.specs.declared.types.StatsFile.{StatsFile}
use Rattle.stats_file.specs.declared.types.StatsError.{StatsError}
use Rattle.stats_file.specs.declared.types.StatsError.TheVariants as error
use Rattle.stats_file.specs.FileText.{file_lines, file_text}
use Rattle.stats_file.specs.Grammar.{IsText}
use Rattle.stats_file.specs.Rules.{KeepsRules}

-- these lines are the first lines of some text of the grammar
pub record IsFrontOfText (lines : List (List ℕ)) : Type 0 where
  pub more : List (List ℕ)
  pub whole : IsText (lines ++ more)

-- these lines are the first lines of some file that keeps the rules
pub record IsFrontOfFile (schema : Schema) (lines : List (List ℕ)) : Type 0 where
  pub file : StatsFile
  pub keeps : KeepsRules schema file
  pub more : List (List ℕ)
  pub whole : lines ++ more ≡ file_lines schema file

abbrev pub HasNoLineEnd : List ℕ → Type 0
HasNoLineEnd bytes = All (λ byte. byte ≢ 10) bytes

-- the bytes `left` are this line, with its line end, followed by the bytes `rest`
pub record BeginsWithLine (left line rest : List ℕ) : Type 0 where
  pub text : List ℕ
  pub no_end : HasNoLineEnd text
  pub ended : line ≡ text ++ (10 ∷ [])
  pub whole : left ≡ line ++ rest

-- the bytes are these lines followed by the bytes `left`. The lines are the first lines of some file
pub record IsReadUpTo (schema : Schema) (bytes : List ℕ) (lines : List (List ℕ)) (left : List ℕ) : Type 0 where
  pub whole : bytes ≡ concat lines ++ left
  pub begins : IsFrontOfFile schema lines

-- the next line in `left` breaks the grammar: no text of the grammar begins with these lines and then this line
pub record BreaksGrammar (lines : List (List ℕ)) (left : List ℕ) : Type 0 where
  pub line : List ℕ
  pub rest : List ℕ
  pub next : BeginsWithLine left line rest
  pub fails : IsFrontOfText (lines ++ (line ∷ [])) → ⊥

-- the bytes `left` have no line end, and the text isn't complete: some bytes are left, or the lines aren't all lines of a file
pub record EndsTooEarly (schema : Schema) (lines : List (List ℕ)) (left : List ℕ) : Type 0 where
  pub no_line : HasNoLineEnd left
  pub fails : (file : StatsFile) → KeepsRules schema file → lines ≡ file_lines schema file → left ≡ [] → ⊥

-- the number, counted from 1, of the first line that breaks the grammar. In a text that ends too early it is the line that is missing or has no line
-- end
pub record IsSyntaxLine (schema : Schema) (bytes : List ℕ) (line : ℕ) : Type 0 where
  pub lines : List (List ℕ)
  pub left : List ℕ
  pub read : IsReadUpTo schema bytes lines left
  pub here : line ≡ length lines + 1
  pub wrong : BreaksGrammar lines left ⊎ EndsTooEarly schema lines left

-- the number, counted from 1, of the first line that breaks a rule: the grammar allows the lines up to it, but no file that keeps the rules begins
-- with them
pub record IsRuleLine (schema : Schema) (bytes : List ℕ) (line : ℕ) : Type 0 where
  pub lines : List (List ℕ)
  pub left : List ℕ
  pub read : IsReadUpTo schema bytes lines left
  pub here : line ≡ length lines + 1
  pub broken : List ℕ
  pub rest : List ℕ
  pub next : BeginsWithLine left broken rest
  pub in_grammar : IsFrontOfText (lines ++ (broken ∷ []))
  pub fails : IsFrontOfFile schema (lines ++ (broken ∷ [])) → ⊥

-- a result for the bytes: the file that has these bytes as its text, the first refusal, or that memory ran out
abbrev pub IsAllowedResult : Schema → List ℕ → Result StatsFile StatsError → Type 0
IsAllowedResult schema bytes (Ok file) = KeepsRules schema file × (bytes ≡ file_text schema file)
IsAllowedResult schema bytes (Err (error.Syntax line)) = IsSyntaxLine schema bytes line
IsAllowedResult schema bytes (Err (error.Rule line)) = IsRuleLine schema bytes line
IsAllowedResult schema bytes (Err error.NoMemory) = ⊤
