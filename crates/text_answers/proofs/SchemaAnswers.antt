-- The computed result for a schema text is the only one that the contract of `read_schema` allows, unless memory runs out.
use Rattle.std.proofs.Common.{◌≡◌, ◌≢◌, ◌⊎◌, inl, inr, ℕ, List, [], ◌∷◌, map, length, Option, Some, None, Result, Ok, Err, refl, subst}
use Rattle.std.specs.Bool.{⊤}
use Rattle.schema_grammar.specs.declared.tree.TableNode.{TableNode}
use Rattle.schema_grammar.specs.Grammar.{SchemaText}
use Rattle.schema_grammar.proofs.Rules.{reads_all_tables}
use Rattle.sql_tokens.specs.declared.token.Token.{Token}
use Rattle.sql_tokens.specs.Lexing.{IsLexed}
use Rattle.sql_tokens.specs.Words.{lexeme_of}
use Rattle.schema_types.specs.declared.errors.LimitKind.TheVariants as limit
use Rattle.schema_types.specs.declared.errors.SchemaError.{SchemaError}
use Rattle.schema_types.specs.declared.errors.SchemaError.TheVariants as error
use Rattle.schema_types.specs.declared.types.Schema.{Schema}
use Rattle.schema_types.specs.Meaning.{unless_found, if_within_limits, schema_or_refusal}
use Rattle.schema_types.specs.Names.{first}
use Rattle.schema_types.specs.Offences.{offences}
use Rattle.schema_types.specs.Refusals.{nullable_offsets, numbers_above, in_64_bits, column_counts, text_lengths}
use Rattle.schema_types.specs.Texts.{Spells, IsSchemaOf}
use Rattle.schema_types.specs.Validity.{IsValid}
use Rattle.schema_types.proofs.OneAnswer.{one_answer}
use Rattle.schema_types.proofs.Valid.{declares_valid}
use Rattle.text_answers.specs.Stages.{or_refused_at, tokens_of}
use Rattle.text_answers.specs.SchemaTexts.{syntax, tables_of, schema_answer}
use Rattle.text_answers.proofs.Tokens.{AreTokensOrPlace, tokens_or_error}
use Rattle.text_answers.proofs.Spellings.{SpellsOrGoesWrong, is_spelling}

-- ---- the tables of a text give a schema, or a refusal for names, for nullable columns or for limits

abbrev IsSchemaOrRefusal : Result Schema SchemaError → Type 0
IsSchemaOrRefusal (Ok schema) = ⊤
IsSchemaOrRefusal (Err (error.Name at)) = ⊤
IsSchemaOrRefusal (Err (error.Nullable at)) = ⊤
IsSchemaOrRefusal (Err (error.Limit which found)) = ⊤
IsSchemaOrRefusal (Err (error.Syntax at)) = ⊥
IsSchemaOrRefusal (Err error.NoMemory) = ⊥

unless_found_is_schema_or_refusal : (found : Option ℕ) (cause : ℕ → SchemaError) (rest : Result Schema SchemaError) → ((n : ℕ) → IsSchemaOrRefusal (Err (cause n))) → IsSchemaOrRefusal rest → IsSchemaOrRefusal (unless_found found cause rest)
unless_found_is_schema_or_refusal None cause rest causes is = is
unless_found_is_schema_or_refusal (Some n) cause rest causes is = causes n

within_limits_is_schema_or_refusal : (text : List ℕ) (tables : List TableNode) (rest : Result Schema SchemaError) → IsSchemaOrRefusal rest → IsSchemaOrRefusal (if_within_limits text tables rest)
unfolding if_within_limits
within_limits_is_schema_or_refusal text tables rest is =
    unless_found_is_schema_or_refusal (first (numbers_above 64 (length tables ∷ []))) (λ found. error.Limit limit.Tables (in_64_bits found)) _ (λ n. tt)
    (unless_found_is_schema_or_refusal (first (numbers_above 64 (column_counts tables))) (λ found. error.Limit limit.Columns (in_64_bits found)) _ (λ n. tt)
    (unless_found_is_schema_or_refusal (first (numbers_above 1000000 (text_lengths text tables))) (λ found. error.Limit limit.TextLength (in_64_bits found)) rest (λ n. tt) is))

answer_is_schema_or_refusal : (text : List ℕ) (tables : List TableNode) → IsSchemaOrRefusal (schema_or_refusal text tables)
unfolding schema_or_refusal
answer_is_schema_or_refusal text tables =
    unless_found_is_schema_or_refusal (first (offences text tables)) (λ at. error.Name at) _ (λ n. tt)
    (unless_found_is_schema_or_refusal (first (nullable_offsets text tables)) (λ at. error.Nullable at) _ (λ n. tt) (within_limits_is_schema_or_refusal text tables _ tt))

-- ---- the computed result is allowed

schema_or_refusal_allowed : (text : List ℕ) (tables : List TableNode) (answer : Result Schema SchemaError) → Spells text tables → schema_or_refusal text tables ≡ answer → IsSchemaOrRefusal answer → IsSchemaOf text answer
schema_or_refusal_allowed text tables (Ok schema) spells e is = record { tables = tables; spells = spells; answers = e }
schema_or_refusal_allowed text tables (Err (error.Name at)) spells e is = record { tables = tables; spells = spells; answers = e }
schema_or_refusal_allowed text tables (Err (error.Nullable at)) spells e is = record { tables = tables; spells = spells; answers = e }
schema_or_refusal_allowed text tables (Err (error.Limit which found)) spells e is = record { tables = tables; spells = spells; answers = e }
schema_or_refusal_allowed text tables (Err (error.Syntax at)) spells e is = absurd is
schema_or_refusal_allowed text tables (Err error.NoMemory) spells e is = absurd is

tables_or_error : (text : List ℕ) (tokens : List Token) → SpellsOrGoesWrong SchemaText (map (lexeme_of text) tokens) (length text) (tables_of text tokens)
unfolding tables_of
tables_or_error text tokens = is_spelling reads_all_tables (map (lexeme_of text) tokens) (length text)

spelled_allowed : (text : List ℕ) (tokens : List Token) (tables : Result (List TableNode) ℕ) → IsLexed text tokens → SpellsOrGoesWrong SchemaText (map (lexeme_of text) tokens) (length text) tables
    → IsSchemaOf text (or_refused_at syntax tables (schema_or_refusal text))
spelled_allowed text tokens (Ok tables) lexed spelled = schema_or_refusal_allowed text tables (schema_or_refusal text tables) (record { tokens = tokens; lexed = lexed; spelled = spelled }) refl (answer_is_schema_or_refusal text tables)
spelled_allowed text tokens (Err at) lexed place = inr (record { tokens = tokens; lexed = lexed; place = place })

lexed_allowed : (text : List ℕ) (tokens : Result (List Token) ℕ) → AreTokensOrPlace text tokens → IsSchemaOf text (or_refused_at syntax tokens (λ tokens. or_refused_at syntax (tables_of text tokens) (schema_or_refusal text)))
lexed_allowed text (Ok tokens) lexed = spelled_allowed text tokens (tables_of text tokens) lexed (tables_or_error text tokens)
lexed_allowed text (Err at) bad = inl bad

pub result_is_allowed : (text : List ℕ) → IsSchemaOf text (schema_answer text)
unfolding schema_answer
result_is_allowed text = lexed_allowed text (tokens_of text) (tokens_or_error text)

-- ---- the computed result isn't NoMemory

not_memory : (answer : Result Schema SchemaError) → IsSchemaOrRefusal answer → answer ≢ Err error.NoMemory
not_memory answer is e = subst IsSchemaOrRefusal e is

spelled_not_memory : (text : List ℕ) (tables : Result (List TableNode) ℕ) → or_refused_at syntax tables (schema_or_refusal text) ≢ Err error.NoMemory
spelled_not_memory text (Ok tables) e = not_memory (schema_or_refusal text tables) (answer_is_schema_or_refusal text tables) e
spelled_not_memory text (Err at) e = cc

lexed_not_memory : (text : List ℕ) (tokens : Result (List Token) ℕ) → or_refused_at syntax tokens (λ tokens. or_refused_at syntax (tables_of text tokens) (schema_or_refusal text)) ≢ Err error.NoMemory
lexed_not_memory text (Ok tokens) e = spelled_not_memory text (tables_of text tokens) e
lexed_not_memory text (Err at) e = cc

pub never_out_of_memory : (text : List ℕ) → schema_answer text ≢ Err error.NoMemory
unfolding schema_answer
never_out_of_memory text = lexed_not_memory text (tokens_of text)

-- ---- no other result is allowed

no_memory_or_not : (answer : Result Schema SchemaError) → (answer ≡ Err error.NoMemory) ⊎ (answer ≢ Err error.NoMemory)
no_memory_or_not (Ok schema) = inr (λ e. cc)
no_memory_or_not (Err (error.Syntax at)) = inr (λ e. cc)
no_memory_or_not (Err (error.Name at)) = inr (λ e. cc)
no_memory_or_not (Err (error.Nullable at)) = inr (λ e. cc)
no_memory_or_not (Err (error.Limit which found)) = inr (λ e. cc)
no_memory_or_not (Err error.NoMemory) = inl refl

pub only_result : (text : List ℕ) (answer : Result Schema SchemaError) → IsSchemaOf text answer → (answer ≡ Err error.NoMemory) ⊎ (answer ≡ schema_answer text)
only_result text answer is = by (no_memory_or_not answer) where
  by : (answer ≡ Err error.NoMemory) ⊎ (answer ≢ Err error.NoMemory) → (answer ≡ Err error.NoMemory) ⊎ (answer ≡ schema_answer text)
  by (inl memory) = inl memory
  by (inr some) = inr (one_answer text answer (schema_answer text) is (result_is_allowed text) some (never_out_of_memory text))

pub valid : (text : List ℕ) (schema : Schema) → schema_answer text ≡ Ok schema → IsValid schema
valid text schema e = declares_valid text schema (subst (IsSchemaOf text) e (result_is_allowed text))
