-- A schema text has at most one result, apart from `NoMemory`.
use Rattle.std.proofs.Common.{◌≡◌, ◌≢◌, ℕ, ◌⊎◌, List, map, length, Result, Ok, Err, refl, sym, ◌∙◌, ap, subst, inl, inr}
use Rattle.ll_grammars.specs.Places.{IsSyntaxErrorAt}
use Rattle.schema_grammar.specs.declared.tree.TableNode.{TableNode}
use Rattle.schema_grammar.specs.Grammar.{SchemaText}
use Rattle.schema_grammar.proofs.Ends.{one_schema}
use Rattle.sql_tokens.specs.declared.token.Token.{Token}
use Rattle.sql_tokens.specs.Lexing.{IsBad}
use Rattle.sql_tokens.specs.Words.{lexeme_of}
use Rattle.sql_tokens.proofs.WholeTexts as whole
use Rattle.schema_types.specs.declared.errors.SchemaError.{SchemaError}
use Rattle.schema_types.specs.declared.errors.SchemaError.TheVariants as error
use Rattle.schema_types.specs.declared.types.Schema.{Schema}
use Rattle.schema_types.specs.Meaning.{schema_or_refusal}
use Rattle.schema_types.specs.Texts.{Spells, IsUngrammatical, Declares, IsSchemaOf}
use Rattle.schema_types.proofs.OneOffset.{one_error_offset, not_spelled}

abbrev HasSyntaxErrorAt : List ℕ → ℕ → Type 0
HasSyntaxErrorAt text at = IsBad text at ⊎ IsUngrammatical text at

one_syntax_error : (text : List ℕ) (at other : ℕ) → HasSyntaxErrorAt text at → HasSyntaxErrorAt text other → at ≡ other
one_syntax_error text at other (inl p) (inl q) = whole.one_error_offset text at other p q
one_syntax_error text at other (inl p) (inr q) = absurd (whole.never_both text q.tokens at q.lexed p)
one_syntax_error text at other (inr p) (inl q) = absurd (whole.never_both text p.tokens other p.lexed q)
one_syntax_error text at other (inr p) (inr q) =
    let same : q.tokens ≡ p.tokens = whole.one_token_list text q.tokens p.tokens q.lexed p.lexed in
    one_error_offset SchemaText (map (lexeme_of text) p.tokens) (length text) at other p.place
    (subst (λ (tokens : List Token). IsSyntaxErrorAt SchemaText (map (lexeme_of text) tokens) (length text) other) same q.place)

no_syntax_error_if_spelled : (text : List ℕ) (at : ℕ) (tables : List TableNode) → HasSyntaxErrorAt text at → Spells text tables → ⊥
no_syntax_error_if_spelled text at tables (inl p) s = whole.never_both text s.tokens at s.lexed p
no_syntax_error_if_spelled text at tables (inr p) s =
    let same : s.tokens ≡ p.tokens = whole.one_token_list text s.tokens p.tokens s.lexed p.lexed in
    not_spelled SchemaText (map (lexeme_of text) p.tokens) (length text) at tables
    (subst (λ (tokens : List Token). SchemaText (map (lexeme_of text) tokens) tables) same s.spelled) p.place

one_tables : (text : List ℕ) (a b : List TableNode) → Spells text a → Spells text b → a ≡ b
one_tables text a b s t =
    let same : t.tokens ≡ s.tokens = whole.one_token_list text t.tokens s.tokens t.lexed s.lexed in
    one_schema (map (lexeme_of text) s.tokens) a b s.spelled
    (subst (λ (tokens : List Token). SchemaText (map (lexeme_of text) tokens) b) same t.spelled)

one_declared : (text : List ℕ) (a b : Result Schema SchemaError) → Declares text a → Declares text b → a ≡ b
one_declared text a b d e = sym d.answers ∙ ap (schema_or_refusal text) (one_tables text d.tables e.tables d.spells e.spells) ∙ e.answers

-- a result has one of three kinds: memory ran out, a syntax error, or the schema or refusal that the text declares
abbrev KindsOfResult : List ℕ → Result Schema SchemaError → Type 0
KindsOfResult text answer = (answer ≡ Err error.NoMemory) ⊎ (((at : ℕ) × (answer ≡ Err (error.Syntax at)) × HasSyntaxErrorAt text at) ⊎ Declares text answer)

kinds : (text : List ℕ) (answer : Result Schema SchemaError) → IsSchemaOf text answer → KindsOfResult text answer
kinds text (Ok schema) is = inr (inr is)
kinds text (Err (error.Syntax at)) is = inr (inl (at, refl, is))
kinds text (Err (error.Name at)) is = inr (inr is)
kinds text (Err (error.Nullable at)) is = inr (inr is)
kinds text (Err (error.Limit which n)) is = inr (inr is)
kinds text (Err error.NoMemory) is = inl refl

one_kind : (text : List ℕ) (a b : Result Schema SchemaError) → KindsOfResult text a → KindsOfResult text b → a ≢ Err error.NoMemory → b ≢ Err error.NoMemory → a ≡ b
one_kind text a b (inl p) q x y = absurd (x p)
one_kind text a b (inr p) (inl q) x y = absurd (y q)
one_kind text a b (inr (inl p)) (inr (inl q)) x y = p.1 ∙ ap (λ at. Err (error.Syntax at)) (one_syntax_error text p.0 q.0 p.2 q.2) ∙ sym q.1
one_kind text a b (inr (inl p)) (inr (inr q)) x y = absurd (no_syntax_error_if_spelled text p.0 q.tables p.2 q.spells)
one_kind text a b (inr (inr p)) (inr (inl q)) x y = absurd (no_syntax_error_if_spelled text q.0 p.tables q.2 p.spells)
one_kind text a b (inr (inr p)) (inr (inr q)) x y = one_declared text a b p q

pub one_answer : (text : List ℕ) (a b : Result Schema SchemaError) → IsSchemaOf text a → IsSchemaOf text b → a ≢ Err error.NoMemory → b ≢ Err error.NoMemory → a ≡ b
one_answer text a b p q x y = one_kind text a b (kinds text a p) (kinds text b q) x y
