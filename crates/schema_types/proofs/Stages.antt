-- The result for a schema text is found in stages: the names, the nullable columns, the limits.
use Rattle.std.proofs.Common.{◌≡◌, ℕ, List, Option, Some, None, Result, Ok, Err, refl, sym, ◌∙◌, ap, All}
use Rattle.std.specs.Option.{option_map}
use Rattle.ll_grammars.specs.declared.lexeme.Lexeme.{Lexeme}
use Rattle.schema_grammar.specs.declared.tree.TableNode.{TableNode}
use Rattle.schema_grammar.specs.Grammar.{SchemaText}
use Rattle.schema_grammar.specs.Lexemes.{IsTableWith, AreTablesWith}
use Rattle.schema_grammar.proofs.Kept.{tables_with}
use Rattle.sql_tokens.specs.Words.{IsLexemeOf}
use Rattle.schema_types.specs.declared.errors.LimitKind.{LimitKind}
use Rattle.schema_types.specs.declared.errors.SchemaError.{SchemaError}
use Rattle.schema_types.specs.declared.errors.SchemaError.TheVariants as error
use Rattle.schema_types.specs.declared.types.Schema.{Schema}
use Rattle.schema_types.specs.Answers.{Answers, AreLexemes}
use Rattle.schema_types.specs.Finds.{IsNameCheckOf, FindsNullable, FindsAbove}
use Rattle.schema_types.specs.Meaning.{unless_found, schema_or_refusal}
use Rattle.schema_types.specs.Names.{first}
use Rattle.schema_types.specs.Refusals.{in_64_bits}
use Rattle.schema_types.specs.Texts.{Spells, IsSchemaOf}

pub stage_name : (places : List ℕ) (rest : Result Schema SchemaError) (e : SchemaError) → IsNameCheckOf {A = Unit {0}} (Err e) places → Answers (Err e) (unless_found (first places) (λ at. error.Name at) rest)
stage_name places rest (error.Name at) found = rw found refl
stage_name places rest error.NoMemory found = tt
stage_name places rest (error.Syntax at) found = found
stage_name places rest (error.Nullable at) found = absurd found
stage_name places rest (error.Limit which n) found = absurd found

pub stage_nullable : (places : List ℕ) (rest : Result Schema SchemaError) (e : SchemaError) → FindsNullable {A = Unit {0}} (Err e) places → Answers (Err e) (unless_found (first places) (λ at. error.Nullable at) rest)
stage_nullable places rest (error.Nullable at) found = rw found refl
stage_nullable places rest error.NoMemory found = tt
stage_nullable places rest (error.Syntax at) found = found
stage_nullable places rest (error.Name at) found = absurd found
stage_nullable places rest (error.Limit which n) found = absurd found

found_limit : (limit : LimitKind) (o : Option ℕ) (rest : Result Schema SchemaError) (n : ℕ) → option_map in_64_bits o ≡ Some n → unless_found o (λ found. error.Limit limit (in_64_bits found)) rest ≡ Err (error.Limit limit n)
found_limit limit None rest n e = cc
found_limit limit (Some m) rest n e = let same : in_64_bits m ≡ n = cc in ap (λ k. Err (error.Limit limit k)) same

pub stage_above : (limit : LimitKind) (numbers : List ℕ) (rest : Result Schema SchemaError) (e : SchemaError) → FindsAbove {A = Unit {0}} limit (Err e) numbers → Answers (Err e) (unless_found (first numbers) (λ found. error.Limit limit (in_64_bits found)) rest)
stage_above limit numbers rest (error.Limit which n) found = found_limit limit (first numbers) rest n found.1 ∙ ap (λ k. Err (error.Limit k n)) (sym found.0)
stage_above limit numbers rest error.NoMemory found = tt
stage_above limit numbers rest (error.Syntax at) found = found
stage_above limit numbers rest (error.Name at) found = absurd found
stage_above limit numbers rest (error.Nullable at) found = absurd found

pub result_of_text : (text : List ℕ) (tables : List TableNode) (answer : Result Schema SchemaError) → Spells text tables → Answers answer (schema_or_refusal text tables) → IsSchemaOf text answer
result_of_text text tables (Ok schema) spells due = record { tables = tables; spells = spells; answers = due }
result_of_text text tables (Err (error.Name at)) spells due = record { tables = tables; spells = spells; answers = due }
result_of_text text tables (Err (error.Nullable at)) spells due = record { tables = tables; spells = spells; answers = due }
result_of_text text tables (Err (error.Limit which n)) spells due = record { tables = tables; spells = spells; answers = due }
result_of_text text tables (Err error.NoMemory) spells due = tt
result_of_text text tables (Err (error.Syntax at)) spells due = absurd due

pub spells_from : (text : List ℕ) (lexemes : List Lexeme) (tables : List TableNode) → AreLexemes text lexemes → SchemaText lexemes tables → Spells text tables
spells_from text lexemes tables are spelled = record { tokens = are.tokens; lexed = are.lexed; spelled = rw are.are at spelled }

pub tables_lie_in_text : (text : List ℕ) (lexemes : List Lexeme) (tables : List TableNode) → SchemaText lexemes tables → All (IsLexemeOf text) lexemes → All (IsTableWith (IsLexemeOf text)) tables
unfolding AreTablesWith
tables_lie_in_text text lexemes tables spelled within = tables_with (IsLexemeOf text) lexemes tables spelled within
