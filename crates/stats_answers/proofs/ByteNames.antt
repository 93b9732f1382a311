-- In a schema that was read from a text, the names of columns consist of bytes, since the text is UTF-8.
use Rattle.std.proofs.Common.{◌≡◌, ℕ, zero, suc, ◌-◌, ◌<◌, ◌==◌, if◌then◌else◌, List, [], ◌∷◌, length, map, take, drop, Option, Some, None, Result, Ok, subst, arith}
use Rattle.std.specs.Prelude.{All}
use Rattle.std.specs.Char.{to_ascii_uppercase}
use Rattle.std.specs.List.{flat_map}
use Rattle.std.proofs.lemmas.Bool.{cond_both}
use Rattle.std.proofs.lemmas.Bool.Decides.{nat_tests}
use Rattle.ll_grammars.specs.declared.lexeme.Lexeme.{Lexeme}
use Rattle.schema_grammar.specs.declared.tree.Element.{Element}
use Rattle.schema_grammar.specs.declared.tree.Element.TheVariants as element
use Rattle.schema_grammar.specs.declared.tree.TableNode.{TableNode}
use Rattle.sql_tokens.specs.Words.{in_upper_case, name_of, name_of_bytes, unquoted, slice}
use Rattle.schema_types.specs.declared.errors.SchemaError.{SchemaError}
use Rattle.schema_types.specs.declared.types.Column.{Column}
use Rattle.schema_types.specs.declared.types.Schema.{Schema}
use Rattle.schema_types.specs.declared.types.Table.{Table}
use Rattle.schema_types.specs.Meaning.{schema_or_refusal, element_column, schema_of, table_of, unless_found, if_within_limits}
use Rattle.schema_types.specs.Names.{first}
use Rattle.schema_types.specs.Offences.{offences}
use Rattle.schema_types.specs.Refusals.{numbers_above, column_counts, nullable_offsets, text_lengths}
use Rattle.schema_types.specs.Texts.{Declares}
use Rattle.stats_file.specs.Bytes.{AreBytes}
use Rattle.stats_words.proofs.TextFacts.{utf8_bytes}
use Rattle.stats_reading.specs.Names.{HasByteColumns}

-- ---- names

take_bytes : (k : ℕ) (bytes : List ℕ) → AreBytes bytes → AreBytes (take k bytes)
take_bytes zero bytes are = tt
take_bytes (suc k) [] are = tt
take_bytes (suc k) (b ∷ bytes) are = (are.0, take_bytes k bytes are.1)

drop_bytes : (k : ℕ) (bytes : List ℕ) → AreBytes bytes → AreBytes (drop k bytes)
drop_bytes zero bytes are = are
drop_bytes (suc k) [] are = tt
drop_bytes (suc k) (b ∷ bytes) are = drop_bytes k bytes are.1

unquoted_bytes : (quote : ℕ) (bytes : List ℕ) → AreBytes bytes → AreBytes (unquoted quote bytes)
unquoted_bytes quote [] are = tt
unquoted_bytes quote (b ∷ []) are = cond_both (b == quote) [] (b ∷ []) AreBytes (λ e. tt) (λ e. are)
unquoted_bytes quote (b ∷ c ∷ rest) are =
    cond_both (b == quote) (if c == quote then quote ∷ unquoted quote rest else []) (b ∷ unquoted quote (c ∷ rest)) AreBytes
    (λ e. cond_both (c == quote) (quote ∷ unquoted quote rest) [] AreBytes (λ f. (grind (arith, nat_tests), unquoted_bytes quote rest are.1.1)) (λ f. tt))
    (λ e. (are.0, unquoted_bytes quote (c ∷ rest) are.1))

upper_byte : (c : ℕ) → c < 256 → to_ascii_uppercase c < 256
upper_byte c small = grind (arith, nat_tests)

upper_case_bytes : (bytes : List ℕ) → AreBytes bytes → AreBytes (in_upper_case bytes)
upper_case_bytes [] are = tt
upper_case_bytes (b ∷ bytes) are = (upper_byte b are.0, upper_case_bytes bytes are.1)

named_bytes : (bytes : List ℕ) → AreBytes bytes → AreBytes (name_of_bytes bytes)
named_bytes [] are = tt
named_bytes (b ∷ rest) are =
    cond_both (b == 34) (unquoted 34 rest) (in_upper_case (b ∷ rest)) AreBytes (λ e. unquoted_bytes 34 rest are.1) (λ e. upper_case_bytes (b ∷ rest) are)

name_bytes : (text : List ℕ) (lexeme : Lexeme) → AreBytes text → AreBytes (name_of text lexeme)
unfolding name_of
name_bytes text lexeme are =
    named_bytes (slice text lexeme.start lexeme.end) (take_bytes (lexeme.end - lexeme.start) (drop lexeme.start text) (drop_bytes lexeme.start text are))

-- ---- schemas

abbrev HasByteName : Column → Type 0
HasByteName column = AreBytes column.name

abbrev HasByteNames : Table → Type 0
HasByteNames table = All HasByteName table.columns

columns_bytes : (text : List ℕ) (elements : List Element) → AreBytes text → All HasByteName (flat_map (element_column text) elements)
columns_bytes text [] are k d lt = absurd (omega arith)
columns_bytes text (element.Column column ∷ elements) are zero d lt = name_bytes text column.name are
columns_bytes text (element.Column column ∷ elements) are (suc k) d lt = columns_bytes text elements are k d (omega arith)
columns_bytes text (element.Rule rule ∷ elements) are k d lt = columns_bytes text elements are k d lt

tables_bytes : (text : List ℕ) (tables some : List TableNode) → AreBytes text → All HasByteNames (map (table_of text tables) some)
unfolding table_of
tables_bytes text tables [] are k d lt = absurd (omega arith)
tables_bytes text tables (table ∷ some) are zero d lt = columns_bytes text table.elements are
tables_bytes text tables (table ∷ some) are (suc k) d lt = tables_bytes text tables some are k d (omega arith)

schema_bytes : (text : List ℕ) (tables : List TableNode) → AreBytes text → HasByteColumns (schema_of text tables)
unfolding schema_of
schema_bytes text tables are = tables_bytes text tables tables are

rest_if_not_found : (found : Option ℕ) (cause : ℕ → SchemaError) (rest : Result Schema SchemaError) (schema : Schema) → unless_found found cause rest ≡ Ok schema → rest ≡ Ok schema
rest_if_not_found None cause rest schema e = e
rest_if_not_found (Some n) cause rest schema e = absurd (cc)

same_schema : (a b : Schema) → ◌≡◌ {A = Result Schema SchemaError} (Ok a) (Ok b) → a ≡ b
same_schema a b e = cc

pub declared_bytes : (text : List ℕ) (schema : Schema) → Declares text (Ok schema) → HasByteColumns schema
unfolding schema_or_refusal if_within_limits
declared_bytes text schema d =
    let named = rest_if_not_found (first (offences text d.tables)) _ _ schema d.answers in
    let full = rest_if_not_found (first (nullable_offsets text d.tables)) _ _ schema named in
    let few = rest_if_not_found (first (numbers_above 64 (length d.tables ∷ []))) _ _ schema full in
    let counts = rest_if_not_found (first (numbers_above 64 (column_counts d.tables))) _ _ schema few in
    let short = rest_if_not_found (first (numbers_above 1000000 (text_lengths text d.tables))) _ _ schema counts in
    subst HasByteColumns (same_schema (schema_of text d.tables) schema short) (schema_bytes text d.tables (utf8_bytes text d.spells.lexed.utf8))
