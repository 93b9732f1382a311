-- The schema of a text is valid.
use Rattle.std.proofs.Common.{◌≡◌, ◌≢◌, ℕ, zero, suc, ◌+◌, ◌<◌, ◌≤◌, Bool, true, false, not, ◌||◌, List, [], ◌∷◌, ◌++◌, length, get_or, map, is_none, Result, Ok, Err, All, refl, sym, ◌∙◌, ap, subst, append_assoc, arith}
use Rattle.std.specs.Prelude.{IfOk, nat_lt}
use Rattle.std.proofs.lemmas.List.{append-nil, length-map, map-append}
use Rattle.std.proofs.lemmas.List.Concat.{flat_map-append}
use Rattle.std.proofs.lemmas.List.Elements.{All-nil, All-cons, All-map, filter-append}
use Rattle.std.proofs.lemmas.List.Quantifiers.{all_pairs_push}
use Rattle.std.proofs.lemmas.Bool.{or_parts}
use Rattle.std.proofs.lemmas.Slice.Eq.{bytes_eq-Decides}
use Rattle.std.specs.Str.{bytes_eq}
use Rattle.ll_grammars.specs.declared.lexeme.Lexeme.{Lexeme}
use Rattle.schema_grammar.specs.declared.tree.TableConstraintNode.{TableConstraintNode}
use Rattle.schema_grammar.specs.declared.tree.TableConstraintNode.TheVariants as table_rule
use Rattle.schema_grammar.specs.declared.tree.Element.{Element}
use Rattle.schema_grammar.specs.declared.tree.Element.TheVariants as element
use Rattle.schema_grammar.specs.declared.tree.TableNode.{TableNode}
use Rattle.sql_tokens.specs.Words.{name_of}
use Rattle.schema_types.specs.declared.types.Schema.{Schema}
use Rattle.schema_types.specs.declared.errors.SchemaError.{SchemaError}
use Rattle.schema_types.specs.Declarations.{columns, column_names, table_names}
use Rattle.schema_types.specs.Meaning.{table_of, schema_of, unless_found, if_within_limits, schema_or_refusal}
use Rattle.schema_types.specs.Names.{first, list_if, index_of_name, flat_map_with_earlier, flat_map_with_all_earlier}
use Rattle.schema_types.specs.Offences.{is_taken, listed_offences, list_offences, column_offences, table_rule_offences, element_offences, table_offences, target_offences, offences}
use Rattle.schema_types.specs.Refusals.{numbers_above, column_counts, nullable_offsets, text_lengths}
use Rattle.schema_types.specs.Texts.{Declares, IsSchemaOf}
use Rattle.schema_types.specs.Validity.{upper_case, NamesAreDifferent, has_only_word_bytes, IsReference, IsValidTable, IsValid}
use Rattle.schema_types.proofs.Above.{empty_left, empty_right, not_above}
use Rattle.schema_types.proofs.Bounds.{names_of_columns, count_of_columns, keys_valid, references_valid, HasColumns}
use Rattle.schema_types.proofs.Filled.{IsNotEmpty, ConstraintHasColumns, FirstElementHasColumns, TableHasColumns, AreTablesWithColumns, tables_have_columns}

-- ---- lists without offences

when_none : (b : Bool) (n : ℕ) → list_if b n ≡ [] → b ≡ false
when_none true n e = cc
when_none false n e = refl

nothing_found_here : {X : Type 0} (f : List X → X → List ℕ) (earlier : List X) (x : X) (rest : List X) → flat_map_with_earlier f earlier (x ∷ rest) ≡ [] → f earlier x ≡ []
unfolding flat_map_with_earlier
nothing_found_here f earlier x rest none = empty_left (f earlier x) (flat_map_with_earlier f (earlier ++ x ∷ []) rest) none

nothing_found_later : {X : Type 0} (f : List X → X → List ℕ) (earlier : List X) (x : X) (rest : List X) → flat_map_with_earlier f earlier (x ∷ rest) ≡ [] → flat_map_with_earlier f (earlier ++ x ∷ []) rest ≡ []
unfolding flat_map_with_earlier
nothing_found_later f earlier x rest none = empty_right (f earlier x) (flat_map_with_earlier f (earlier ++ x ∷ []) rest) none

all_without_offences : {X : Type 0} (f : List X → X → List ℕ) (P : X → Type 0) → ((earlier : List X) (x : X) → f earlier x ≡ [] → P x) → (earlier xs : List X) → flat_map_with_earlier f earlier xs ≡ [] → All P xs
all_without_offences f P step earlier [] none = All-nil P
all_without_offences f P step earlier (x ∷ xs) none =
    All-cons P x xs (step earlier x (nothing_found_here f earlier x xs none)) (all_without_offences f P step (earlier ++ x ∷ []) xs (nothing_found_later f earlier x xs none))

-- ---- different names

untaken : (name : List ℕ) (names : List (List ℕ)) → is_taken name names ≡ false → (k : ℕ) (d : List ℕ) → k < length names → upper_case (get_or names k d) ≢ upper_case name
untaken name [] free k d h = absurd (omega arith)
untaken name (other ∷ names) free zero d h =
    let parts = or_parts (bytes_eq (upper_case name) (upper_case other)) (is_taken name names) free in
    λ e. (let same : bytes_eq (upper_case name) (upper_case other) ≡ true = (bytes_eq-Decides (upper_case name) (upper_case other)).1 (sym e) in let no = parts.0 in cc)
untaken name (other ∷ names) free (suc k) d h =
    untaken name names (or_parts (bytes_eq (upper_case name) (upper_case other)) (is_taken name names) free).1 k d (omega arith)

differ_push : (names : List (List ℕ)) (name : List ℕ) → NamesAreDifferent names → is_taken name names ≡ false → NamesAreDifferent (names ++ name ∷ [])
differ_push names name differ free = all_pairs_push (λ a b. upper_case a ≢ upper_case b) names name differ (untaken name names free)

differ_none : NamesAreDifferent []
differ_none = λ i j d below within. absurd (omega arith)

columns_push : (text : List ℕ) (earlier : List Element) (x : Element) → column_names text (earlier ++ x ∷ []) ≡ column_names text earlier ++ column_names text (x ∷ [])
columns_push text earlier x = simp (flat_map-append, map-append)

differ_after : (text : List ℕ) (tables : List TableNode) (declared : List (List ℕ)) (earlier : List Element) (x : Element) → NamesAreDifferent (column_names text earlier) → element_offences text tables declared earlier x ≡ [] → NamesAreDifferent (column_names text earlier ++ column_names text (x ∷ []))
unfolding element_offences column_offences
differ_after text tables declared earlier (element.Column column) differ none =
    let free : is_taken (name_of text column.name) (column_names text earlier) ≡ false = when_none _ column.name.start (empty_left _ _ none) in
    differ_push (column_names text earlier) (name_of text column.name) differ free
differ_after text tables declared earlier (element.Rule rule) differ none = subst NamesAreDifferent (sym (append-nil (column_names text earlier))) differ

columns_differ : (text : List ℕ) (tables : List TableNode) (declared : List (List ℕ)) (earlier rest : List Element) → flat_map_with_earlier (element_offences text tables declared) earlier rest ≡ [] → NamesAreDifferent (column_names text earlier) → NamesAreDifferent (column_names text (earlier ++ rest))
columns_differ text tables declared earlier [] none differ = subst (λ elements. NamesAreDifferent (column_names text elements)) (sym (append-nil earlier)) differ
columns_differ text tables declared earlier (x ∷ rest) none differ =
    subst (λ elements. NamesAreDifferent (column_names text elements)) (append_assoc earlier (x ∷ []) rest)
    (columns_differ text tables declared (earlier ++ x ∷ []) rest (nothing_found_later (element_offences text tables declared) earlier x rest none)
    (subst NamesAreDifferent (sym (columns_push text earlier x)) (differ_after text tables declared earlier x differ (nothing_found_here (element_offences text tables declared) earlier x rest none))))

tables_push : (text : List ℕ) (earlier : List TableNode) (x : TableNode) → table_names text (earlier ++ x ∷ []) ≡ table_names text earlier ++ name_of text x.name ∷ []
tables_push text earlier x = simp map-append

table_free : (text : List ℕ) (tables earlier : List TableNode) (x : TableNode) → table_offences text tables earlier x ≡ [] → (has_only_word_bytes (name_of text x.name) ≡ true) × (is_taken (name_of text x.name) (table_names text earlier) ≡ false)
unfolding table_offences
table_free text tables earlier x none =
    let parts = or_parts (not (has_only_word_bytes (name_of text x.name))) (is_taken (name_of text x.name) (table_names text earlier)) (when_none _ x.name.start (empty_left _ _ none)) in
    (not_not (has_only_word_bytes (name_of text x.name)) parts.0, parts.1)
  where
    not_not : (b : Bool) → not b ≡ false → b ≡ true
    not_not true e = refl
    not_not false e = cc

tables_differ : (text : List ℕ) (tables earlier rest : List TableNode) → flat_map_with_earlier (table_offences text tables) earlier rest ≡ [] → NamesAreDifferent (table_names text earlier) → NamesAreDifferent (table_names text (earlier ++ rest))
tables_differ text tables earlier [] none differ = subst (λ ts. NamesAreDifferent (table_names text ts)) (sym (append-nil earlier)) differ
tables_differ text tables earlier (x ∷ rest) none differ =
    subst (λ ts. NamesAreDifferent (table_names text ts)) (append_assoc earlier (x ∷ []) rest)
    (tables_differ text tables (earlier ++ x ∷ []) rest (nothing_found_later (table_offences text tables) earlier x rest none)
    (subst NamesAreDifferent (sym (tables_push text earlier x))
    (differ_push (table_names text earlier) (name_of text x.name) differ (table_free text tables earlier x (nothing_found_here (table_offences text tables) earlier x rest none)).1)))

-- ---- a table has columns

no_place : (name : List ℕ) → is_none (index_of_name [] name) ≡ true
unfolding index_of_name
no_place name = refl

not_empty_if_found : (names : List (List ℕ)) (name : List ℕ) → is_none (index_of_name names name) ≡ false → 0 < length names
not_empty_if_found [] name found = let none : is_none (index_of_name [] name) ≡ true = no_place name in cc
not_empty_if_found (other ∷ names) name found = omega arith

declared_if_listed : (text : List ℕ) (declared : List (List ℕ)) (tokens : List Lexeme) → IsNotEmpty tokens → list_offences text declared tokens ≡ [] → 0 < length declared
unfolding list_offences listed_offences
declared_if_listed text declared [] is none = absurd is
declared_if_listed text declared (token ∷ tokens) is none =
    let parts = or_parts (is_none (index_of_name declared (name_of text token))) _ (when_none _ token.start (nothing_found_here (listed_offences text declared) [] token tokens none)) in
    not_empty_if_found declared (name_of text token) parts.0

declared_if_constrained : (text : List ℕ) (tables : List TableNode) (declared : List (List ℕ)) (rule : TableConstraintNode) → ConstraintHasColumns rule → table_rule_offences text tables declared [] rule ≡ [] → 0 < length declared
unfolding table_rule_offences
declared_if_constrained text tables declared (table_rule.PrimaryKey word listed) is none = declared_if_listed text declared listed is none
declared_if_constrained text tables declared (table_rule.Unique listed) is none = declared_if_listed text declared listed is none
declared_if_constrained text tables declared (table_rule.ForeignKey listed target) is none = declared_if_listed text declared listed is (empty_left (list_offences text declared listed) (target_offences text tables (length listed) target) none)

declared_if_first : (text : List ℕ) (tables : List TableNode) (declared : List (List ℕ)) (elements : List Element) → FirstElementHasColumns elements → declared ≡ column_names text elements → flat_map_with_all_earlier (element_offences text tables declared) elements ≡ [] → 0 < length declared
unfolding element_offences
declared_if_first text tables declared [] is same none = absurd is
declared_if_first text tables declared (element.Column column ∷ rest) is same none = rw same (omega arith)
declared_if_first text tables declared (element.Rule rule ∷ rest) is same none =
    declared_if_constrained text tables declared rule is (nothing_found_here (element_offences text tables declared) [] (element.Rule rule) rest none)

-- ---- facts about each table

record TableFacts (text : List ℕ) (table : TableNode) : Type 0 where
  plain : has_only_word_bytes (name_of text table.name) ≡ true
  some : TableHasColumns table → HasColumns text table
  differ : NamesAreDifferent (column_names text table.elements)

elements_clean : (text : List ℕ) (tables earlier : List TableNode) (x : TableNode) → table_offences text tables earlier x ≡ [] → flat_map_with_all_earlier (element_offences text tables (column_names text x.elements)) x.elements ≡ []
unfolding table_offences
elements_clean text tables earlier x none =
    empty_right (list_if (not (has_only_word_bytes (name_of text x.name)) || is_taken (name_of text x.name) (table_names text earlier)) x.name.start) (flat_map_with_all_earlier (element_offences text tables (column_names text x.elements)) x.elements) none

table_facts : (text : List ℕ) (tables earlier : List TableNode) (x : TableNode) → table_offences text tables earlier x ≡ [] → TableFacts text x
unfolding table_offences
table_facts text tables earlier x none = record {
  plain = (table_free text tables earlier x none).0;
  some = λ is. declared_if_first text tables (column_names text x.elements) x.elements is refl (elements_clean text tables earlier x none);
  differ = columns_differ text tables (column_names text x.elements) [] x.elements (elements_clean text tables earlier x none) differ_none;
}

all_counts : (tables : List TableNode) → numbers_above 64 (column_counts tables) ≡ [] → All (λ table. length (columns table.elements) ≤ 64) tables
all_counts [] none = All-nil (λ (table : TableNode). length (columns table.elements) ≤ 64)
all_counts (table ∷ tables) none =
    let parts : numbers_above 64 (column_counts (table ∷ tables)) ≡ numbers_above 64 (length (columns table.elements) ∷ []) ++ numbers_above 64 (column_counts tables) = filter-append (nat_lt 64) (length (columns table.elements) ∷ []) (column_counts tables) in
    All-cons (λ (table : TableNode). length (columns table.elements) ≤ 64) table tables
    (not_above 64 (length (columns table.elements)) (empty_left (numbers_above 64 (length (columns table.elements) ∷ [])) (numbers_above 64 (column_counts tables)) (sym parts ∙ none)))
    (all_counts tables (empty_right (numbers_above 64 (length (columns table.elements) ∷ [])) (numbers_above 64 (column_counts tables)) (sym parts ∙ none)))

table_valid : (text : List ℕ) (tables : List TableNode) (table : TableNode) → TableFacts text table → TableHasColumns table → length (columns table.elements) ≤ 64 → IsValidTable (table_of text tables table)
unfolding table_of
table_valid text tables table facts is few = record {
  some = rw (count_of_columns text table.elements) (facts.some is);
  few = rw (count_of_columns text table.elements) (simp length-map few);
  plain = facts.plain;
  names = subst NamesAreDifferent (sym (names_of_columns text table.elements)) facts.differ;
  keys = keys_valid text tables table (facts.some is);
}

-- ---- the schema

filled_some : {A : Type 0} (xs : List A) → IsNotEmpty xs → 0 < length xs
filled_some [] is = absurd is
filled_some (x ∷ xs) is = omega arith

names_of_tables : (text : List ℕ) (tables listed : List TableNode) → map (λ table. table.name) (map (table_of text tables) listed) ≡ table_names text listed
unfolding table_of
names_of_tables text tables [] = refl
names_of_tables text tables (table ∷ listed) = ap (λ rest. name_of text table.name ∷ rest) (names_of_tables text tables listed)

schema_valid : (text : List ℕ) (tables : List TableNode) → AreTablesWithColumns tables → offences text tables ≡ [] → numbers_above 64 (length tables ∷ []) ≡ [] → numbers_above 64 (column_counts tables) ≡ [] → IsValid (schema_of text tables)
unfolding schema_of offences
schema_valid text tables are none few counts =
    let facts : All (TableFacts text) tables = all_without_offences (table_offences text tables) (TableFacts text) (table_facts text tables) [] tables none in
    let counted : All (λ table. length (columns table.elements) ≤ 64) tables = all_counts tables counts in
    let some : All (HasColumns text) tables = λ k d h. (facts k d h).some (are.1 k d h) in
    record {
      some = rw length-map (filled_some tables are.0);
      few = rw length-map (not_above 64 (length tables) few);
      tables = All-map IsValidTable (table_of text tables) tables (λ k d h. table_valid text tables (get_or tables k d) (facts k d h) (are.1 k d h) (counted k d h));
      names = subst NamesAreDifferent (sym (names_of_tables text tables tables)) (tables_differ text tables [] tables none differ_none);
      references = All-map (λ table. All (IsReference (map (table_of text tables) tables) table) table.references) (table_of text tables) tables
          (λ k d h. references_valid text tables (get_or tables k d) (filled_some tables are.0) some (some k d h));
    }

nothing_found_if_ok : (found : List ℕ) (cause : ℕ → SchemaError) (rest : Result Schema SchemaError) (schema : Schema) → unless_found (first found) cause rest ≡ Ok schema → (found ≡ []) × (rest ≡ Ok schema)
nothing_found_if_ok [] cause rest schema e = (refl, e)
nothing_found_if_ok (n ∷ found) cause rest schema e = cc

same_schema : (a b : Schema) → ◌≡◌ {A = Result Schema SchemaError} (Ok a) (Ok b) → a ≡ b
same_schema a b e = cc

pub declares_valid : (text : List ℕ) (schema : Schema) → Declares text (Ok schema) → IsValid schema
unfolding schema_or_refusal if_within_limits
declares_valid text schema d =
    let named = nothing_found_if_ok (offences text d.tables) _ _ schema d.answers in
    let full = nothing_found_if_ok (nullable_offsets text d.tables) _ _ schema named.1 in
    let few = nothing_found_if_ok (numbers_above 64 (length d.tables ∷ [])) _ _ schema full.1 in
    let counts = nothing_found_if_ok (numbers_above 64 (column_counts d.tables)) _ _ schema few.1 in
    let short = nothing_found_if_ok (numbers_above 1000000 (text_lengths text d.tables)) _ _ schema counts.1 in
    subst IsValid (same_schema (schema_of text d.tables) schema short.1)
    (schema_valid text d.tables (tables_have_columns _ d.tables d.spells.spelled) named.0 few.0 counts.0)

pub answers_valid : (text : List ℕ) (answer : Result Schema SchemaError) → IsSchemaOf text answer → IfOk answer IsValid
answers_valid text (Ok schema) is = declares_valid text schema is
answers_valid text (Err cause) is = tt
