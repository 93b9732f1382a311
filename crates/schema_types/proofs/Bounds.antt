-- Keys and references of a schema give columns by their numbers. Each of these numbers is less than the number of columns of its table.
use Rattle.std.proofs.Common.{◌≡◌, ℕ, zero, suc, ◌<◌, List, [], ◌∷◌, length, map, Option, Some, None, All, refl, sym, ◌∙◌, ap, subst, arith}
use Rattle.std.specs.List.{flat_map, slice_get}
use Rattle.std.specs.Option.{unwrap_or, option_map, option_and_then}
use Rattle.std.proofs.lemmas.List.{length-map}
use Rattle.std.proofs.lemmas.List.Elements.{All-nil, All-cons, All-append, All-map, All-same}
use Rattle.std.proofs.lemmas.Option.{slice_get-map, slice_get_within, get_or_from_slice_get}
use Rattle.ll_grammars.specs.declared.lexeme.Lexeme.{Lexeme}
use Rattle.schema_grammar.specs.declared.tree.TargetNode.{TargetNode}
use Rattle.schema_grammar.specs.declared.tree.ColumnConstraintNode.{ColumnConstraintNode}
use Rattle.schema_grammar.specs.declared.tree.ColumnConstraintNode.TheVariants as column_rule
use Rattle.schema_grammar.specs.declared.tree.TableConstraintNode.TheVariants as table_rule
use Rattle.schema_grammar.specs.declared.tree.Element.{Element}
use Rattle.schema_grammar.specs.declared.tree.Element.TheVariants as element
use Rattle.schema_grammar.specs.declared.tree.TableNode.{TableNode}
use Rattle.schema_types.specs.declared.types.Table.{Table}
use Rattle.schema_types.specs.Declarations.{columns, column_names, referenced_columns, target_number, table_names}
use Rattle.schema_types.specs.Meaning.{column_of, element_column, rule_keys, element_keys, target_column_numbers, reference_of, rule_references, element_references, table_of}
use Rattle.schema_types.specs.Names.{index_of_name}
use Rattle.schema_types.specs.Numbers.{number_of_name, number_of_column, numbers_of_columns}
use Rattle.schema_types.specs.Validity.{AreColumnsOf, IsReference}
use Rattle.schema_types.proofs.NameIndexes.{place_of_within}

-- ---- the columns of a table

pub names_of_columns : (text : List ℕ) (elements : List Element) → map (λ column. column.name) (flat_map (element_column text) elements) ≡ column_names text elements
names_of_columns text [] = refl
names_of_columns text (element.Column column ∷ elements) = ap (λ rest. (column_of text column).name ∷ rest) (names_of_columns text elements)
names_of_columns text (element.Rule rule ∷ elements) = names_of_columns text elements

pub count_of_columns : (text : List ℕ) (elements : List Element) → length (flat_map (element_column text) elements) ≡ length (column_names text elements)
count_of_columns text elements = sym (length-map (flat_map (element_column text) elements) (λ column. column.name)) ∙ ap length (names_of_columns text elements)

-- ---- numbers of named columns

number_within : (declared : List (List ℕ)) (name : List ℕ) → 0 < length declared → number_of_name declared name < length declared
number_within declared name some = at (index_of_name declared name) (place_of_within declared name)
  where
    at : (o : Option ℕ) → ((p : ℕ) → o ≡ Some p → p < length declared) → unwrap_or o 0 < length declared
    at None inside = some
    at (Some p) inside = inside p refl

numbers_within : (text : List ℕ) (declared : List (List ℕ)) (tokens : List Lexeme) → 0 < length declared → All (λ n. n < length declared) (numbers_of_columns text declared tokens)
unfolding numbers_of_columns
numbers_within text declared tokens some = All-map (λ n. n < length declared) (number_of_column text declared) tokens (λ k d h. number_within declared _ some)

all_flat_map : {X A : Type 0} (P : A → Type 0) (f : X → List A) → ((x : X) → All P (f x)) → (xs : List X) → All P (flat_map f xs)
all_flat_map P f each [] = All-nil P
all_flat_map P f each (x ∷ xs) = All-append P (f x) (flat_map f xs) (each x) (all_flat_map P f each xs)

-- ---- keys

abbrev AreBelow : ℕ → List ℕ → Type 0
AreBelow count numbers = All (λ n. n < count) numbers

rule_keys_within : (count number : ℕ) (rule : ColumnConstraintNode) → number < count → All (AreBelow count) (rule_keys number rule)
rule_keys_within count number column_rule.NotNull h = All-nil (AreBelow count)
rule_keys_within count number (column_rule.PrimaryKey word) h = All-cons (AreBelow count) (number ∷ []) [] (All-cons (λ n. n < count) number [] h (All-nil (λ n. n < count))) (All-nil (AreBelow count))
rule_keys_within count number column_rule.Unique h = All-cons (AreBelow count) (number ∷ []) [] (All-cons (λ n. n < count) number [] h (All-nil (λ n. n < count))) (All-nil (AreBelow count))
rule_keys_within count number (column_rule.References target) h = All-nil (AreBelow count)

element_keys_within : (text : List ℕ) (declared : List (List ℕ)) (e : Element) → 0 < length declared → All (AreBelow (length declared)) (element_keys text declared e)
element_keys_within text declared (element.Column column) some =
    all_flat_map (AreBelow (length declared)) (rule_keys (number_of_column text declared column.name)) (λ rule. rule_keys_within (length declared) (number_of_column text declared column.name) rule (number_within declared _ some)) column.rules
element_keys_within text declared (element.Rule (table_rule.PrimaryKey word columns)) some =
    All-cons (AreBelow (length declared)) (numbers_of_columns text declared columns) [] (numbers_within text declared columns some) (All-nil (AreBelow (length declared)))
element_keys_within text declared (element.Rule (table_rule.Unique columns)) some =
    All-cons (AreBelow (length declared)) (numbers_of_columns text declared columns) [] (numbers_within text declared columns some) (All-nil (AreBelow (length declared)))
element_keys_within text declared (element.Rule (table_rule.ForeignKey columns target)) some = All-nil (AreBelow (length declared))

pub keys_valid : (text : List ℕ) (tables : List TableNode) (table : TableNode) → 0 < length (column_names text table.elements) → All (AreColumnsOf (table_of text tables table)) (table_of text tables table).keys
unfolding table_of
keys_valid text tables table some =
    rw (count_of_columns text table.elements)
    (all_flat_map (AreBelow (length (column_names text table.elements))) (element_keys text (column_names text table.elements)) (λ e. element_keys_within text (column_names text table.elements) e some) table.elements)

-- ---- references

abbrev pub HasColumns : List ℕ → TableNode → Type 0
HasColumns text table = 0 < length (column_names text table.elements)

resolved_within : (text : List ℕ) (declared : List (List ℕ)) (chosen : Option (List Lexeme)) → 0 < length declared → AreBelow (length declared) (unwrap_or (option_map (numbers_of_columns text declared) chosen) [])
resolved_within text declared None some = All-nil (λ n. n < length declared)
resolved_within text declared (Some tokens) some = numbers_within text declared tokens some

reference_to : (text : List ℕ) (tables : List TableNode) (table : Table) (from : List ℕ) (written : Option (List Lexeme)) (place : ℕ) (target : TableNode) → AreColumnsOf table from → slice_get tables place ≡ Some target → HasColumns text target → IsReference (map (table_of text tables) tables) table (record { columns = from; table = place; targets = target_column_numbers text written (Some target) })
unfolding table_of
reference_to text tables table from written place target within here some = record {
  columns = within;
  target = table_of text tables target;
  exists = slice_get-map (table_of text tables) tables place ∙ ap (option_map (table_of text tables)) here;
  targets = rw (count_of_columns text target.elements) (resolved_within text (column_names text target.elements) (referenced_columns written target.elements) some);
}

reference_to_none : (text : List ℕ) (tables : List TableNode) (table : Table) (from : List ℕ) (first : TableNode) → AreColumnsOf table from → slice_get tables 0 ≡ Some first → IsReference (map (table_of text tables) tables) table (record { columns = from; table = 0; targets = [] })
reference_to_none text tables table from first within here = record {
  columns = within;
  target = table_of text tables first;
  exists = slice_get-map (table_of text tables) tables 0 ∙ ap (option_map (table_of text tables)) here;
  targets = All-nil (λ n. n < length (table_of text tables first).columns);
}

some_at : {X : Type 0} (xs : List X) (i : ℕ) → i < length xs → (x : X) × (slice_get xs i ≡ Some x)
some_at [] i h = absurd (omega arith)
some_at (x ∷ xs) zero h = (x, refl)
some_at (x ∷ xs) (suc i) h = some_at xs i (omega arith)

has_columns_at : (text : List ℕ) (tables : List TableNode) (place : ℕ) (target : TableNode) → All (HasColumns text) tables → slice_get tables place ≡ Some target → HasColumns text target
has_columns_at text tables place target all here = subst (HasColumns text) (get_or_from_slice_get tables place target target here) (all place target (slice_get_within tables place target here))

reference_valid : (text : List ℕ) (tables : List TableNode) (table : Table) (from : List ℕ) (target : TargetNode) → 0 < length tables → All (HasColumns text) tables → AreColumnsOf table from → IsReference (map (table_of text tables) tables) table (reference_of text tables from target)
unfolding reference_of
reference_valid text tables table from target some all within = at (target_number text tables target) (place_of_within (table_names text tables) _)
  where
    at : (o : Option ℕ) → ((p : ℕ) → o ≡ Some p → p < length (table_names text tables)) → IsReference (map (table_of text tables) tables) table (record { columns = from; table = unwrap_or o 0; targets = target_column_numbers text target.columns (option_and_then (slice_get tables) o) })
    at None inside = let first = some_at tables 0 some in reference_to_none text tables table from first.0 within first.1
    at (Some p) inside =
        let here = some_at tables p (simp (length-map) at (inside p refl)) in
        rw here.1 (reference_to text tables table from target.columns p here.0 within here.1 (has_columns_at text tables p here.0 all here.1))

element_references_valid : (text : List ℕ) (tables : List TableNode) (table : Table) (declared : List (List ℕ)) (e : Element) → 0 < length tables → All (HasColumns text) tables → 0 < length declared → length table.columns ≡ length declared → All (IsReference (map (table_of text tables) tables) table) (element_references text tables declared e)
element_references_valid text tables table declared (element.Column column) some all columns same =
    all_flat_map (IsReference (map (table_of text tables) tables) table) (rule_references text tables (number_of_column text declared column.name)) of_rule column.rules
  where
    of_rule : (rule : ColumnConstraintNode) → All (IsReference (map (table_of text tables) tables) table) (rule_references text tables (number_of_column text declared column.name) rule)
    of_rule column_rule.NotNull = All-nil (IsReference (map (table_of text tables) tables) table)
    of_rule (column_rule.PrimaryKey word) = All-nil (IsReference (map (table_of text tables) tables) table)
    of_rule column_rule.Unique = All-nil (IsReference (map (table_of text tables) tables) table)
    of_rule (column_rule.References target) =
        All-cons (IsReference (map (table_of text tables) tables) table) (reference_of text tables (number_of_column text declared column.name ∷ []) target) []
        (reference_valid text tables table (number_of_column text declared column.name ∷ []) target some all (rw same (All-cons (λ n. n < length declared) (number_of_column text declared column.name) [] (number_within declared _ columns) (All-nil (λ n. n < length declared)))))
        (All-nil (IsReference (map (table_of text tables) tables) table))
element_references_valid text tables table declared (element.Rule (table_rule.PrimaryKey word listed)) some all columns same = All-nil (IsReference (map (table_of text tables) tables) table)
element_references_valid text tables table declared (element.Rule (table_rule.Unique listed)) some all columns same = All-nil (IsReference (map (table_of text tables) tables) table)
element_references_valid text tables table declared (element.Rule (table_rule.ForeignKey listed target)) some all columns same =
    All-cons (IsReference (map (table_of text tables) tables) table) (reference_of text tables (numbers_of_columns text declared listed) target) []
    (reference_valid text tables table (numbers_of_columns text declared listed) target some all (rw same (numbers_within text declared listed columns)))
    (All-nil (IsReference (map (table_of text tables) tables) table))

column_counts_agree : (text : List ℕ) (tables : List TableNode) (table : TableNode) → length (table_of text tables table).columns ≡ length (column_names text table.elements)
unfolding table_of
column_counts_agree text tables table = count_of_columns text table.elements

listed_references : (text : List ℕ) (tables : List TableNode) (table : TableNode) → (table_of text tables table).references ≡ flat_map (element_references text tables (column_names text table.elements)) table.elements
unfolding table_of
listed_references text tables table = refl

pub references_valid : (text : List ℕ) (tables : List TableNode) (table : TableNode) → 0 < length tables → All (HasColumns text) tables → HasColumns text table → All (IsReference (map (table_of text tables) tables) (table_of text tables table)) (table_of text tables table).references
references_valid text tables table some all filled = of_table (table_of text tables table) (column_counts_agree text tables table) (listed_references text tables table)
  where
    of_table : (t : Table) → length t.columns ≡ length (column_names text table.elements) → t.references ≡ flat_map (element_references text tables (column_names text table.elements)) table.elements → All (IsReference (map (table_of text tables) tables) t) t.references
    of_table t same is = All-same (IsReference (map (table_of text tables) tables) t) t.references (flat_map (element_references text tables (column_names text table.elements)) table.elements) is (all_flat_map (IsReference (map (table_of text tables) tables) t) (element_references text tables (column_names text table.elements)) (λ e. element_references_valid text tables t (column_names text table.elements) e some all filled same) table.elements)
