-- If a reference is resolved to a column, the column exists, and so do its entry and its table.
use Rattle.std.proofs.Common.{◌≡◌, ℕ, zero, suc, ◌+◌, ◌-◌, Bool, true, false, cond, List, [], ◌∷◌, take, drop, Option, Some, None, ap, sym, ◌∙◌, refl, arith}
use Rattle.std.specs.Prelude.{option_map, option_and_then, slice_get, slice_range}
use Rattle.std.specs.List.{filter_map, cons_option}
use Rattle.ll_grammars.specs.declared.lexeme.Lexeme.{Lexeme}
use Rattle.sql_tokens.specs.Words.{name_of}
use Rattle.query_grammar.specs.declared.tree.ColumnNode.{ColumnNode}
use Rattle.schema_types.specs.declared.types.Column.{Column}
use Rattle.schema_types.specs.declared.types.Table.{Table}
use Rattle.schema_types.specs.declared.types.Schema.{Schema}
use Rattle.query_names.specs.declared.scope.Entry.{Entry}
use Rattle.query_names.specs.declared.scope.EntryColumn.{EntryColumn}
use Rattle.query_names.specs.declared.scope.Scope.{Scope}
use Rattle.query_types.specs.declared.types.Source.{Source}
use Rattle.schema_types.specs.Names.{index_of_name}
use Rattle.query_names.specs.Names.{column_in, column_named, column_at, column_names, aliases}
use Rattle.query_names.specs.Scopes.{single_member, in_scope, numbered, is_in, entry_at, entry_named, column_without_alias, resolved, resolve}

pub record IsEntry (from : List Source) (entry : Entry) : Type 0 where
  pub source : Source
  pub there : slice_get from entry.number ≡ Some source
  pub same : source.table ≡ entry.table

pub record ColumnExists (schema : Schema) (from : List Source) (found : EntryColumn) : Type 0 where
  pub source : Source
  pub entry : slice_get from found.from ≡ Some source
  pub table : Table
  pub exists : slice_get schema.tables source.table ≡ Some table
  pub column : Column
  pub declared : slice_get table.columns found.column ≡ Some column
  pub kind : column.kind ≡ found.kind

column_exists : (schema : Schema) (from : List Source) (name : List ℕ) (entry : Entry) (found : EntryColumn) → IsEntry from entry → column_in schema name entry ≡ Some found → ColumnExists schema from found
unfolding column_in
column_exists schema from name entry found is here = at_table (slice_get schema.tables entry.table) refl here where
  at_column : (table : Table) (number : ℕ) (column : Option Column) → slice_get schema.tables entry.table ≡ Some table → column ≡ slice_get table.columns number
      → option_map (λ c. record { from = entry.number; column = number; kind = c.kind }) column ≡ Some found → ColumnExists schema from found
  at_column table number None exists declared same = absurd cc
  at_column table number (Some column) exists declared same =
      let whole : record { from = entry.number; column = number; kind = column.kind } ≡ found = cc in
      let from_is : entry.number ≡ found.from = ap (λ (f : EntryColumn). f.from) whole in
      let column_is : number ≡ found.column = ap (λ (f : EntryColumn). f.column) whole in
      record {
        source = is.source;
        entry = ap (slice_get from) (sym from_is) ∙ is.there;
        table = table;
        exists = ap (slice_get schema.tables) is.same ∙ exists;
        column = column;
        declared = ap (slice_get table.columns) (sym column_is) ∙ sym declared;
        kind = ap (λ (f : EntryColumn). f.kind) whole;
      }

  at_number : (table : Table) (number : Option ℕ) → slice_get schema.tables entry.table ≡ Some table
      → option_and_then (column_at entry.number table) number ≡ Some found → ColumnExists schema from found
  at_number table None exists same = absurd cc
  at_number table (Some number) exists same = at_column table number (slice_get table.columns number) exists refl same

  at_table : (table : Option Table) → slice_get schema.tables entry.table ≡ table
      → option_and_then (λ t. column_named entry.number t name) table ≡ Some found → ColumnExists schema from found
  at_table None exists same = absurd cc
  at_table (Some table) exists same = at_number table (index_of_name (column_names table) name) exists same

-- ---- the entries in scope are entries of the query

abbrev pub AllEntries : List Source → List Entry → Type 0
AllEntries from [] = Unit {0}
AllEntries from (e ∷ rest) = IsEntry from e × AllEntries from rest

numbered_are : (from : List Source) (n : ℕ) (xs : List Source) → ((k : ℕ) (s : Source) → slice_get xs k ≡ Some s → slice_get from (n + k) ≡ Some s) → AllEntries from (numbered n xs)
numbered_are from n [] there = tt
numbered_are from n (x ∷ xs) there =
    let here : n + 0 ≡ n = omega arith in (
      record { source = x; there = ap (slice_get from) (sym here) ∙ there 0 x refl; same = refl },
      numbered_are from (n + 1) xs (λ k s is. let turn : n + suc k ≡ n + 1 + k = omega arith in ap (slice_get from) (sym turn) ∙ there (suc k) s is),
    )

slice_get-dropped : {A : Type 0} (n k : ℕ) (xs : List A) → slice_get (drop n xs) k ≡ slice_get xs (n + k)
slice_get-dropped zero k xs = ap (slice_get xs) (omega arith)
slice_get-dropped (suc n) k [] = refl
slice_get-dropped (suc n) k (x ∷ xs) = slice_get-dropped n k xs ∙ ap (slice_get (x ∷ xs)) (let turn : suc (n + k) ≡ suc n + k = omega arith in turn)

slice_get-taken : {A : Type 0} (n k : ℕ) (xs : List A) (s : A) → slice_get (take n xs) k ≡ Some s → slice_get xs k ≡ Some s
slice_get-taken zero k xs s is = absurd cc
slice_get-taken (suc n) k [] s is = is
slice_get-taken (suc n) zero (x ∷ xs) s is = is
slice_get-taken (suc n) (suc k) (x ∷ xs) s is = slice_get-taken n k xs s is

pub in_scope_are : (from : List Source) (scope : Scope) → AllEntries from (in_scope from scope)
unfolding in_scope
in_scope_are from scope =
    numbered_are from scope.first (slice_range from scope.first scope.end)
    (λ k s is. sym (slice_get-dropped scope.first k from) ∙ slice_get-taken (scope.end - scope.first) k (drop scope.first from) s is)

-- ---- the column that a reference names exists

only_exists : (schema : Schema) (from : List Source) (name : List ℕ) (entries : List Entry) (found : EntryColumn) → AllEntries from entries → single_member (filter_map (column_in schema name) entries) ≡ Some found → ColumnExists schema from found
only_exists schema from name [] found all same = absurd cc
only_exists schema from name (e ∷ rest) found all same = at (column_in schema name e) refl (λ later. only_exists schema from name rest found all.1 later) same where
  at : (here : Option EntryColumn) → column_in schema name e ≡ here → (single_member (filter_map (column_in schema name) rest) ≡ Some found → ColumnExists schema from found)
      → single_member (cons_option here (filter_map (column_in schema name) rest)) ≡ Some found → ColumnExists schema from found
  at None is more same = more same
  at (Some column) is more same = just (filter_map (column_in schema name) rest) same where
    just : (others : List EntryColumn) → single_member (column ∷ others) ≡ Some found → ColumnExists schema from found
    just [] same = column_exists schema from name e found all.0 (is ∙ same)
    just (other ∷ others) same = absurd cc

pub named_is : (from : List Source) (scope : Scope) (alias : List ℕ) (entry : Entry) → entry_named from scope alias ≡ Some entry → IsEntry from entry
unfolding entry_named
named_is from scope alias entry same = at (index_of_name (aliases from) alias) same where
  there : (n : ℕ) (source : Option Source) → slice_get from n ≡ source → option_map (λ s. record { number = n; table = s.table }) source ≡ Some entry → IsEntry from entry
  there n None is same = absurd cc
  there n (Some s) is same =
      let whole : record { number = n; table = s.table } ≡ entry = cc in
      record { source = s; there = ap (slice_get from) (sym (ap (λ (e : Entry). e.number) whole)) ∙ is; same = ap (λ (e : Entry). e.table) whole }

  held : (n : ℕ) (b : Bool) → cond b (option_map (λ s. record { number = n; table = s.table }) (slice_get from n)) None ≡ Some entry → IsEntry from entry
  held n true same = there n (slice_get from n) refl same
  held n false same = absurd cc

  at : (number : Option ℕ) → option_and_then (entry_at from scope) number ≡ Some entry → IsEntry from entry
  at None same = absurd cc
  at (Some n) same = held n (is_in scope n) same

pub resolved_exists : (schema : Schema) (text : List ℕ) (from : List Source) (scope : Scope) (reference : ColumnNode) (found : EntryColumn) → resolve schema text from scope reference ≡ Some found → ColumnExists schema from found
unfolding resolve column_without_alias
resolved_exists schema text from scope reference found same = at reference.table same where
  of : (name : List ℕ) (entry : Option Entry) → ((e : Entry) → entry ≡ Some e → IsEntry from e) → option_and_then (column_in schema name) entry ≡ Some found → ColumnExists schema from found
  of name None are same = absurd cc
  of name (Some e) are same = column_exists schema from name e found (are e refl) same

  at : (table : Option Lexeme) → resolved schema text from scope table reference.column ≡ Some found → ColumnExists schema from found
  at None same = only_exists schema from (name_of text reference.column) (in_scope from scope) found (in_scope_are from scope) same
  at (Some table) same = of (name_of text reference.column) (entry_named from scope (name_of text table)) (λ e is. named_is from scope (name_of text table) e is) same
