-- The outputs of entries are built column by column and entry by entry. The lemmas relate `FoundOutputs` to the list of all outputs.
use Rattle.std.proofs.Common.{◌≡◌, ℕ, suc, ◌+◌, ◌<◌, ◌≤◌, List, [], ◌∷◌, ◌++◌, length, drop, get_or, Option, Some, None, ap, subst, sym, ◌∙◌, refl, append_assoc, arith, length-append}
use Rattle.std.specs.Prelude.{slice_get}
use Rattle.std.specs.List.{flat_map}
use Rattle.std.proofs.lemmas.Grind.{flat_map-append}
use Rattle.std.proofs.lemmas.List.{drop_all, append-nil}
use Rattle.std.proofs.lemmas.Option.{slice_get_within, get_or_from_slice_get}
use Rattle.limits.specs.Profile.{most_outputs}
use Rattle.query_grammar.specs.declared.tree.OutNode.{OutNode}
use Rattle.query_grammar.specs.declared.tree.OutsNode.TheVariants as outs
use Rattle.schema_types.specs.declared.types.Column.{Column}
use Rattle.schema_types.specs.declared.types.Table.{Table}
use Rattle.schema_types.specs.declared.types.Schema.{Schema}
use Rattle.schema_types.specs.Validity.{IsValid, IsValidTable}
use Rattle.query_names.specs.declared.binder.Binder.{Binder}
use Rattle.query_names.specs.declared.scope.Entry.{Entry}
use Rattle.query_names.specs.declared.scope.Scope.{Scope}
use Rattle.query_types.specs.declared.types.Source.{Source}
use Rattle.query_types.specs.declared.types.Out.{Out}
use Rattle.query_names.specs.Scopes.{in_scope, entry_named}
use Rattle.query_names.specs.Values.{outs_from, outs_of_table, outs_of_entry}
use Rattle.query_names.specs.Binding.{schema_of, from_of}
use Rattle.sql_parse.specs.declared.outputs.FoundOutputs.{FoundOutputs}
use Rattle.sql_parse.specs.Outputs.{capped, outs_of_entry_by, all_outs_by, outs_by, selected_by}
use Rattle.query_names.proofs.Walk.{rest_at}
use Rattle.query_names.proofs.Resolved.{IsEntry, named_is}
use Rattle.query_names.proofs.ScopeFacts.{none_in_scope, one_more_in_scope}

-- ---- the columns of an entry

added : {A : Type 0} (old item rest : List A) {new whole : List A} → old ++ (item ++ rest) ≡ whole → new ≡ old ++ item → new ++ rest ≡ whole
added old item rest left is = ap (λ l. l ++ rest) is ∙ append_assoc old item rest ∙ left

pub column_added : (from : ℕ) (xs : List Column) {i n : ℕ} (d : Column) (old : List Out) {new whole : List Out} {name : List ℕ} → n ≡ i → i < length xs
    → old ++ outs_from from n (drop i xs) ≡ whole → name ≡ (get_or xs i d).name
    → new ≡ old ++ record { column = record { from = from; column = n }; name = name } ∷ [] → new ++ outs_from from (n + 1) (drop (i + 1) xs) ≡ whole
column_added from xs {i} {n} d old {new} {whole} {name} here below left named is =
    let rest : List Out = outs_from from (n + 1) (drop (i + 1) xs) in
    added old (record { column = record { from = from; column = n }; name = name } ∷ []) rest
    (ap (λ m. old ++ (record { column = record { from = from; column = n }; name = m } ∷ rest)) named
    ∙ ap (λ l. old ++ outs_from from n l) (sym (rest_at xs i d below)) ∙ left)
    is

pub columns_added : (from : ℕ) (xs : List Column) {i : ℕ} (n : ℕ) {old whole : List Out} → length xs ≤ i → old ++ outs_from from n (drop i xs) ≡ whole → old ≡ whole
columns_added from xs {i} n {old} {whole} done left = sym (append-nil old) ∙ ap (λ l. old ++ outs_from from n l) (sym (drop_all i xs done)) ∙ left

pub columns_counted : (entry number : ℕ) (xs : List Column) → length (outs_from entry number xs) ≡ length xs
columns_counted entry number [] = refl
columns_counted entry number (x ∷ xs) = ap suc (columns_counted entry (number + 1) xs)

pub outs_at : (binder : Binder) (e : Entry) (table : Option Table) → table ≡ slice_get (schema_of binder).tables e.table → outs_of_table e.number table ≡ outs_of_entry_by binder e
unfolding outs_of_entry_by outs_of_entry
outs_at binder e table is = ap (outs_of_table e.number) is

pub some_outs : (binder : Binder) (e : Entry) (table : Table) → Some table ≡ slice_get (schema_of binder).tables e.table → outs_of_entry_by binder e ≡ outs_from e.number 0 table.columns
some_outs binder e table is = sym (outs_at binder e (Some table) is)

pub no_outs : (binder : Binder) (e : Entry) → None ≡ slice_get (schema_of binder).tables e.table → outs_of_entry_by binder e ≡ []
no_outs binder e is = sym (outs_at binder e None is)

pub columns_within_limit : (schema : Schema) (i : ℕ) (table : Table) → IsValid schema → Some table ≡ slice_get schema.tables i → length table.columns ≤ 64
columns_within_limit schema i table valid found =
    let is : slice_get schema.tables i ≡ Some table = sym found in
    let one : IsValidTable table = subst IsValidTable (get_or_from_slice_get schema.tables i table table is) (valid.tables i table (slice_get_within schema.tables i table is)) in
    one.few

-- ---- outputs that are counted and built

-- all outputs are counted. They are built unless there are too many outputs or FROM entries
pub record IsCountedAndBuilt (binder : Binder) (found : FoundOutputs) (list : List Out) : Type 0 where
  pub count : found.count ≡ capped (length list)
  pub outs : length (from_of binder) ≤ 12 → found.count ≤ most_outputs → found.outs ≡ list

module _ (binder : Binder) where
  pub gathered_more : (list item : List Out) {old new : FoundOutputs} {next : List Out} → next ≡ list ++ item → IsCountedAndBuilt binder old list
      → new.count ≡ capped (old.count + length item) → (length (from_of binder) ≤ 12 → new.count ≤ most_outputs → new.outs ≡ old.outs ++ item) → IsCountedAndBuilt binder new next
  gathered_more list item {old} {new} {next} is so_far counted added = subst (IsCountedAndBuilt binder new) (sym is) (record {
    count = omega (arith, length-append list item, so_far.count);
    outs = λ few within. added few within ∙ ap (λ l. l ++ item) (so_far.outs few (omega (arith, so_far.count)));
  })

  -- ---- the entries of FROM

  abbrev pub outs_before : ℕ → List Out
  outs_before number = flat_map (outs_of_entry_by binder) (in_scope (from_of binder) (record { first = 0; end = number }))

  pub none_before : outs_before 0 ≡ []
  none_before = ap (flat_map (outs_of_entry_by binder)) (none_in_scope (from_of binder) 0)

  pub one_more_before : {number : ℕ} (d : Source) {items : List Source} → items ≡ from_of binder → number < length (from_of binder)
      → outs_before (number + 1) ≡ outs_before number ++ outs_of_entry_by binder (record { number = number; table = (get_or items number d).table })
  one_more_before {number} d {items} same below =
      let entry : Entry = record { number = number; table = (get_or (from_of binder) number d).table } in
      let before : List Entry = in_scope (from_of binder) (record { first = 0; end = number }) in
      let begins : 0 ≤ number = omega arith in
      ap (flat_map (outs_of_entry_by binder)) (one_more_in_scope (from_of binder) 0 number d begins below)
      ∙ flat_map-append (outs_of_entry_by binder) before (entry ∷ [])
      ∙ ap (λ l. outs_before number ++ l) (append-nil (outs_of_entry_by binder entry))
      ∙ ap (λ l. outs_before number ++ outs_of_entry_by binder (record { number = number; table = (get_or l number d).table })) (sym same)

  pub all_before : (number : ℕ) → number ≡ length (from_of binder) → outs_before number ≡ all_outs_by binder
  unfolding all_outs_by outs_of_entry_by
  all_before number is = ap (λ n. flat_map (outs_of_entry (schema_of binder)) (in_scope (from_of binder) (record { first = 0; end = n }))) is

pub named_entry_in_8_bits : (from : List Source) (scope : Scope) (alias : List ℕ) (e : Entry) → entry_named from scope alias ≡ Some e → length from ≤ 12 → e.number < 256
named_entry_in_8_bits from scope alias e is few =
    let there : IsEntry from e = named_is from scope alias e is in
    let below : e.number < length from = slice_get_within from e.number there.source there.there in
    omega arith

-- ---- the items of the SELECT list

pub selected_listed : (binder : Binder) (list : List OutNode) → selected_by binder (outs.Listed list) ≡ flat_map (outs_by binder) list
unfolding selected_by outs_by
selected_listed binder list = refl
