-- If a query has no wrong name and no wrong kind, it is a query over the schema.
use Rattle.std.proofs.Common.{◌≡◌, ℕ, suc, ◌+◌, ◌<◌, ◌≤◌, false, List, [], ◌∷◌, ◌++◌, All, length, map, Option, Some, None, ap, subst, sym, ◌∙◌, refl, arith}
use Rattle.std.specs.Prelude.{is_none, slice_get, unwrap_or}
use Rattle.std.specs.List.{flat_map}
use Rattle.std.proofs.lemmas.List.{length-map}
use Rattle.std.proofs.lemmas.List.Elements.{All-nil, All-cons, All-append}
use Rattle.limits.specs.Profile.{most_conjuncts}
use Rattle.ll_grammars.specs.declared.lexeme.Lexeme.{Lexeme}
use Rattle.sql_tokens.specs.Words.{name_of}
use Rattle.query_grammar.specs.declared.tree.ColumnNode.{ColumnNode}
use Rattle.query_grammar.specs.declared.tree.SourceNode.{SourceNode}
use Rattle.query_grammar.specs.declared.tree.OutNode.{OutNode}
use Rattle.query_grammar.specs.declared.tree.OutNode.TheVariants as out
use Rattle.query_grammar.specs.declared.tree.OutsNode.{OutsNode}
use Rattle.query_grammar.specs.declared.tree.OutsNode.TheVariants as outs
use Rattle.query_grammar.specs.declared.tree.QueryNode.{QueryNode}
use Rattle.schema_types.specs.declared.types.Column.{Column}
use Rattle.schema_types.specs.declared.types.Table.{Table}
use Rattle.schema_types.specs.declared.types.Schema.{Schema}
use Rattle.query_names.specs.declared.scope.Entry.{Entry}
use Rattle.query_names.specs.declared.scope.EntryColumn.{EntryColumn}
use Rattle.query_types.specs.declared.types.Source.{Source}
use Rattle.query_types.specs.Validity.{IsSourceOf, IsOutOf, IsCondOf, IsQueryOf}
use Rattle.query_names.specs.Names.{offset_if, table_names, table_of, entry_of, alias_of, alias_token, sources, entries, offences_of_later_sources, from_offences, is_among}
use Rattle.query_names.specs.Scopes.{in_scope, whole_scope, entry_named, resolve, head_of, conditions}
use Rattle.query_names.specs.Offences.{name_offences, all_kind_offences, name_offences_in, kind_offences_in, out_offences, outs_offences}
use Rattle.query_names.specs.Values.{resolved_column, members_in, conjuncts, outs_from, outs_of_table, outs_of_entry, outs_of_found, outs_of, selected, query_of}
use Rattle.schema_types.proofs.NameIndexes.{place_of_within}
use Rattle.query_names.proofs.Resolved.{ColumnExists, resolved_exists, IsEntry, AllEntries, in_scope_are, named_is}
use Rattle.schema_types.proofs.Above.{empty_left, empty_right}
use Rattle.sql_parse.proofs.KindFacts.{not_at, without_offences, found_finds, condition_of}

-- ---- the entries

module _ (schema : Schema) (text : List ℕ) where
  table_exists : (source : SourceNode) (table : Option ℕ) → table ≡ table_of schema text source → is_none table ≡ false → unwrap_or table 0 < length schema.tables
  table_exists source None is known = absurd cc
  table_exists source (Some n) is known =
      let within : n < length (table_names schema) = place_of_within (table_names schema) (name_of text source.table) n (sym is) in
      omega (arith, length-map schema.tables (λ (table : Table). table.name))

  sources_of_schema : (earlier : List (List ℕ)) (from : List SourceNode) → offences_of_later_sources schema text earlier from ≡ [] → All (IsSourceOf schema) (map (entry_of schema text) from)
  sources_of_schema earlier [] none = All-nil (IsSourceOf schema)
  sources_of_schema earlier (source ∷ rest) none =
      let unknown : List ℕ = offset_if (is_none (table_of schema text source)) source.table in
      let again : List ℕ = offset_if (is_among earlier (alias_of schema text source)) (alias_token source) in
      let others : List ℕ = offences_of_later_sources schema text (earlier ++ alias_of schema text source ∷ []) rest in
      let known : unknown ≡ [] = empty_left unknown again (empty_left (unknown ++ again) others none) in
      All-cons (IsSourceOf schema) (entry_of schema text source) (map (entry_of schema text) rest)
      (table_exists source (table_of schema text source) refl (not_at (is_none (table_of schema text source)) source.table known))
      (sources_of_schema (earlier ++ alias_of schema text source ∷ []) rest (empty_right (unknown ++ again) others none))

-- ---- the outputs

module _ (schema : Schema) (from : List Source) where
  outs_from_are : (entry number : ℕ) (columns : List Column) → ((k : ℕ) (column : Column) → slice_get columns k ≡ Some column → (name : List ℕ) → IsOutOf schema from (record { column = record { from = entry; column = number + k }; name = name }))
      → All (IsOutOf schema from) (outs_from entry number columns)
  outs_from_are entry number [] there = All-nil (IsOutOf schema from)
  outs_from_are entry number (column ∷ rest) there =
      let here : number + 0 ≡ number = omega arith in
      All-cons (IsOutOf schema from) (record { column = record { from = entry; column = number }; name = column.name }) (outs_from entry (number + 1) rest)
      (subst (λ n. IsOutOf schema from (record { column = record { from = entry; column = n }; name = column.name })) here (there 0 column refl column.name))
      (outs_from_are entry (number + 1) rest (λ k c is name.
      let next : number + suc k ≡ number + 1 + k = omega arith in
      subst (λ n. IsOutOf schema from (record { column = record { from = entry; column = n }; name = name })) next (there (suc k) c is name)))

  entry_outs : (e : Entry) → IsEntry from e → All (IsOutOf schema from) (outs_of_entry schema e)
  unfolding outs_of_entry
  entry_outs e there = at_table (slice_get schema.tables e.table) refl where
    at_table : (table : Option Table) → table ≡ slice_get schema.tables e.table → All (IsOutOf schema from) (outs_of_table e.number table)
    at_table None is = All-nil (IsOutOf schema from)
    at_table (Some table) is = outs_from_are e.number 0 table.columns (λ k column declared name.
        let place : 0 + k ≡ k = omega arith in
        subst (λ n. IsOutOf schema from (record { column = record { from = e.number; column = n }; name = name })) (sym place)
        (record { column = column; finds = record { source = there.source; entry = there.there; table = table; exists = ap (slice_get schema.tables) there.same ∙ sym is; declared = declared } }))

  all_entry_outs : (es : List Entry) → AllEntries from es → All (IsOutOf schema from) (flat_map (outs_of_entry schema) es)
  all_entry_outs [] are = All-nil (IsOutOf schema from)
  all_entry_outs (e ∷ es) are = All-append (IsOutOf schema from) (outs_of_entry schema e) (flat_map (outs_of_entry schema) es) (entry_outs e are.0) (all_entry_outs es are.1)

  module _ (text : List ℕ) where
    named_outs : (alias : Lexeme) (e : Option Entry) → e ≡ entry_named from (whole_scope from) (name_of text alias) → All (IsOutOf schema from) (outs_of_found schema e)
    named_outs alias None is = All-nil (IsOutOf schema from)
    named_outs alias (Some e) is = entry_outs e (named_is from (whole_scope from) (name_of text alias) e (sym is))

    column_out : (reference : ColumnNode) (name : List ℕ) (found : Option EntryColumn) → found ≡ resolve schema text from (whole_scope from) reference → offset_if (is_none found) (head_of reference) ≡ []
        → IsOutOf schema from (record { column = resolved_column found; name = name })
    column_out reference name None is none = absurd cc
    column_out reference name (Some found) is none =
        let there : ColumnExists schema from found = resolved_exists schema text from (whole_scope from) reference found (sym is) in
        record { column = there.column; finds = found_finds schema from found there }

    out_of : (o : OutNode) → out_offences schema text from (whole_scope from) o ≡ [] → out_offences schema text from (whole_scope from) o ≡ [] → All (IsOutOf schema from) (outs_of schema text from o)
    out_of (out.All alias) none again = named_outs alias (entry_named from (whole_scope from) (name_of text alias)) refl
    out_of (out.Column reference name) none again =
        let given : List ℕ = name_of text (unwrap_or name reference.column) in
        All-cons (IsOutOf schema from) (record { column = resolved_column (resolve schema text from (whole_scope from) reference); name = given }) []
        (column_out reference given (resolve schema text from (whole_scope from) reference) refl none) (All-nil (IsOutOf schema from))

    selected_are : (list : OutsNode) → outs_offences schema text from (whole_scope from) list ≡ [] → All (IsOutOf schema from) (selected schema text from list)
    selected_are outs.All none = all_entry_outs (in_scope from (whole_scope from)) (in_scope_are from (whole_scope from))
    selected_are (outs.Listed list) none =
        without_offences (out_offences schema text from (whole_scope from)) (out_offences schema text from (whole_scope from)) (outs_of schema text from) (IsOutOf schema from) out_of list none none

    -- ---- the conjuncts

    conjuncts_are : (query : QueryNode) → flat_map (name_offences_in schema text from) (conditions from query) ≡ [] → all_kind_offences schema text from query ≡ []
        → All (IsCondOf schema from) (conjuncts schema text from query)
    unfolding conjuncts all_kind_offences
    conjuncts_are query names kinds =
        without_offences (name_offences_in schema text from) (kind_offences_in schema text from) (members_in schema text from) (IsCondOf schema from)
        (λ c no_name no_kind. (condition_of schema text from c.scope c.condition no_name no_kind).members) (conditions from query) names kinds

-- ---- the query

from_are : (schema : Schema) (text : List ℕ) (query : QueryNode) → from_offences schema text query ≡ [] → All (IsSourceOf schema) (entries schema text query)
unfolding from_offences entries
from_are schema text query none = sources_of_schema schema text [] (sources query) none

module _ (schema : Schema) (text : List ℕ) (query : QueryNode) where
  pub of_schema : 0 < length (entries schema text query) → length (entries schema text query) ≤ 12
      → length (conjuncts schema text (entries schema text query) query) ≤ most_conjuncts
      → name_offences schema text (entries schema text query) query ≡ [] → all_kind_offences schema text (entries schema text query) query ≡ []
      → IsQueryOf schema (query_of schema text query)
  unfolding name_offences query_of
  of_schema some few conjuncts_within_limit names kinds =
      let from : List Source = entries schema text query in
      let in_from : List ℕ = from_offences schema text query in
      let in_outs : List ℕ = outs_offences schema text from (whole_scope from) query.outs in
      let in_conditions : List ℕ = flat_map (name_offences_in schema text from) (conditions from query) in
      let front : in_from ++ in_outs ≡ [] = empty_left (in_from ++ in_outs) in_conditions names in
      record {
        has_entries = some;
        entries_within_limit = few;
        conjuncts_within_limit = conjuncts_within_limit;
        sources = from_are schema text query (empty_left in_from in_outs front);
        conjuncts = conjuncts_are schema from text query (empty_right (in_from ++ in_outs) in_conditions names) kinds;
        outs = selected_are schema from text query.outs (empty_right in_from in_outs front);
      }
