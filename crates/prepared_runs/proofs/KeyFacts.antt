-- Declared keys hold in tables that were read from their files.
use Rattle.std.proofs.Common.{◌≡◌, ℕ, ◌<◌, true, false, List, [], ◌∷◌, Ok, None, length, get_or, ap, subst, inl, inr}
use Rattle.std.specs.List.{AllByRecursion, list_any}
use Rattle.std.proofs.lemmas.Bool.{cases_Bool, eqb-true, false≢true}
use Rattle.std.proofs.lemmas.List.{get_or-map}
use Rattle.berge_tree.specs.Equalities.{places_of}
use Rattle.berge_tree.specs.declared.edges.Place.{Place}
use Rattle.base_io.specs.Files.{Files}
use Rattle.schema_types.specs.declared.types.Schema.{Schema}
use Rattle.schema_types.specs.declared.types.Table.{Table}
use Rattle.csv_tables.specs.Keys.{first_repeat}
use Rattle.csv_tables.specs.Rows.{Row}
use Rattle.query_types.specs.Named.{NamesItsEntries}
use Rattle.query_types.specs.Validity.{IsQueryOf}
use Rattle.query_types.specs.declared.types.Query.{Query}
use Rattle.query_types.specs.declared.types.Source.{Source}
use Rattle.join_graph.specs.Conjuncts.{equalities_of}
use Rattle.sql_meaning.specs.Tables.{Tables}
use Rattle.level_bounds.proofs.Lists.{from_members}
use Rattle.key_carriers.specs.Carriers.{is_only_column, is_declared_key, no_source, table_at, table_of}
use Rattle.key_carriers.specs.DeclaredKeys.{HaveUniqueValues, DeclaredKeysHold}
use Rattle.table_files.specs.EntryTables.{CanComeFromFile, CanComeFromFiles, tables_in}
use Rattle.table_files.specs.Stage.{numbers_of, tables_stage}
use Rattle.table_files.proofs.FileKeys.{KeepsKeys, file_keeps, rows_apart}
use Rattle.table_files.proofs.StagedFiles.{staged_files}
use Rattle.join_graph.proofs.FromEntries.{names_its_entries}
use Rattle.stats_file_bounds.proofs.Telling.{place_entry_in_range}
use Rattle.prepared_runs.specs.Sources.{SourceNeeds}
use Rattle.safebound_words.specs.declared.command.ListSource.{ListSource}
use Rattle.safebound_words.specs.declared.command.ListSource.TheVariants as sources

just_one : (column : ℕ) (key : List ℕ) → is_only_column column key ≡ true → key ≡ column ∷ []
just_one column [] h = absurd (false≢true h)
just_one column (first ∷ []) h = ap (λ (c : ℕ). c ∷ []) (eqb-true first column h)
just_one column (first ∷ second ∷ rest) h = absurd (false≢true h)

key_without : (column : ℕ) (keys : List (List ℕ)) (rows : List Row) → AllByRecursion (λ key. first_repeat key rows ≡ None) keys → list_any (is_only_column column) keys ≡ true
    → first_repeat (column ∷ []) rows ≡ None
key_without column [] rows kept h = absurd (false≢true h)
key_without column (key ∷ keys) rows kept h = elim (cases_Bool (is_only_column column key)) [
  | inl just ↦ subst (λ (k : List ℕ). first_repeat k rows ≡ None) (just_one column key just) kept.0
  | inr other ↦ (let later : list_any (is_only_column column) keys ≡ true = rw other at h in key_without column keys rows kept.1 later)
]

module _ (schema : Schema) (query : Query) (tables : Tables) (own : NamesItsEntries query) (of_files : CanComeFromFiles schema query.from tables) where
  table_is : (entry : ℕ) → entry < length query.from → get_or (numbers_of query.from) entry 0 ≡ table_of query entry
  table_is entry low = get_or-map (λ (source : Source). source.table) query.from entry no_source 0 low

  apart_at : (entry column : ℕ) → entry < length query.from → is_declared_key schema (table_of query entry) column ≡ true → HaveUniqueValues tables entry column
  apart_at entry column low key =
      let table : Table = table_at schema (table_of query entry) in
      let file : CanComeFromFile table (tables entry) = subst (λ (n : ℕ). CanComeFromFile (table_at schema n) (tables entry)) (table_is entry low) (of_files entry low) in
      let keeps : KeepsKeys table (tables entry) = file_keeps table file.0 (tables entry) file.1 in
      rows_apart (tables entry) keeps.texts_are_utf8 column (key_without column table.keys (tables entry) keeps.keys key)

  pub keys_hold : DeclaredKeysHold schema query tables
  keys_hold = from_members (λ (p : Place). is_declared_key schema (table_of query p.entry) p.column ≡ true → HaveUniqueValues tables p.entry p.column) (places_of (equalities_of query))
      (λ p there key. apart_at p.entry p.column (place_entry_in_range query own p there) key)

pub read_keys_hold : (schema : Schema) (query : Query) (files : Files) (rows : List (List Row)) → IsQueryOf schema query → tables_stage schema query.from files ≡ Ok rows
    → DeclaredKeysHold schema query (tables_in rows)
read_keys_hold schema query files rows of staged = keys_hold schema query (tables_in rows) (names_its_entries schema query of) (staged_files schema query.from files rows staged)

-- ---- if the declared keys hold, every source has what it needs

pub needs_met : (source : ListSource) (schema : Schema) (query : Query) (tables : Tables) → DeclaredKeysHold schema query tables → SourceNeeds source schema query tables
needs_met sources.Columns schema query tables holds = tt
needs_met sources.Keyed schema query tables holds = holds
needs_met sources.Reduced schema query tables holds = tt
needs_met sources.Counted schema query tables holds = tt

pub needs_read : (source : ListSource) (schema : Schema) (query : Query) (files : Files) (rows : List (List Row)) → IsQueryOf schema query
    → tables_stage schema query.from files ≡ Ok rows → SourceNeeds source schema query (tables_in rows)
needs_read source schema query files rows of staged = needs_met source schema query (tables_in rows) (read_keys_hold schema query files rows of staged)
