-- The statistics that the code makes for each entry are those that the file gives. If the file lacks something, the code finds the first entry that
-- needs it.
use Rattle.std.proofs.Common.{◌≡◌, ℕ, ◌<◌, true, false, List, map, length, get_or, Option, None, Some, refl, ap, sym, ◌∙◌, subst, arith}
use Rattle.std.specs.Prelude.{unwrap_or, IfSome}
use Rattle.std.specs.Bool.{IsTrue}
use Rattle.std.specs.List.{All, filter_map}
use Rattle.std.proofs.lemmas.List.{get_or_default}
use Rattle.berge_tree.specs.declared.edges.Edge.{Edge}
use Rattle.degree_sequences.specs.Degrees.{different}
use Rattle.degree_sequences.proofs.Counting.{is_in, is_in-different}
use Rattle.gathered_stats.specs.Asked.{asked_columns, compared_column, joined_columns}
use Rattle.join_graph.specs.Conjuncts.{equalities_of}
use Rattle.level_bounds.proofs.Lists.{at_member, in_filter_map}
use Rattle.predicate_bounds.specs.declared.columns.EntryStats.{EntryStats}
use Rattle.predicate_bounds.specs.declared.columns.ColumnSteps.{ColumnSteps}
use Rattle.predicate_bounds.specs.declared.steps.Step.{Step}
use Rattle.predicate_bounds.specs.Steps.{steps_of}
use Rattle.query_types.specs.declared.types.Query.{Query}
use Rattle.stats_file.specs.declared.types.StatsFile.{StatsFile}
use Rattle.stats_file.specs.declared.types.TableStats.{TableStats}
use Rattle.stats_file_of_query.specs.declared.needs.Needs.{Needs}
use Rattle.stats_file_of_query.specs.Needs.{needs_of, table_of}
use Rattle.stats_file_of_query.specs.Standing.{section_of}
use Rattle.stats_file_of_query.proofs.Finding.{first_found}
use Rattle.stats_file_bounds.specs.declared.errors.NeedError.{NeedError}
use Rattle.stats_file_bounds.specs.declared.errors.NeedError.TheVariants as error
use Rattle.stats_file_bounds.specs.Entries.{AreStepsFromStatsFile, AsksForFilterColumn, IsEntryCause, IsNeedCause, HasStatsFromFile}
use Rattle.stats_file_bounds.specs.FileStatistics.{is_filter}
use Rattle.stats_file_bounds.specs.Found.{is_missing, no_section, section_for}

-- ---- columns that steps compare with literals are filter columns

pub asks_among : (needs : Needs) (steps : List Step) → needs.filters ≡ different (filter_map compared_column steps) → All (AsksForFilterColumn needs) steps
asks_among needs steps is k d k_in_range = by (compared_column (get_or steps k d)) refl
  where
    by : (o : Option ℕ) → compared_column (get_or steps k d) ≡ o → IfSome o (λ column. IsTrue (is_filter needs column))
    by None e = tt
    by (Some column) e =
        let asked : List ℕ = filter_map compared_column steps in
        subst (λ (s : List ℕ). is_in s column ≡ true) (sym is)
        (at_member (λ x. is_in (different asked) x ≡ true) asked (is_in-different asked) column
        (in_filter_map compared_column steps (get_or steps k d) column (k, k_in_range, get_or_default steps k (get_or steps k d) d k_in_range) e))

-- ---- the statistics of an entry

same_needs : (a b : Needs) → a.filters ≡ b.filters → a.joined ≡ b.joined → a ≡ b
same_needs a b e f = ap (λ (x : List ℕ). record a { filters = x }) e ∙ ap (λ (x : List ℕ). record b { joined = x }) f

module _ (query : Query) (file : StatsFile) (entry : ℕ) where
  pub its_needs : (needs : Needs) (steps : List Step) (equalities : List Edge) → needs.filters ≡ different (filter_map compared_column steps) → needs.joined ≡ joined_columns entry equalities
      → steps ≡ steps_of entry query.conjuncts → equalities ≡ equalities_of query → needs ≡ needs_of query entry
  its_needs needs steps equalities filters joined its_steps own =
      same_needs needs (needs_of query entry) (filters ∙ ap (λ (s : List Step). different (filter_map compared_column s)) its_steps) (joined ∙ ap (joined_columns entry) own)

  pub its_section : (section : TableStats) → Some section ≡ section_of file (table_of query entry) → section ≡ section_for query file entry
  its_section section is = ap (λ (o : Option TableStats). unwrap_or o no_section) is

  pub entry_has_stats : (section : TableStats) (needs : Needs) (steps : List Step) (stats : EntryStats) → section ≡ section_for query file entry → needs ≡ needs_of query entry
      → steps ≡ steps_of entry query.conjuncts → map (λ (g : ColumnSteps). g.column) stats.columns ≡ asked_columns entry (equalities_of query)
      → All (AreStepsFromStatsFile section needs steps) stats.columns → HasStatsFromFile query file entry stats
  entry_has_stats section needs steps stats of_section of_needs of_steps columns are = record {
    columns = columns;
    steps = subst (λ (s : TableStats). All (AreStepsFromStatsFile s (needs_of query entry) (steps_of entry query.conjuncts)) stats.columns) of_section
        (subst (λ (n : Needs). All (AreStepsFromStatsFile section n (steps_of entry query.conjuncts)) stats.columns) of_needs
        (subst (λ (s : List Step). All (AreStepsFromStatsFile section needs s) stats.columns) of_steps are));
  }

  -- ---- the first entry for which the file lacks something

  pub need_cause : (e : NeedError) → entry < length query.from → ((k : ℕ) → k < entry → is_missing query file k ≡ false) → IsEntryCause query file entry e → IsNeedCause query file e
  need_cause (error.Missing from) entry_in_range before cause =
      first_found (is_missing query file) 0 (length query.from) entry (omega arith) (omega (arith, entry_in_range)) (λ k from below. before k below) cause.1 ∙ ap Some (sym cause.0)
  need_cause error.NoMemory entry_in_range before cause = tt
