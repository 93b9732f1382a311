-- The statistics that a file gives for each entry of a query, and the reasons why a file may give no statistics.
use Rattle.std.specs.Prelude.{ℕ, ◌≡◌, All, IfSome, List, map, Some, true, ⊤}
use Rattle.gathered_stats.specs.Asked.{asked_columns, compared_column}
use Rattle.join_graph.specs.Conjuncts.{equalities_of}
use Rattle.predicate_bounds.specs.declared.columns.ColumnSteps.{ColumnSteps}
use Rattle.predicate_bounds.specs.declared.columns.EntryStats.{EntryStats}
use Rattle.predicate_bounds.specs.declared.steps.Step.{Step}
use Rattle.predicate_bounds.specs.ListRuns.{with_list}
use Rattle.predicate_bounds.specs.Steps.{steps_of}
use Rattle.query_types.specs.declared.types.Query.{Query}
use Rattle.schema_types.specs.declared.types.Schema.{Schema}
use Rattle.stats_file.specs.declared.types.StatsFile.{StatsFile}
use Rattle.stats_file.specs.declared.types.TableStats.{TableStats}
use Rattle.stats_file.specs.Rules.{IsSection, KeepsRules}
use Rattle.std.specs.Bool.{IsTrue}
use Rattle.stats_file_of_query.specs.declared.needs.Needs.{Needs}
use Rattle.stats_file_of_query.specs.Needs.{needs_of}
use Rattle.stats_file_bounds.specs.declared.errors.NeedError.{NeedError}
use Rattle.stats_file_bounds.specs.declared.errors.NeedError.TheVariants as error
use Rattle.stats_file_bounds.specs.FileStatistics.{stats_file_lists, is_filter}
use Rattle.stats_file_bounds.specs.Found.{first_missing, is_missing, section_for}

-- the file keeps the rules of statistics files for some schema
pub record KeepsRulesOfSome (file : StatsFile) : Type 0 where
  pub schema : Schema
  pub keeps : KeepsRules schema file

-- the section keeps the rules of sections, for some schema
pub record IsSectionOfSome (section : TableStats) : Type 0 where
  pub schema : Schema
  pub is : IsSection schema section

-- if a step compares a column with literals, this column is a filter column. A step (predicate_bounds) is a comparison, an AND or an OR of own
-- conjuncts, or gives all rows or no rows
abbrev pub AsksForFilterColumn : Needs → Step → Type 0
AsksForFilterColumn needs step = IfSome (compared_column step) (λ column. IsTrue (is_filter needs column))

-- the steps of a joined column, each with its list from the file
abbrev pub AreStepsFromStatsFile : TableStats → Needs → List Step → ColumnSteps → Type 0
AreStepsFromStatsFile section needs steps gathered = gathered.steps ≡ map (with_list (stats_file_lists section needs gathered.column)) steps

-- an entry has the steps of its own conjuncts for each of its `asked_columns`
pub record HasStatsFromFile (query : Query) (file : StatsFile) (entry : ℕ) (stats : EntryStats) : Type 0 where
  pub columns : map (λ gathered. gathered.column) stats.columns ≡ asked_columns entry (equalities_of query)
  pub steps : All (AreStepsFromStatsFile (section_for query file entry) (needs_of query entry) (steps_of entry query.conjuncts)) stats.columns

-- the reason why a file gives no statistics for a query: the first entry for which the file lacks something, or memory ran out
abbrev pub IsNeedCause : Query → StatsFile → NeedError → Type 0
IsNeedCause query file (error.Missing from) = first_missing query file ≡ Some from
IsNeedCause query file error.NoMemory = ⊤

-- the reason why a file gives no statistics for one entry
abbrev pub IsEntryCause : Query → StatsFile → ℕ → NeedError → Type 0
IsEntryCause query file entry (error.Missing from) = (from ≡ entry) × (is_missing query file entry ≡ true)
IsEntryCause query file entry error.NoMemory = ⊤
