-- A statistics file of the verdict stands for its tables. No bound of a plan that the verdict makes from a statistics file is too low.
use Rattle.std.proofs.Common.{◌≡◌, ℕ, ◌<◌, ◌≤◌, List, [], Option, None, Some, Result, Ok, Err, length, get_or, refl, ap, sym, ◌∙◌, subst, arith}
use Rattle.std.specs.Prelude.{IfOk}
use Rattle.std.proofs.lemmas.List.{get_or-map, length-map}
use Rattle.base_io.specs.Files.{Files}
use Rattle.csv_tables.specs.Rows.{Row}
use Rattle.join_graph.proofs.FromEntries.{names_its_entries}
use Rattle.order_search.specs.declared.refusal.PlanError.{PlanError}
use Rattle.stats_file_bounds.specs.Entries.{KeepsRulesOfSome}
use Rattle.stats_file_bounds.specs.Found.{first_missing}
use Rattle.stats_file_bounds.proofs.FromFiles.{few_rows}
use Rattle.stats_file_of_query.specs.Standing.{ShareRows}
use Rattle.stats_file_of_query.proofs.Standing.{file_stands}
use Rattle.outcomes.specs.Reads.{◌>>=◌, with_refusal}
use Rattle.outcomes.specs.Errors.{stats_refusal}
use Rattle.outcomes.specs.declared.names.FileId.TheVariants as file
use Rattle.outcomes.specs.declared.refusal.Refusal.{Refusal}
use Rattle.query_types.specs.Named.{NamesItsEntries}
use Rattle.query_types.specs.Validity.{IsQueryOf}
use Rattle.query_types.specs.declared.types.Query.{Query}
use Rattle.query_types.specs.declared.types.Source.{Source}
use Rattle.schema_types.specs.Validity.{IsValid}
use Rattle.schema_types.specs.declared.types.Schema.{Schema}
use Rattle.stats_answers.specs.StatsTexts.{stats_answer}
use Rattle.stats_answers.proofs.StatsAnswers as texts
use Rattle.stats_file.specs.Rules.{KeepsRules}
use Rattle.stats_file.specs.declared.types.StatsError.{StatsError}
use Rattle.stats_file.specs.declared.types.StatsFile.{StatsFile}
use Rattle.table_files.specs.EntryTables.{tables_in}
use Rattle.table_files.specs.Stage.{numbers_of, index_of, rows_by_entry, rows_of_each, tables_of_query, tables_stage}
use Rattle.table_files.specs.TableFile.{read}
use Rattle.prepared_runs.specs.StatsFiles.{made_from_file, plan_from_file_asked, stats_file_plan_stage, stats_of_text, stats_stage, stats_file_of_tables, unless_missing}
use Rattle.prepared_runs.specs.Limits.{IsWithinLimit}
use Rattle.prepared_runs.specs.RunOutcome.{PlanFromStatsFile, BoundsHoldForItsTables, NoBoundIsTooLow, RunOutcome, PlannedFromStats}
use Rattle.prepared_runs.specs.Shapes.{planned_within}
use Rattle.prepared_runs.specs.Sources.{sourced_of_file}
use Rattle.plans.specs.declared.bushy.BushyPlan.{BushyPlan}
use Rattle.tree_rows.specs.Memory.{tree_bytes}
use Rattle.safebound_words.specs.Commands.{most_budget_of}
use Rattle.safebound_words.specs.declared.command.PlanTerms.{PlanTerms}
use Rattle.prepared_runs.proofs.LimitFacts.{within_so}
use Rattle.prepared_runs.proofs.ShapeFacts.{answer_over}
use Rattle.prepared_runs.proofs.SourceFacts.{file_is_source}

-- ---- a file of tables

row_of_entry : (from : List Source) (rows : List (List Row)) (entry : ℕ) → entry < length from
    → tables_in (rows_by_entry from rows) entry ≡ get_or rows (index_of (tables_of_query from) (get_or (numbers_of from) entry 0)) []
row_of_entry from rows entry low =
    get_or-map (λ number. get_or rows (index_of (tables_of_query from) number) []) (numbers_of from) entry 0 (get_or (rows_by_entry from rows) 0 [])
    (subst (λ (n : ℕ). entry < n) (sym (length-map from (λ (source : Source). source.table))) low)

rows_shared : (query : Query) (rows : List (List Row)) → ShareRows query (tables_in (rows_by_entry query.from rows))
rows_shared query rows entry other low also same =
    row_of_entry query.from rows entry low
    ∙ ap (λ number. get_or rows (index_of (tables_of_query query.from) number) []) same
    ∙ sym (row_of_entry query.from rows other also)

stage_shared : (query : Query) (each : Result (List (List Row)) Refusal) (rows : List (List Row)) → (each >>= λ r. Ok (rows_by_entry query.from r)) ≡ Ok rows → ShareRows query (tables_in rows)
stage_shared query (Ok each) rows is =
    let same : rows_by_entry query.from each ≡ rows = cc in subst (λ (r : List (List Row)). ShareRows query (tables_in r)) same (rows_shared query each)
stage_shared query (Err r) rows is = absurd (cc)

pub filed_stands : (schema : Schema) (query : Query) (files : Files) (accuracy : ℕ) (rows : List (List Row)) → tables_stage schema query.from files ≡ Ok rows
    → NoBoundIsTooLow (stats_file_of_tables schema query rows accuracy)
unfolding tables_stage
filed_stands schema query files accuracy rows is =
    file_stands schema query (tables_in rows) (stage_shared query (rows_of_each schema (tables_of_query query.from) files) rows is) accuracy

-- ---- a file that is read

keeps_told : (schema : Schema) (text : List ℕ) → IsValid schema → (answer : Result StatsFile StatsError) → stats_answer schema text ≡ answer → IfOk (with_refusal stats_refusal answer) (KeepsRules schema)
keeps_told schema text valid (Ok stats) is = (texts.result_keeps_rules schema text stats valid is).0
keeps_told schema text valid (Err e) is = tt

keeps_read : (schema : Schema) → IsValid schema → (bytes : Result (List ℕ) Refusal) → IfOk (bytes >>= stats_of_text schema) (KeepsRules schema)
keeps_read schema valid (Ok text) = keeps_told schema text valid (stats_answer schema text) refl
keeps_read schema valid (Err r) = tt

pub stats_keep : (name : List ℕ) (schema : Schema) (files : Files) → IsValid schema → IfOk (stats_stage name schema files) (KeepsRules schema)
unfolding stats_stage
stats_keep name schema files valid = keeps_read schema valid (read file.Stats 67108864 name files)

-- ---- a plan from a statistics file

module _ (schema : Schema) (query : Query) (of_schema : IsQueryOf schema query) (stats : StatsFile) (keeps : KeepsRules schema stats) (terms : PlanTerms)
    (small : terms.budget ≤ most_budget_of terms.shape) where
  abbrev made_of : BushyPlan → PlanFromStatsFile
  made_of plan = record { query = query; file = stats; shape = terms.shape; plan = plan; memory = terms.memory }

  own : NamesItsEntries query
  own = names_its_entries schema query of_schema

  its : KeepsRulesOfSome stats
  its = record { schema = schema; keeps = keeps }

  -- no bound of the plan is too low for tables for which the file stands
  holds : first_missing query stats ≡ None → (plan : BushyPlan) → plan_from_file_asked terms query stats ≡ Ok plan → BoundsHoldForItsTables (made_of plan)
  holds none plan made tables stands =
      answer_over query tables (sourced_of_file query stats tables) (file_is_source query stats own its none tables stands) 1 terms.budget
      (omega (arith, of_schema.has_entries)) of_schema.entries_within_limit terms.shape plan small (few_rows query stats own its none tables stands) made

  module _ (Q : RunOutcome → Type 0) (planned_has_Q : (plan : BushyPlan) → BoundsHoldForItsTables (made_of plan) → IsWithinLimit terms.memory (tree_bytes plan) → Q (PlannedFromStats (made_of plan))) where
    planned_so : first_missing query stats ≡ None → (answer : Result BushyPlan PlanError) → plan_from_file_asked terms query stats ≡ answer
        → IfOk (planned_within terms.memory (made_from_file terms query stats) answer) Q
    planned_so none (Ok plan) made = within_so Q terms.memory (tree_bytes plan) (PlannedFromStats (made_of plan)) (planned_has_Q plan (holds none plan made))
    planned_so none (Err e) made = tt

    there_so : (missing : Option ℕ) → first_missing query stats ≡ missing
        → IfOk (unless_missing missing >>= λ there. planned_within terms.memory (made_from_file terms query stats) (plan_from_file_asked terms query stats)) Q
    there_so None none = planned_so none (plan_from_file_asked terms query stats) refl
    there_so (Some from) is = tt

    pub filed_plan_holds : IfOk (stats_file_plan_stage terms query stats) Q
    unfolding stats_file_plan_stage
    filed_plan_holds = there_so (first_missing query stats) refl
