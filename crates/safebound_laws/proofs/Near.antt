-- A plan from the file that `stats` wrote is the plan from the tables themselves.
use Rattle.std.proofs.Common.{◌≡◌, ℕ, ◌<◌, false, List, length, Some, Ok, ap, sym, ◌∙◌, subst}
use Rattle.appended_stats.specs.Appended.{tables_of_rows}
use Rattle.csv_tables.specs.Rows.{Row}
use Rattle.stats_file_bounds.proofs.Telling.{IsThere, is_there, section_is}
use Rattle.stats_file_bounds.specs.Bounds.{scan_bounds_of_file}
use Rattle.stats_file_bounds.specs.Found.{is_missing, pair_in, section_for}
use Rattle.stats_file_exactness.proofs.Exactness.{HasPairsOfTables, scans_known, sets_known}
use Rattle.stats_file_exactness.proofs.Sections as sections
use Rattle.stats_file_exactness.proofs.Sections.{IsSectionOf, found_is}
use Rattle.stats_file_of_query.proofs.SameSections.{first_is}
use Rattle.stats_file_of_query.specs.Files.{file_of_query}
use Rattle.stats_file_of_query.specs.Needs.{table_of}
use Rattle.stats_file_of_query.specs.Pairs.{pair_in_table}
use Rattle.stats_file_of_query.specs.Standing.{StandsFor, section_of}
use Rattle.join_graph.proofs.FromEntries.{names_its_entries}
use Rattle.plan_nearness.specs.Nearness.{FiltersNoEntry}
use Rattle.planning.specs.Bounds.{set_bounds_of}
use Rattle.query_types.specs.declared.types.Query.{Query}
use Rattle.schema_types.specs.declared.types.Schema.{Schema}
use Rattle.sql_meaning.specs.Tables.{Tables, row_counts, tables_of}
use Rattle.stats_file.specs.Rules.{KeepsRules}
use Rattle.stats_file.specs.declared.types.PairStats.{PairStats}
use Rattle.stats_file.specs.declared.types.StatsFile.{StatsFile}
use Rattle.stats_file.specs.declared.types.TableStats.{TableStats}
use Rattle.safebound_top.specs.Promise.{AsksQuery}
use Rattle.prepared_runs.specs.Shapes.{answer_of, planned_by}
use Rattle.prepared_runs.specs.Sources.{scans_by, sets_by, bounds_and_lists_by}
use Rattle.prepared_runs.specs.StatsFiles.{plan_from_file_asked}
use Rattle.plans.specs.declared.bushy.BushyPlan.{BushyPlan}
use Rattle.safebound_words.specs.declared.command.ListSource.TheVariants as sources
use Rattle.safebound_laws.specs.FileCalls.{PlanCall, PlannedFrom, StatsCall, WroteStats}
use Rattle.safebound_laws.specs.FilePlans.{IsOver, PlanIsNear, PlanIsOfTables}
use Rattle.safebound_laws.proofs.KnownBytes.{FromStats, from_stats}
use Rattle.safebound_laws.proofs.NearRuns.{parts_near}
use Rattle.safebound_laws.proofs.OtherQueries.{stands_for_other}
use Rattle.safebound_laws.proofs.Planned as planned_facts
use Rattle.safebound_laws.proofs.Planned.{tables_for_other}

module _ (schema : Schema) (bytes : List ℕ) (made : StatsCall) (planned : PlanCall) (wrote : WroteStats made schema bytes) (from : PlannedFrom schema bytes planned) where
  start : FromStats made bytes schema
  start = from_stats made schema bytes wrote

  abbrev read : Tables
  read = tables_of start.database

  abbrev outcome_query : Query
  outcome_query = (planned_facts.made_run made schema bytes start bytes (tables_of start.database) start.known planned from).query

  abbrev plan : BushyPlan
  plan = (planned_facts.made_run made schema bytes start bytes (tables_of start.database) start.known planned from).plan

  abbrev file : StatsFile
  file = file_of_query schema start.query (tables_of start.database) made.accuracy

  abbrev tables : Tables
  tables = tables_for_other start.query (tables_of start.database) outcome_query

  file_is : (planned_facts.made_run made schema bytes start bytes (tables_of start.database) start.known planned from).stats ≡ file
  file_is = planned_facts.stats_same made schema bytes start bytes read start.known planned from ∙ start.file_is

  there : (place : ℕ) → place < length outcome_query.from → is_missing outcome_query file place ≡ false
  there place low =
      ap (λ (f : StatsFile). is_missing outcome_query f place) (sym file_is) ∙ planned_facts.not_missing made schema bytes start bytes read start.known planned from place low

  entry_is_in_file : (place : ℕ) → place < length outcome_query.from → IsThere outcome_query file place
  entry_is_in_file place low = is_there outcome_query file place (there place low)

  stands : StandsFor outcome_query file tables
  stands =
      subst (λ (f : StatsFile). StandsFor outcome_query f tables) start.file_is
      (stands_for_other start.query outcome_query start.known.file read tables start.known.stands start.known.of
      (planned_facts.same_old made schema bytes start bytes read start.known planned from))

  rows_known : (place : ℕ) → place < length outcome_query.from → (section_for outcome_query file place).rows ≡ row_counts tables place
  rows_known place low =
      let t = entry_is_in_file place low in
      ap (λ (s : TableStats). s.rows) (section_is outcome_query file place t) ∙ (stands place t.section low t.is).rows

  pairs_known : (place : ℕ) → place < length outcome_query.from → (filter_column joined : ℕ) (p : PairStats)
      → pair_in (section_for outcome_query file place) filter_column joined ≡ Some p → p ≡ pair_in_table tables made.accuracy place filter_column joined
  pairs_known place low filter_column joined p found =
      let t = entry_is_in_file place low in
      let first = planned_facts.found made schema bytes start bytes read start.known planned from place low in
      let at = first_is start.query (table_of outcome_query place) first.0 first.1 in
      let its : IsSectionOf schema start.query start.database start.over made.accuracy first.0 t.section =
      sections.section_is schema start.query start.database start.over made.accuracy first.0 t.section (ap (section_of file) at.1 ∙ t.is) in
      let of_first : p ≡ pair_in_table read made.accuracy first.0 filter_column joined =
      found_is schema start.query start.database start.over made.accuracy first.0 at.0 t.section its filter_column joined p
      (ap (λ (s : TableStats). pair_in s filter_column joined) (sym (section_is outcome_query file place t)) ∙ found) in
      of_first
      ∙ ap (λ (rows : List Row). pair_in_table (tables_of_rows rows) made.accuracy 0 filter_column joined)
      (planned_facts.same_old made schema bytes start bytes read start.known planned from first.0 place at.0 low at.1)

  file_has_pairs_of_tables : HasPairsOfTables outcome_query file tables made.accuracy
  file_has_pairs_of_tables = record {
    is_file = record { schema = schema; keeps = subst (KeepsRules schema) start.file_is start.known.keeps };
    names = names_its_entries schema outcome_query (planned_facts.of_schema made schema bytes start bytes read start.known planned from);
    there = there;
    rows = rows_known;
    pairs = pairs_known;
  }

  plans_same : plan_from_file_asked planned.terms outcome_query file
      ≡ planned_by planned.terms.shape (bounds_and_lists_by sources.Columns schema outcome_query tables) made.accuracy planned.terms.budget
  unfolding planned_by sets_by scans_by
  plans_same =
      ap (λ sets. answer_of planned.terms.shape sets (scan_bounds_of_file outcome_query file) planned.terms.budget) (sets_known outcome_query file tables made.accuracy file_has_pairs_of_tables)
      ∙ ap (λ scans. answer_of planned.terms.shape (set_bounds_of outcome_query tables made.accuracy) scans planned.terms.budget)
      (scans_known outcome_query file tables made.accuracy file_has_pairs_of_tables)

  of_tables : planned_by planned.terms.shape (bounds_and_lists_by sources.Columns schema outcome_query tables) made.accuracy planned.terms.budget ≡ Ok plan
  of_tables =
      sym plans_same ∙ ap (λ (f : StatsFile). plan_from_file_asked planned.terms outcome_query f) (sym file_is)
      ∙ (planned_facts.made_run made schema bytes start bytes (tables_of start.database) start.known planned from).planned

  its_over : IsOver made planned schema outcome_query (tables_for_other start.query (tables_of start.database) outcome_query)
  its_over = planned_facts.over made schema bytes start bytes read start.known planned from

  pub plan_of_tables : PlanIsOfTables made planned schema
  plan_of_tables = record {
    query = outcome_query;
    tables = tables;
    over = its_over;
    plan = plan;
    same = of_tables;
    written = planned_facts.written made schema bytes start bytes read start.known planned from;
  }

  pub plan_near : ((query : Query) → AsksQuery planned.files planned.query_file schema query → FiltersNoEntry query) → PlanIsNear made planned schema
  plan_near none = record {
    query = outcome_query;
    tables = tables;
    over = its_over;
    plan = plan;
    near = parts_near planned.terms.shape schema outcome_query tables made.accuracy planned.terms.budget plan (none outcome_query its_over.asks)
        (planned_facts.of_schema made schema bytes start bytes read start.known planned from) of_tables;
    written = planned_facts.written made schema bytes start bytes read start.known planned from;
  }
