-- The facts of FewRows, for any input of an execution.
use Rattle.std.proofs.Common.{◌≡◌, ap, sym, ◌∙◌, subst}
use Rattle.csv_tables.specs.declared.types.Cells.{Cells}
use Rattle.csv_tables.specs.declared.types.Database.{Database}
use Rattle.query_types.specs.declared.types.Query.{Query}
use Rattle.sql_meaning.specs.Databases.{IsDatabaseOf}
use Rattle.sql_meaning.specs.Tables.{tables_of}
use Rattle.join_steps.specs.Lists.{scans_of}
use Rattle.plans.specs.declared.bushy.BushyPlan.{BushyPlan}
use Rattle.bushy_join.specs.Trees.{IsTreePlanOf}
use Rattle.bench_joins.specs.Tables.{join_of, each_repeated, plan_of, table_of, tables_of_two, AreTwoTables, IsJoinOfTwo}
use Rattle.bench_joins.proofs.FewRows.{fits, planned}

module _ (plan : BushyPlan) (query : Query) (db : Database) (is : IsJoinOfTwo plan query db) where
  abbrev two : AreTwoTables is.left is.right is.repeats db
  two = is.are_two

  abbrev first : Cells
  first = table_of is.left two.is_first.keys two.is_first.values

  abbrev second : Cells
  second = table_of is.right (each_repeated is.right is.repeats) two.is_second.values

  whole : db ≡ tables_of_two first second
  whole = two.is ∙ ap (λ (c : Cells). tables_of_two c two.second) two.is_first.is ∙ ap (λ (c : Cells). tables_of_two first c) two.is_second.is

  holds_for_these_tables : (P : Query → Database → Type 0) → P (join_of is.comparison) (tables_of_two first second) → P query db
  holds_for_these_tables P here = subst (λ (q : Query). P q db) (sym is.is_query) (subst (λ (d : Database). P (join_of is.comparison) d) (sym whole) here)

  pub two_tables_are_database : IsDatabaseOf query db
  two_tables_are_database = holds_for_these_tables IsDatabaseOf
      (fits is.left is.right is.repeats is.comparison two.is_first.keys two.is_first.values two.is_second.values two.is_first.are_keys two.is_first.are_values two.is_second.are_values is.some is.few_right is.few_left)

  pub plan_of_two_is_of_query : IsTreePlanOf query (tables_of db) (scans_of query (tables_of db)) plan
  plan_of_two_is_of_query = subst (IsTreePlanOf query (tables_of db) (scans_of query (tables_of db))) (sym is.is_plan)
      (holds_for_these_tables (λ q d. IsTreePlanOf q (tables_of d) (scans_of q (tables_of d)) (plan_of is.left is.right is.repeats))
      (planned is.left is.right is.repeats is.comparison two.is_first.keys two.is_first.values two.is_second.values two.is_first.are_keys two.is_first.are_values two.is_second.are_values is.some is.few_right is.few_left is.few_joined))
