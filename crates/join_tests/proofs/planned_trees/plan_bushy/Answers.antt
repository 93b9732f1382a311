use Rattle.std.proofs.Common.{◌≡◌, ℕ, List, length, arith}
use Rattle.query_types.specs.declared.types.Query.{Query}
use Rattle.sql_meaning.specs.Tables.{Tables, tables_of}
use Rattle.join_steps.specs.Lists.{scans_of}
use Rattle.set_bounds.specs.AllSets.{in_every_set}
use Rattle.tree_bounds.specs.TreeBounds.{EntryBounds}
use Rattle.plan_answers.specs.TreeAnswer.{tree_answer}
use Rattle.query_bounds.specs.Bounds.{entry_bounds}
use Rattle.gathered_stats.specs.Statistics.{statistics_of}
use Rattle.bushy_join.specs.Trees.{IsTreePlanOf}
use Rattle.planning.specs.Bounds.{scan_bounds_of, set_bounds_of}
use Rattle.planning.proofs.Giving.{one_scan_bound_each, one_bound_for_each_set}
use Rattle.planning.proofs.NeverUnder.{one_scan_each, scans_are_bounded, levels_are_bounded}
use Rattle.bushy_planning.proofs.ChosenTrees.{answer_given, holds_for_plan, over_lists}
use Rattle.join_tests.proofs.planned_trees.plan_bushy.Goals as goal

pub plan_tree_from-requires : goal.plan_tree_from-requires
plan_tree_from-requires c =
    let query : Query = c.args.query.now in
    let tables : Tables = tables_of c.args.db.now in
    let known = c.in_ok-known.known in
    let bounds : ℕ → EntryBounds = in_every_set (entry_bounds query (statistics_of tables c.args.accuracy)) in
    let scans : List ℕ = scan_bounds_of query tables c.args.accuracy in
    let count : length known.scans ≡ length query.from = one_scan_bound_each query bounds scans known c.in_ok-known.ensures (one_scan_each query tables c.args.accuracy) in
    record {
      some = omega (arith, count, c.requires.database.some);
      few = omega (arith, count, c.requires.database.few);
      sets = one_bound_for_each_set query bounds scans known c.in_ok-known.ensures (one_scan_each query tables c.args.accuracy);
      budget = omega (arith, c.requires.budget);
    }

pub returns : goal.returns
returns c =
    let query : Query = c.args.query.now in
    let tables : Tables = tables_of c.args.db.now in
    let lists : List (List ℕ) = scans_of query tables in
    let sets : List ℕ = set_bounds_of query tables c.args.accuracy in
    let scans : List ℕ = scan_bounds_of query tables c.args.accuracy in
    let budget = c.args.budget in
    let answer = c.plan_tree_from.result in
    let is = answer_given sets scans c.in_ok-known.known c.in_ok-known.ensures budget answer c.plan_tree_from.ensures in
    record {
      plan = is;
      never_under = holds_for_plan (IsTreePlanOf query tables lists) (tree_answer sets scans budget) answer is (λ plan made.
          over_lists query tables lists sets scans budget plan (scans_are_bounded query tables c.args.accuracy) (omega (arith, c.requires.database.some))
          (omega (arith, c.requires.database.few)) made (levels_are_bounded query tables c.args.accuracy) c.requires.budget c.requires.database.rows_within_limit);
    }
