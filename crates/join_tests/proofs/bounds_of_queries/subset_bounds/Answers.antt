use Rattle.std.proofs.Common.{◌≡◌, ◌⊎◌, ℕ, ◌<◌, ◌≤◌, ◌^◌, List, length, get_or, ap, sym, ◌∙◌, subst}
use Rattle.limits.specs.Profile.{top_bound}
use Rattle.entry_sets.specs.Sets.{entries_of_set}
use Rattle.join_graph.specs.Conjuncts.{equalities_of}
use Rattle.sql_meaning.specs.Tables.{tables_of}
use Rattle.level_bounds.specs.Orders.{IsOrderOfSet}
use Rattle.level_bounds.specs.Scans.{level_over_entries}
use Rattle.query_bounds.specs.Bounds.{entry_bounds}
use Rattle.query_bounds.proofs.Sets.{empty_set_bound, set_count}
use Rattle.gathered_stats.specs.Statistics.{statistics_of}
use Rattle.planning.proofs.NeverUnder.{level_never_under}
use Rattle.join_tests.proofs.bounds_of_queries.subset_bounds.Goals as goal

pub returns-clause-exact : goal.returns-clause-exact
returns-clause-exact c = c.in_ok-known.ensures.sets

pub returns-clause-count : goal.returns-clause-count
returns-clause-count c =
    let query = c.args.query.now in
    ap (λ (s : List ℕ). length s) c.in_ok-known.ensures.sets
    ∙ set_count (entry_bounds query (statistics_of (tables_of c.args.db.now) c.args.accuracy)) (equalities_of query) (length query.from)

pub returns-clause-of_nothing : goal.returns-clause-of_nothing
returns-clause-of_nothing c =
    let query = c.args.query.now in
    ap (λ (s : List ℕ). get_or s 0 0) c.in_ok-known.ensures.sets
    ∙ empty_set_bound (entry_bounds query (statistics_of (tables_of c.args.db.now) c.args.accuracy)) (equalities_of query) (length query.from)

pub returns-clause-never_under : goal.returns-clause-never_under
returns-clause-never_under c =
    let query = c.args.query.now in
    let tables = tables_of c.args.db.now in
    let LevelsFit : List ℕ → Type 0 = λ bounds. (subset : ℕ) (order : List ℕ) → subset < 2 ^ length query.from → IsOrderOfSet (entries_of_set subset) order
    → (length (level_over_entries query tables order) ≤ get_or bounds subset 0) ⊎ (get_or bounds subset 0 ≡ top_bound) in
    subst LevelsFit (sym c.in_ok-known.ensures.sets) (level_never_under query tables c.args.accuracy)
