use Rattle.std.proofs.Common.{◌≡◌, ℕ, List, length, ap, ◌∙◌}
use Rattle.std.proofs.lemmas.Result.{IfOk-weaker}
use Rattle.row_buf.specs.Rows.{Rows}
use Rattle.join_graph.specs.Conjuncts.{equalities_of}
use Rattle.sql_meaning.specs.Tables.{tables_of}
use Rattle.level_bounds.specs.Keys.{are_equal_at}
use Rattle.join_steps.specs.Lists.{list_at, lists_of, scans_of}
use Rattle.reduced_scans.specs.Lists.{AreRowLists}
use Rattle.reduced_scans.specs.Rounds.{reduced_of}
use Rattle.reduced_scans.specs.Scans.{AreReducedScans}
use Rattle.reduced_scans.proofs.ByRounds.{reduced_scans_by_rounds}
use Rattle.reduced_scans.proofs.OneReduced.{one_reduced}
use Rattle.planning.proofs.ReducedLists.{lists_of_db}
use Rattle.planning.proofs.reduced.reduced_lists.Goals as goal

pub reduce_scans-requires-clause-count : goal.reduce_scans-requires-clause-count
reduce_scans-requires-clause-count c = ap (λ (s : List (Rows ℕ)). length s) c.deref.ensures.value ∙ c.in_ok-scans.ensures.count

pub reduce_scans-requires-clause-scans : goal.reduce_scans-requires-clause-scans
reduce_scans-requires-clause-scans c entry entry_in_range = ap (λ (s : List (Rows ℕ)). list_at (lists_of s) entry) c.deref.ensures.value ∙ c.in_ok-scans.ensures.scans entry entry_in_range

pub returns-clause-reduced : goal.returns-clause-reduced
returns-clause-reduced c =
    let query = c.args.query.now in
    let tables = tables_of c.args.db.now in
    IfOk-weaker c.reduce_scans.result (λ lists. AreReducedScans query tables (lists_of lists.items)) (λ lists. lists_of lists.items ≡ reduced_of query tables)
    (λ lists are. one_reduced (scans_of query tables) (equalities_of query) (are_equal_at tables) (lists_of lists.items) (reduced_of query tables) are (reduced_scans_by_rounds query tables))
    c.reduce_scans.ensures.reduced

pub returns-clause-lists : goal.returns-clause-lists
returns-clause-lists c =
    let query = c.args.query.now in
    let db = c.args.db.now in
    IfOk-weaker c.reduce_scans.result (λ lists. AreReducedScans query (tables_of db) (lists_of lists.items)) (λ lists. AreRowLists db lists.items)
    (λ lists are. lists_of_db query db lists.items c.requires.database are.consistent.is_family)
    c.reduce_scans.ensures.reduced
