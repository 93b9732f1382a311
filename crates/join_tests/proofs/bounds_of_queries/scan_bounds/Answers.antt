use Rattle.std.proofs.Common.{ℕ, ◌≤◌, List, length, map, get_or, ap, sym, ◌∙◌, subst}
use Rattle.std.specs.List.{range_with_len}
use Rattle.bound_fold.specs.Lists.{bounds_of}
use Rattle.sql_meaning.specs.Tables.{tables_of}
use Rattle.level_bounds.specs.Scans.{query_scan}
use Rattle.gathered_stats.specs.Statistics.{statistics_of}
use Rattle.planning.proofs.Giving.{scans_from_statistics}
use Rattle.planning.proofs.NeverUnder.{scan_never_under}
use Rattle.join_tests.proofs.bounds_of_queries.scan_bounds.Goals as goal

pub returns-clause-exact : goal.returns-clause-exact
returns-clause-exact c =
    let stats = statistics_of (tables_of c.args.db.now) c.args.accuracy in
    c.in_ok-scans.ensures ∙ ap (λ (n : ℕ). map (bounds_of c.in_ok-lists.lists).rows (range_with_len 0 n)) c.len.ensures
    ∙ scans_from_statistics c.args.query.now stats c.in_ok-lists.lists (c.in_ok-lists.ensures.bounds stats c.in_ok-stats.ensures.tells)

pub returns-clause-never_under : goal.returns-clause-never_under
returns-clause-never_under c entry low =
    subst (λ (s : List ℕ). length (query_scan c.args.query.now (tables_of c.args.db.now) entry) ≤ get_or s entry 0) (sym (returns-clause-exact c))
    (scan_never_under c.args.query.now (tables_of c.args.db.now) c.args.accuracy entry low)
