-- No scan has more rows than its bound.
use Rattle.std.proofs.Common.{◌≡◌, ℕ, ◌<◌, ◌≤◌, List, map, length, get_or, sym, subst}
use Rattle.std.specs.List.{range_with_len}
use Rattle.query_types.specs.declared.types.Query.{Query}
use Rattle.sql_meaning.specs.Tables.{Tables}
use Rattle.level_bounds.specs.Keys.{Keys}
use Rattle.level_bounds.specs.Scans.{query_scan}
use Rattle.filtered_lists.proofs.Counting.{count_is_enough}
use Rattle.query_bounds.specs.Bounds.{scan_row_bound}
use Rattle.query_bounds.specs.Statistics.{StandFor, Statistics}
use Rattle.query_bounds.proofs.Sets.{scan_at}

pub scan_fits : (query : Query) (known : Statistics) (tables : Tables) (key : Keys) (entry : ℕ) → StandFor query known tables key → entry < length query.from
    → length (query_scan query tables entry) ≤ scan_row_bound query known entry
scan_fits query known tables key entry stands low = count_is_enough (known.counts entry) tables entry query.conjuncts (stands.counts entry low)

pub scan_within : (query : Query) (known : Statistics) (tables : Tables) (key : Keys) (entry : ℕ) (scans : List ℕ) → scans ≡ map (scan_row_bound query known) (range_with_len 0 (length query.from))
    → StandFor query known tables key → entry < length query.from → length (query_scan query tables entry) ≤ get_or scans entry 0
scan_within query known tables key entry scans is stands low =
    subst (λ (n : ℕ). length (query_scan query tables entry) ≤ n) (sym (scan_at query known (length query.from) entry scans is low)) (scan_fits query known tables key entry stands low)
