use Rattle.std.proofs.Common.{◌≡◌, drop, map, slice_index}
use Rattle.sql_meaning.specs.Conditions.{all_of, any_of, cond_holds}
use Rattle.sql_meaning.specs.Tables.{tables_of}
use Rattle.sql_meaning.proofs.conditions.+holds.Given as goal

abbrev pub decreases-holds : goal.decreases-holds
decreases-holds l = goal.size-holds l

abbrev pub invariant-all : goal.invariant-all
invariant-all l =
    all_of (map (cond_holds (tables_of l.db) (slice_index l.rows)) (drop l.member-index l.member-items)) ≡ cond_holds (tables_of l.db) (slice_index l.rows) l.cond

abbrev pub invariant-any : goal.invariant-any
invariant-any l =
    any_of (map (cond_holds (tables_of l.db) (slice_index l.rows)) (drop l.member-index l.member-items)) ≡ cond_holds (tables_of l.db) (slice_index l.rows) l.cond
