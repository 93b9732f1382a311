use Rattle.std.proofs.Common.{refl}
use Rattle.planning.proofs.ReducedPlans.{reduced_of_scans}
use Rattle.reduced_scans.specs.Rounds.{reduced_of}
use Rattle.sql_meaning.specs.Tables.{tables_of}
use Rattle.prepared_runs.specs.Sources.{sets_by, lists_by, scans_by}
use Rattle.prepared_runs.proofs.KeptFacts.{own_bytes}
use Rattle.prepared_runs.proofs.scans.given_by.Goals as goal

pub returns-in_ok-known-in-Columns-clause-known : goal.returns-in_ok-known-in-Columns-clause-known
unfolding sets_by scans_by
returns-in_ok-known-in-Columns-clause-known c = rw c.in-Columns.is c.in_ok-known-in-Columns.ensures

pub returns-in_ok-known-in-Columns-clause-lists : goal.returns-in_ok-known-in-Columns-clause-lists
unfolding lists_by
returns-in_ok-known-in-Columns-clause-lists c = rw c.in-Columns.is refl

pub returns-in_ok-known-in-Keyed-clause-known : goal.returns-in_ok-known-in-Keyed-clause-known
unfolding sets_by scans_by
returns-in_ok-known-in-Keyed-clause-known c = rw c.in-Keyed.is c.in_ok-known-in-Keyed.ensures

pub returns-in_ok-known-in-Keyed-clause-lists : goal.returns-in_ok-known-in-Keyed-clause-lists
unfolding lists_by
returns-in_ok-known-in-Keyed-clause-lists c = rw c.in-Keyed.is refl

pub returns-in_ok-reduced-in-Reduced-clause-known : goal.returns-in_ok-reduced-in-Reduced-clause-known
unfolding sets_by scans_by
returns-in_ok-reduced-in-Reduced-clause-known c = rw c.in-Reduced.is c.in_ok-reduced-in-Reduced.ensures.gives

pub returns-in_ok-reduced-in-Reduced-clause-lists : goal.returns-in_ok-reduced-in-Reduced-clause-lists
unfolding lists_by
returns-in_ok-reduced-in-Reduced-clause-lists c = rw c.in-Reduced.is c.in_ok-reduced-in-Reduced.ensures.lists

pub returns-in_ok-reduced-in-Reduced-clause-exact : goal.returns-in_ok-reduced-in-Reduced-clause-exact
unfolding scans_by
returns-in_ok-reduced-in-Reduced-clause-exact c =
    let query = c.args.query.now in
    let tables = tables_of c.args.db.now in
    let made = c.in_ok-reduced-in-Reduced in
    rw c.in-Reduced.is (own_bytes query tables (reduced_of query tables) made.reduced.lists.items _ (reduced_of_scans query tables) made.ensures.lists made.ensures.capacity made.ensures.no_spare)

pub returns-in_ok-counted-in-Counted-clause-known : goal.returns-in_ok-counted-in-Counted-clause-known
unfolding sets_by scans_by
returns-in_ok-counted-in-Counted-clause-known c = rw c.in-Counted.is c.in_ok-counted-in-Counted.ensures.gives

pub returns-in_ok-counted-in-Counted-clause-lists : goal.returns-in_ok-counted-in-Counted-clause-lists
unfolding lists_by
returns-in_ok-counted-in-Counted-clause-lists c = rw c.in-Counted.is c.in_ok-counted-in-Counted.ensures.lists

pub returns-in_ok-counted-in-Counted-clause-exact : goal.returns-in_ok-counted-in-Counted-clause-exact
unfolding scans_by
returns-in_ok-counted-in-Counted-clause-exact c =
    let query = c.args.query.now in
    let tables = tables_of c.args.db.now in
    let made = c.in_ok-counted-in-Counted in
    rw c.in-Counted.is (own_bytes query tables (reduced_of query tables) made.counted.lists.items _ (reduced_of_scans query tables) made.ensures.lists made.ensures.capacity made.ensures.no_spare)
