use Rattle.std.proofs.Common.{◌<◌, ◌^◌, ℕ, subst, arith}
use Rattle.planning.proofs.Giving.{one_each}
use Rattle.gathered_stats.specs.Statistics.{statistics_of}
use Rattle.key_bounds.specs.TableStats.{AreStatsOfSomeTables}
use Rattle.key_bounds.proofs.Keying.{are_keyed, keys_give_bounds, bounds_depend_on_parts}
use Rattle.key_bounds.proofs.sources.from_carried.Goals as goal

pub entry_lists-requires-clause-told : goal.entry_lists-requires-clause-told
entry_lists-requires-clause-told c = record { known = statistics_of c.requires.told.tables c.requires.told.accuracy; tells = c.requires.told.tell.own }

pub bounds_from-requires-clause-few : goal.bounds_from-requires-clause-few
bounds_from-requires-clause-few c =
    omega (
      arith,
      one_each c.args.query.now c.args.parts.now.equalities c.requires.equalities c.in_ok-own.own c.in_ok-scans.scans c.len-count.result c.len-count.ensures c.in_ok-scans.ensures,
      c.requires.few,
    )

pub bounds_from-requires-clause-listed : goal.bounds_from-requires-clause-listed
bounds_from-requires-clause-listed c = λ subset fits.
    let are_stats : AreStatsOfSomeTables c.args.query.now c.args.stats.now c.args.carried = c.requires.told in
    are_keyed are_stats.schema c.args.query.now are_stats.tables are_stats.accuracy c.args.carried are_stats.tell.along c.in_ok-own.own
    (c.in_ok-own.ensures.holds (statistics_of are_stats.tables are_stats.accuracy) are_stats.tell.own) c.len-count.result c.len-count.ensures c.args.parts.now.equalities c.requires.equalities c.requires.named
    c.requires.few subset
    (subst (λ (n : ℕ). subset < 2 ^ n)
    (one_each c.args.query.now c.args.parts.now.equalities c.requires.equalities c.in_ok-own.own c.in_ok-scans.scans c.len-count.result c.len-count.ensures c.in_ok-scans.ensures) fits)

pub bounds_from-requires-clause-depends_on_parts : goal.bounds_from-requires-clause-depends_on_parts
bounds_from-requires-clause-depends_on_parts c =
    let are_stats : AreStatsOfSomeTables c.args.query.now c.args.stats.now c.args.carried = c.requires.told in
    bounds_depend_on_parts are_stats.schema c.args.query.now are_stats.tables are_stats.accuracy c.args.carried are_stats.tell.along c.in_ok-own.own
    (c.in_ok-own.ensures.holds (statistics_of are_stats.tables are_stats.accuracy) are_stats.tell.own) c.len-count.result c.len-count.ensures c.args.parts.now.equalities c.requires.equalities c.requires.named

pub returns : goal.returns
returns c = λ schema tables accuracy tell.
    keys_give_bounds schema c.args.query.now tables accuracy c.args.carried tell.along c.in_ok-own.own (c.in_ok-own.ensures.holds (statistics_of tables accuracy) tell.own) c.len-count.result
    c.len-count.ensures c.args.parts.now.equalities c.in_ok-scans.scans c.in_ok-known.known c.requires.equalities c.in_ok-scans.ensures
    (one_each c.args.query.now c.args.parts.now.equalities c.requires.equalities c.in_ok-own.own c.in_ok-scans.scans c.len-count.result c.len-count.ensures c.in_ok-scans.ensures)
    (c.in_ok-own.ensures.bounds (statistics_of tables accuracy) tell.own) c.in_ok-known.ensures.sets c.in_ok-known.ensures.scans
