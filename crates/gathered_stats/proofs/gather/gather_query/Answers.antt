use Rattle.std.proofs.Common.{ℕ, subst, arith}
use Rattle.predicate_bounds.specs.declared.columns.QueryStats.{QueryStats}
use Rattle.table_stats.proofs.Summing.{lists_sum}
use Rattle.sql_meaning.specs.Tables.{tables_of}
use Rattle.gathered_stats.specs.Asked.{AreGathered}
use Rattle.gathered_stats.proofs.Entries.{one_gathered}
use Rattle.gathered_stats.proofs.StatisticsOfTables.{has_statistics, their_lists}
use Rattle.gathered_stats.proofs.gather.gather_query.Goals as goal

pub loop-entry-preserved : goal.loop-entry-preserved
loop-entry-preserved c =
    one_gathered c.args.query.now c.args.db.now c.args.accuracy c.loop-entry.entry c.loop-entry.entries c.push.new.self c.in_ok-stats.stats c.loop-entry.invariant c.in_ok-stats.ensures c.in_ok-push.ensures.ok

pub returns : goal.returns
returns c =
    let stats : QueryStats = record { entries = c.loop-entry.entries } in
    record {
      tells = has_statistics c.args.query.now c.args.db.now c.args.accuracy c.requires.database c.characters_differ.ensures (their_lists c.args.db.now c.args.accuracy c.requires.database.tables c.characters_differ.ensures)
          (λ entry column. lists_sum (tables_of c.args.db.now) c.args.accuracy entry column) stats
          (λ entry is_below. c.loop-entry.invariant.each entry (omega (arith, is_below, c.loop-entry-test.false, c.len-entry-end.ensures)))
          (omega (arith, c.loop-entry.invariant.as_many, c.loop-entry-test.false, c.loop-entry.auto.entry-end, c.len-entry-end.ensures));
      gathered = subst (λ (n : ℕ). AreGathered c.args.query.now c.args.db.now c.args.accuracy n c.loop-entry.entries)
          (omega (arith, c.loop-entry-test.false, c.loop-entry.auto.entry-end, c.len-entry-end.ensures)) c.loop-entry.invariant;
    }
