use Rattle.std.proofs.Common.{length, arith}
use Rattle.std.proofs.lemmas.Result.{err_from_is_err_and}
use Rattle.predicate_bounds.specs.declared.columns.QueryStats.{QueryStats}
use Rattle.stats_file_of_query.proofs.Finding.{none_found}
use Rattle.stats_file_bounds.specs.Entries.{HasStatsFromFile}
use Rattle.stats_file_bounds.specs.Found.{is_missing}
use Rattle.stats_file_bounds.proofs.EntryFacts.{need_cause}
use Rattle.stats_file_bounds.proofs.Telling.{all_told, one_each}
use Rattle.stats_file_bounds.proofs.stats.query_stats.Goals as goal
use borrow.Author.Count.{below_more}

pub returns-in_err-entry_stats-clause-missing : goal.returns-in_err-entry_stats-clause-missing
returns-in_err-entry_stats-clause-missing c =
    let p = err_from_is_err_and c.from_residual.result c.from_residual.ensures.1 in
    rw (p.1, p.2)
    (need_cause c.args.query.now c.args.file.now c.loop-entry.entry c.in_err-entry_stats.field-0.0 (omega (arith, c.loop-entry-test.true, c.len-entry-end.ensures)) c.loop-entry.invariant.1
    c.in_err-entry_stats.ensures.missing)

pub loop-entry-preserved : goal.loop-entry-preserved
loop-entry-preserved c = (
  one_each (HasStatsFromFile c.args.query.now c.args.file.now) c.loop-entry.entry c.loop-entry.entries c.push.new.self c.in_ok-entry_stats.field-0 c.loop-entry.invariant.0 c.in_ok-entry_stats.ensures.told
      c.in_ok-push.ensures.ok,
  below_more _ _ c.loop-entry.invariant.1 c.in_ok-entry_stats.ensures.there,
)

pub returns-clause-tells : goal.returns-clause-tells
returns-clause-tells c =
    let stats : QueryStats = record { entries = c.loop-entry.entries } in
    all_told c.args.query.now c.args.file.now c.requires.file c.requires.own stats
    (λ entry entry_in_range. c.loop-entry.invariant.0.each entry (omega (arith, entry_in_range, c.loop-entry-test.false, c.len-entry-end.ensures)))
    (λ entry entry_in_range. c.loop-entry.invariant.1 entry (omega (arith, entry_in_range, c.loop-entry-test.false, c.len-entry-end.ensures)))
    (omega (arith, c.loop-entry.invariant.0.as_many, c.loop-entry-test.false, c.loop-entry.auto.entry-end, c.len-entry-end.ensures))

pub returns-clause-none_missing : goal.returns-clause-none_missing
returns-clause-none_missing c =
    none_found (is_missing c.args.query.now c.args.file.now) 0 (length c.args.query.now.from)
    (λ k from to. c.loop-entry.invariant.1 k (omega (arith, to, c.loop-entry-test.false, c.len-entry-end.ensures)))
