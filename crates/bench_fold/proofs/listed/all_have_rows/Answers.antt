use Rattle.std.proofs.Common.{arith}
use Rattle.std.specs.Prelude.{IsSome}
use Rattle.bound_fold.specs.Lists.{row_bound_of}
use Rattle.bound_fold.proofs.TestedSets.{entry_at, entry_more, each_in_set}
use Rattle.bench_fold.proofs.listed.all_have_rows.Goals as goal

pub loop-entry-preserved : goal.loop-entry-preserved
loop-entry-preserved c = entry_more (λ k. IsSome (row_bound_of c.args.lists.now k)) c.args.subset c.loop-entry.entry c.loop-entry.invariant c.if-not-may_have_rows.ensures

pub returns : goal.returns
returns c = each_in_set (λ k. IsSome (row_bound_of c.args.lists.now k)) c.args.subset (λ k low has. c.loop-entry.invariant k (omega arith) has)

pub returns-then-not-may_have_rows : goal.returns-then-not-may_have_rows
returns-then-not-may_have_rows c = λ h.
    c.if-not-may_have_rows.ensures.1 (entry_at (λ k. IsSome (row_bound_of c.args.lists.now k)) c.args.subset h c.loop-entry.entry c.if-not-may_have_rows.ensures.0)
