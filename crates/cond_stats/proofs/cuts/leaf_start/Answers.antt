use Rattle.std.proofs.Common.{rules, ℕ, leb, length, arith}
use Rattle.std.proofs.lemmas.List.Sorted.{IsPartitionPoint-from_clause, IsPartitionedBy-leb}
use Rattle.cond_stats.specs.declared.groups.ValueRun.{ValueRun}
use Rattle.cond_stats.proofs.LeafStarts.{starts_rise, start_found, no_start}
use Rattle.cond_stats.proofs.LeavesFound.{cut_place}
use Rattle.cond_stats.proofs.cuts.leaf_start.Goals as goal

pub returns-then-below-eq0 : goal.returns-then-below-eq0
returns-then-below-eq0 c numbers places rows are =
    let cut : ℕ = cut_place (length numbers) c.args.leaf in
    no_start are c.args.leaf c.partition_point-below.result (omega (arith, c.requires.leaf, c.if-leaf-eq32.false)) c.partition_point-below.ensures.bound
    (IsPartitionPoint-from_clause (λ (run : ValueRun). leb run.start cut) c.args.runs.now c.partition_point-below.result c.partition_point-below.ensures.partitioned
    (IsPartitionedBy-leb (λ (run : ValueRun). run.start) c.args.runs.now cut (starts_rise are)) (λ a r q k. search rules))
    c.if-below-eq0.true

pub returns : goal.returns
returns c numbers places rows are =
    let cut : ℕ = cut_place (length numbers) c.args.leaf in
    start_found are c.args.leaf c.partition_point-below.result (omega (arith, c.requires.leaf, c.if-leaf-eq32.false)) c.partition_point-below.ensures.bound
    (IsPartitionPoint-from_clause (λ (run : ValueRun). leb run.start cut) c.args.runs.now c.partition_point-below.result c.partition_point-below.ensures.partitioned
    (IsPartitionedBy-leb (λ (run : ValueRun). run.start) c.args.runs.now cut (starts_rise are)) (λ a r q k. search rules))
    (omega (arith, c.if-below-eq0.false))
