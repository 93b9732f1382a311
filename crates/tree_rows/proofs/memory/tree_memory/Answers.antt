use Rattle.std.proofs.Common.{ℕ, ◌+◌, ◌<◌, List, length, ap, sym, ◌∙◌, subst, arith}
use Rattle.std.specs.List.{AllByRecursion}
use Rattle.plans.specs.declared.bushy.Join.{Join}
use Rattle.tree_rows.specs.Memory.{joins_bytes}
use Rattle.tree_rows.proofs.RoomFacts.{right_exist}
use Rattle.tree_rows.proofs.memory.tree_memory.Goals as goal

pub joins_memory-requires-clause-few : goal.joins_memory-requires-clause-few
joins_memory-requires-clause-few c =
    let scans = ap (length {A = ℕ}) c.as_slice.ensures in
    let joins = ap (length {A = Join}) c.as_slice-2.ensures in
    (omega (arith, scans, c.requires.few), omega (arith, joins, c.requires.few, c.requires.joins))

pub joins_memory-requires-clause-nodes : goal.joins_memory-requires-clause-nodes
joins_memory-requires-clause-nodes c =
    subst (λ (scans : List ℕ). AllByRecursion (λ join. join.right < length scans + length c.as_slice-2.result.now) c.as_slice-2.result.now) (sym c.as_slice.ensures)
    (subst (λ (joins : List Join). AllByRecursion (λ join. join.right < length c.args.plan.now.scans + length joins) joins) (sym c.as_slice-2.ensures) (right_exist (length c.args.plan.now.scans) c.args.plan.now.joins c.requires.behind))

pub returns-clause-value : goal.returns-clause-value
returns-clause-value c =
    c.joins_memory.ensures.value
    ∙ ap (λ (s : List ℕ). joins_bytes s c.as_slice-2.result.now) c.as_slice.ensures
    ∙ ap (λ (j : List Join). joins_bytes c.args.plan.now.scans j) c.as_slice-2.ensures
