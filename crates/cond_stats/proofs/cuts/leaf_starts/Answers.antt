use Rattle.std.proofs.Common.{List, ℕ, ◌<◌, ◌+◌, length, get_or, subst, sym, ◌∙◌, arith, ap}
use Rattle.std.proofs.lemmas.List.{length_push}
use Rattle.cond_stats.specs.Runs.{IsLeafStart}
use Rattle.cond_stats.proofs.InOrderFacts.{as_many_places, as_many_numbers}
use Rattle.cond_stats.proofs.LeafStarts.{starts-push}
use Rattle.cond_stats.proofs.LeavesFound.{starts_found}
use Rattle.cond_stats.proofs.cuts.leaf_starts.Goals as goal

pub loop-leaf-preserved : goal.loop-leaf-preserved
loop-leaf-preserved c = (
  omega (arith, ap length c.in_ok-push.ensures.items, length_push c.loop-leaf.starts.items c.leaf_start.result, c.loop-leaf.invariant.0),
  λ numbers places rows are. subst (λ (s : List ℕ). (leaf : ℕ) → leaf < c.loop-leaf.leaf + 1 → IsLeafStart numbers leaf (get_or s leaf 0)) (sym c.in_ok-push.ensures.items)
      (starts-push numbers c.loop-leaf.starts.items c.loop-leaf.leaf c.leaf_start.result c.loop-leaf.invariant.0 (c.loop-leaf.invariant.1 numbers places rows are) (c.leaf_start.ensures numbers places rows are)),
)

pub returns : goal.returns
returns c at_most column places rows in_runs = starts_found in_runs.order c.loop-leaf.starts.items (as_many_numbers in_runs.order)
    (omega (arith, c.loop-leaf.invariant.0))
    (λ leaf is_below. c.loop-leaf.invariant.1 in_runs.numbers places (as_many_numbers in_runs.order ∙ as_many_places in_runs.order ∙ rows) in_runs.runs_are leaf (omega arith))
