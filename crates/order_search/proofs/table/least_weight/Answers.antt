use Rattle.std.proofs.Common.{◌≡◌, ◌-◌, ◌+◌, ℕ, length, arith, sym, subst, ◌∙◌, min}
use Rattle.std.proofs.lemmas.Bool.{iff_false}
use Rattle.std.specs.Int.{bit_at}
use Rattle.order_search.proofs.Lightest.{LeastOfTried, least_of_tried, tried_more, tried_other}
use Rattle.order_search.proofs.table.least_weight.Goals as goal
use Rattle.order_search.proofs.table.least_weight.Goals.{then-has, else-has}

pub loop-entry-preserved : goal.loop-entry-preserved
loop-entry-preserved c = elim c.if-has.branch [
  | then-has w ↦ (let has : bit_at c.args.left c.loop-entry.entry ≡ 1 = (c.has.ensures.bit (omega arith)).0 w.if-has.true in
      let more : LeastOfTried c.args.weight c.args.bounds.now c.args.table.now (length c.args.bounds.now - 1) c.args.left (c.loop-entry.entry + 1) (min c.loop-entry.least w.weight_through.result) =
      tried_more c.args.weight c.args.bounds.now c.args.table.now (length c.args.bounds.now - 1) c.args.left c.loop-entry.entry c.loop-entry.least w.weight_through.result
      c.loop-entry.invariant has w.weight_through.ensures w.weight_through.type_inv in
      subst (LeastOfTried c.args.weight c.args.bounds.now c.args.table.now (length c.args.bounds.now - 1) c.args.left (c.loop-entry.entry + 1)) (sym (w.least-is ∙ w.min-least.ensures)) more)
  | else-has w ↦ subst (LeastOfTried c.args.weight c.args.bounds.now c.args.table.now (length c.args.bounds.now - 1) c.args.left (c.loop-entry.entry + 1)) (sym w.least-is)
      (tried_other c.args.weight c.args.bounds.now c.args.table.now (length c.args.bounds.now - 1) c.args.left c.loop-entry.entry c.loop-entry.least c.loop-entry.invariant (iff_false (c.has.ensures.bit (omega arith)) w.if-has.false))
]

pub returns : goal.returns
returns c =
    let all : c.loop-entry.entry ≡ c.args.count = omega arith in
    least_of_tried c.args.weight c.args.bounds.now c.args.table.now c.args.count (length c.args.bounds.now - 1) c.args.left c.loop-entry.least
    (omega arith) (omega arith) c.requires.table
    (subst (λ (e : ℕ). LeastOfTried c.args.weight c.args.bounds.now c.args.table.now (length c.args.bounds.now - 1) c.args.left e c.loop-entry.least) all c.loop-entry.invariant)
