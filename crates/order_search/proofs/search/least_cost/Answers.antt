use Rattle.std.proofs.Common.{◌-◌, length, arith}
use Rattle.std.proofs.lemmas.List.{get_or_read}
use Rattle.std.proofs.lemmas.Nat.{pow_pos}
use Rattle.order_search.proofs.BestFound.{least_cost_from}
use Rattle.order_search.proofs.search.least_cost.Goals as goal

pub returns : goal.returns
returns c =
    least_cost_from c.args.bounds.now c.in_ok-costs.costs.items c.args.count c.index.result.now c.requires.bounds c.in_ok-costs.ensures.table
    (get_or_read c.in_ok-costs.costs.items (length c.args.bounds.now - 1) c.index.result.now (omega (arith, c.in_ok-costs.ensures.filled, c.requires.bounds, pow_pos c.args.count)) c.index.ensures 0)
