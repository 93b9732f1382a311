use Rattle.std.proofs.Common.{◌≡◌, ◌*◌, ◌%◌, ◌^◌, ◌-◌, ap, arith}
use Rattle.entry_sets.proofs.Bits.{entry_below, power_within}
use Rattle.bushy_plan.proofs.splits.without_first.Goals as goal

pub overflow_shl-result : goal.overflow_shl-result
overflow_shl-result c = entry_below 64 c.args.set c.first_entry.result c.ranges.set.fits c.first_entry.ensures.is_in

pub overflow_sub-result : goal.overflow_sub-result
overflow_sub-result c = omega (arith, power_within c.first_entry.result c.args.set c.first_entry.ensures.is_in, c.ranges.set.fits)

pub returns : goal.returns
returns c =
    let shifted : 1 * 2 ^ c.first_entry.result % 18446744073709551616 ≡ 2 ^ c.first_entry.result =
    omega (arith, power_within c.first_entry.result c.args.set c.first_entry.ensures.is_in, c.ranges.set.fits) in
    record {
      first = c.first_entry.result;
      is_first = c.first_entry.ensures;
      others = ap (λ k. c.args.set - k) shifted;
    }
