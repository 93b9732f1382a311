use Rattle.std.proofs.Common.{◌≡◌, take}
use Rattle.safebound_plans.specs.Bits.{all_in_128_bits}
use Rattle.safebound_plans.proofs.widening.bounds_in_128_bits.Given as goal

abbrev pub invariant-loop-bound : goal.invariant-loop-bound
invariant-loop-bound l = l.wide.items ≡ all_in_128_bits (take l.bound-index l.bounds)
