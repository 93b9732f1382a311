use Rattle.std.proofs.Common.{◌≡◌, ◌<◌, ◌^◌, ℕ, subst}
use Rattle.limits.specs.Profile.{greatest_entries}
use Rattle.entry_sets.proofs.Members.{is_subset_by_bits}
use Rattle.entry_sets.proofs.entry_set.EntrySet.is_within.Goals as goal

pub returns : goal.returns
returns c =
    let is : c.self.inside.bits ≡ c.args.self = c.self.view_is in
    let other_is : c.other.inside.bits ≡ c.args.other = c.other.view_is in
    let fits : c.args.self < 2 ^ greatest_entries = subst (λ (n : ℕ). n < 2 ^ greatest_entries) is c.self.invariant in
    rw (is, other_is) (is_subset_by_bits c.args.self c.args.other fits)
