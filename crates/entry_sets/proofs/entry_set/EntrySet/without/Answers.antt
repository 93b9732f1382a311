use Rattle.std.proofs.Common.{◌≡◌, ◌<◌, ◌^◌, ℕ, subst}
use Rattle.limits.specs.Profile.{greatest_entries}
use Rattle.entry_sets.proofs.Members.{without_entries, without_number}
use Rattle.entry_sets.proofs.entry_set.EntrySet.without.Goals as goal

pub returns-clause-entries : goal.returns-clause-entries
returns-clause-entries c other = let is : c.self.inside.bits ≡ c.args.self = c.self.view_is in rw is (without_entries c.args.self c.args.entry other c.requires)

pub returns-clause-number : goal.returns-clause-number
returns-clause-number c =
    let is : c.self.inside.bits ≡ c.args.self = c.self.view_is in
    let fits : c.args.self < 2 ^ greatest_entries = subst (λ (n : ℕ). n < 2 ^ greatest_entries) is c.self.invariant in
    rw is (without_number c.args.self c.args.entry fits c.requires)
