use Rattle.std.proofs.Common.{◌≡◌}
use Rattle.entry_sets.proofs.Members.{with_entries, with_number}
use Rattle.entry_sets.proofs.entry_set.EntrySet.with.Goals as goal

pub returns-clause-entries : goal.returns-clause-entries
returns-clause-entries c other = let is : c.self.inside.bits ≡ c.args.self = c.self.view_is in rw is (with_entries c.args.self c.args.entry other c.requires)

pub returns-clause-number : goal.returns-clause-number
returns-clause-number c = let is : c.self.inside.bits ≡ c.args.self = c.self.view_is in rw is (with_number c.args.self c.args.entry c.requires)
