use Rattle.entry_sets.proofs.Listing.{set_bits, set_bits_only, set_entries, set_entries_only, set_increases}
use Rattle.entry_sets.proofs.laws.a_set_has_its_entries.Goals as goal

pub returns-clause-has : goal.returns-clause-has
returns-clause-has c set entry = (set_entries set entry, set_entries_only set entry)

pub returns-clause-bits : goal.returns-clause-bits
returns-clause-bits c set entry = (set_bits set entry, set_bits_only set entry)

pub returns-clause-ascend : goal.returns-clause-ascend
returns-clause-ascend c set = set_increases set
