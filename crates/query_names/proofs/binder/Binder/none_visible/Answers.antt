use Rattle.std.proofs.Common.{refl}
use Rattle.query_names.proofs.ScopeFacts.{first_two_enough_in_empty_scope}
use Rattle.query_names.proofs.binder.Binder.none_visible.Goals as goal

pub returns-clause-first_two_enough : goal.returns-clause-first_two_enough
returns-clause-first_two_enough c = first_two_enough_in_empty_scope c.args.self.now _ c.args.first refl c.new.ensures
