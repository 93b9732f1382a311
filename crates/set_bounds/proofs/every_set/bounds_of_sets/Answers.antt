use Rattle.std.proofs.Common.{◌≡◌, refl}
use Rattle.std.proofs.lemmas.Result.{IfOk-weaker}
use Rattle.bound_fold.specs.Lists.{bounds_of}
use Rattle.set_bounds.specs.AllSets.{bounds_of_sets}
use Rattle.set_bounds.proofs.Listing.{first_entries_have_bounds}
use Rattle.set_bounds.proofs.SetBySet.{AreNeverTooLow, never_under}
use Rattle.set_bounds.proofs.every_set.bounds_of_sets.Goals as goal

pub bounds_in_sets-requires-clause-listed : goal.bounds_in_sets-requires-clause-listed
bounds_in_sets-requires-clause-listed c subset fits = first_entries_have_bounds c.args.lists.now c.args.parts.now.equalities c.args.count subset c.requires.listed fits

pub bounds_in_sets-requires-clause-depends_on_parts : goal.bounds_in_sets-requires-clause-depends_on_parts
bounds_in_sets-requires-clause-depends_on_parts c subset part rest parted = (refl, refl)

pub returns-clause-exact : goal.returns-clause-exact
returns-clause-exact c = c.bounds_in_sets.ensures

pub returns-clause-never_under : goal.returns-clause-never_under
returns-clause-never_under c =
    IfOk-weaker c.bounds_in_sets.result (λ bounds. bounds ≡ bounds_of_sets (bounds_of c.args.lists.now) c.args.parts.now.equalities c.args.count)
    (AreNeverTooLow c.args.lists.now c.args.parts.now.equalities c.args.count)
    (λ bounds is. never_under c.args.lists.now c.args.parts.now.equalities c.args.count bounds c.requires.listed is) c.bounds_in_sets.ensures
