use Rattle.std.proofs.Common.{◌≡◌, ◌∙◌, sym, true}
use Rattle.std.specs.Prelude.{IsSome}
use Rattle.entry_sets.specs.Sets.{has_entry}
use Rattle.bound_fold.specs.Lists.{row_bound_of}
use Rattle.bench_fold.proofs.TestResults.{test_under_true_condition}
use Rattle.bench_fold.proofs.listed.may_have_rows.Goals as goal

pub returns-then-has : goal.returns-then-has
returns-then-has c =
    test_under_true_condition c.has_rows.result (has_entry c.args.subset c.args.entry ≡ true) (IsSome (row_bound_of c.args.lists.now c.args.entry)) (sym c.has.ensures.value ∙ c.if-has.true) c.has_rows.ensures
