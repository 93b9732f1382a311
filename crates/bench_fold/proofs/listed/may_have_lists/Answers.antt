use Rattle.std.proofs.Common.{◌≡◌, ◌∙◌, sym, true}
use Rattle.join_graph.specs.Kept.{joins_within}
use Rattle.bound_fold.specs.Sets.{HaveLists}
use Rattle.bench_fold.proofs.TestResults.{test_under_true_condition}
use Rattle.bench_fold.proofs.listed.may_have_lists.Goals as goal

pub returns-then-joins_within : goal.returns-then-joins_within
returns-then-joins_within c =
    test_under_true_condition c.has_lists.result (joins_within c.args.subset c.args.edge ≡ true) (HaveLists c.args.lists.now c.args.edge) (sym c.joins_within.ensures ∙ c.if-joins_within.true) c.has_lists.ensures
