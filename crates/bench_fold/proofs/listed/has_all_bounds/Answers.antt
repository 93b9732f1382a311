use Rattle.std.proofs.Common.{ℕ, List, false, sym, subst}
use Rattle.std.specs.Prelude.{IsSome}
use Rattle.berge_tree.specs.declared.edges.Edge.{Edge}
use Rattle.join_graph.specs.Kept.{equalities_within}
use Rattle.tree_bounds.specs.Columns.{EachNamedColumn}
use Rattle.bound_fold.specs.declared.lists.EntryLists.{EntryLists}
use Rattle.bound_fold.specs.Lists.{list_of}
use Rattle.bound_fold.specs.Sets.{SetHasBounds}
use Rattle.bench_fold.proofs.TestResults.{test_of_equivalent_fact, true_exactly_if_fact}
use Rattle.bench_fold.proofs.listed.has_all_bounds.Goals as goal

pub returns-then-not-all_have_rows : goal.returns-then-not-all_have_rows
returns-then-not-all_have_rows c = true_exactly_if_fact false (SetHasBounds c.args.lists.now c.args.parts.now.equalities c.args.subset) (λ h. c.if-not-all_have_rows.ensures h.rows)

abbrev EachNamedColumnHasList : EntryLists → ℕ → List Edge → Type 0
EachNamedColumnHasList lists subset es = EachNamedColumn (λ entry column. IsSome (list_of lists entry column)) (equalities_within subset es)

pub returns : goal.returns
returns c =
    true_exactly_if_fact c.all_have_lists.result (SetHasBounds c.args.lists.now c.args.parts.now.equalities c.args.subset)
    (test_of_equivalent_fact c.all_have_lists.result (EachNamedColumnHasList c.args.lists.now c.args.subset c.as_slice.result.now) (SetHasBounds c.args.lists.now c.args.parts.now.equalities c.args.subset)
    (λ columns. record { rows = c.if-not-all_have_rows.ensures; columns = subst (EachNamedColumnHasList c.args.lists.now c.args.subset) c.as_slice.ensures columns })
    (λ h. subst (EachNamedColumnHasList c.args.lists.now c.args.subset) (sym c.as_slice.ensures) h.columns) c.all_have_lists.ensures)
