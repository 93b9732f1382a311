use Rattle.std.proofs.Common.{ℕ, List, ap, get_or}
use Rattle.berge_tree.specs.declared.edges.Edge.{Edge}
use Rattle.safebound_bounds.specs.Meaning.{known, joinable_rows}
use Rattle.safebound_bounds.proofs.Bounded.{set_within}
use Rattle.safebound_bounds.proofs.JoinableRows.{row_bounds_stay_in_set}
use Rattle.safebound_bounds.proofs.laws.rows_without_values_join_with_nothing.Goals as goal

pub returns-clause-never_under : goal.returns-clause-never_under
returns-clause-never_under c rows equalities lists runs valid subset fits tables fit choices satisfy differ = set_within rows equalities lists runs valid subset tables fit choices satisfy differ

pub returns-clause-unjoined : goal.returns-clause-unjoined
returns-clause-unjoined c rows lists runs es subset none =
    ap (λ (s : List ℕ). known s lists runs)
    (row_bounds_stay_in_set rows lists runs es subset (λ entry low. ap (λ (own : List Edge). joinable_rows lists runs entry own (get_or rows entry 0)) none))
