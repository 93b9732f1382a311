use Rattle.std.proofs.Common.{ℕ, [], ◌∷◌, List, map, ap}
use Rattle.bushy_join_tests.specs.SmallQueries.{one_is_two, three_rows_two_entries}
use Rattle.bushy_join_tests.proofs.Worked.{level_is, scan_is}
use Rattle.bushy_join_tests.specs.Examples.{three_rows}
use Rattle.bushy_join_tests.proofs.TreePlansOf.{one_entry_plan_is_of_query, two_entries_plan_is_of_query}
use Rattle.bushy_join_tests.proofs.examples.constants.Goals as goal

pub returns : goal.returns
returns c = record {
  plan_alone = one_entry_plan_is_of_query;
  alone = level_is (one_is_two ∷ []) three_rows (0 ∷ []) 1;
  plan_twice = two_entries_plan_is_of_query;
  inner = level_is (one_is_two ∷ []) three_rows_two_entries (0 ∷ 1 ∷ []) 2;
  leaf = ap (λ (s : List ℕ). map (λ row. row ∷ []) s) (scan_is (one_is_two ∷ []) three_rows_two_entries 0);
}
