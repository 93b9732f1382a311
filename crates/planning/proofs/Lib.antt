-- How the proofs of this crate go: what was hard, and what closed it.
--
-- Plans from any bounds
--
-- The proofs combine lemmas of other crates. There are only three inductions, over lists, and all goals except one closed at the first check.
--
-- - `FromLists` has one law for all bounds, in two halves. The first goes from bounds of sets and of scans to the plan (`plan_over_lists`). The
--   second goes from bounds of entries in a set to the bound of the set (`levels_bound`). A new kind of bounds needs only a proof of `StandForLists`
--   and `BoundLists`. A new shape of plan needs only a first half of its own. If the bounds of entries are the same in every set, facts on single
--   columns are enough (`stand_in_every_set`). This is used for statistics of tables (`ScanBounds`, `NeverUnder`) and for degree sequences of listed
--   rows (`ListBounds`).
-- - Bounds that are the same in every set need no lemma: `bounds_of_sets b` is `bounds_in_sets (in_every_set b)`, and both are `abbrev`s. So the laws
--   about `bounds_in_sets` hold for `bounds_of_sets`.
-- - The laws that no bound is too low are about `entry_bounds`, not about the code's lists (`stand_for_scans` in ScanBounds). These laws take
--   statistics as functions of entries and columns, so none of them mentions a database, a cell or `EntryLists`. A law doesn't require that the
--   query's entries and columns exist; this follows from the set. The entries of a set are below n, and both columns of an equality are among the
--   joined columns.
-- - The record `Facts` has all laws about statistics: joined rows have equal keys, and what lists and counts stand for. It was proved last. Until
--   then `rt check --allow-holes` showed that each law depended only on this unproved record.
-- - A bound of a level in a plan is never `top_bound`: it is at most the cost, so at most the budget (`level_within_budget`). Then `omega` refutes
--   the second case of `BoundLevels`.
-- - The set of an order's first entries has a number below 2^n (`first_entries_within`): the powers of 2 of these entries sum to at most 2^n - 1.
-- - The nearness of bounds (`NearColumns`) needs no keys as input: a row's key is the number of its value in the column. `fill_by_all` proves that
--   `keys_of` is the numbered column, and `fun_ext` that `whole_columns` is `uncompressed`.
-- - The plan of the example is computed, with its statistics and all orders. `rw` doesn't reach into an argument of an unfolded `plan_answer`. So
--   prove by `refl` which plan is chosen over literal lists, and join the equations by `ap`.
--
-- Bounds over lists of rows
--
-- Only components, extensions and a choice's rows need inductions.
--
-- - A level over lists is a sublist of the query's level (`ListedLevels`). By `AllPairs-filter` its choices are different, and by `all_pass` their
--   rows are in the lists. So `scanned_within`, the law of tree_bounds over scanned rows, takes the lists in place of the scans.
-- - A value's number is the first listed row that has the value (`ListBounds`): two rows have equal numbers exactly if they have equal keys
--   (table_stats' `FirstRows`), and relabelling_laws carries domination over to keys that all tables share.
-- - Each reduced row takes part in a choice (`Components`, `Extending`). join_graph defines when equalities connect two entries. That two entries are
--   connected is proved by numbering the components, in one induction on the equalities in their order, like `ClosesNoCycleAfter`. `onto` (of
--   set_bounds) puts the remaining equalities, in reverse order, before the earlier ones; so no lemma about reversed lists is needed. One more
--   equality may join the row's component with another one, by its left or its right entry. Then the row's partner is extended to a choice there. Of
--   the two choices each entry takes its row from the one over its component. Or the equality joins no entry of the row's component. All three cases
--   need only `merged_cases`.
-- - For the examples, compute the rounds over literal equalities and scans by `refl`, and join the equations by `ap` (`reduced_from`,
--   `plan_computed`). For an answer, `filter_agree` puts one test in place of all conjuncts (`answer_by_test`); then the answer computes.
--   `filter_agree` also serves where an own conjunct tests the row.
--
-- Lists of rows, and the bounds that are collected from them
--
-- - Soundness and completeness are two facts. By `IsKnown` each collected list is the list of the definition, and by `HaveLists` each joined column
--   has a list. So a step that adds a list says nothing of other columns, and the loop's invariant is these two facts.
-- - The bound of a set depends only on the columns that equalities name (`SameBounds`). `entry_bounds_over` has a list for every column, and the code
--   has lists only for joined columns. One induction over trees, with `named_in_turn` and `tree_columns` of tree_bounds, shows that both give all
--   sets the same bounds.
-- - Cells and values (`SameDegrees`): two rows have equal cells exactly if the same row is the first with their value. So by relabelling_laws, cells
--   and numbers of first rows have the same degree list.
-- - A list of ascending row numbers below n has at most n elements (`not_longer_than_range`). So `AreRowLists` follows for any lists of scanned rows,
--   without lemmas about the removal of rows.
-- - No bound is known yet when scans are listed, so their buffers have room for whole tables. By `buffers_for_fewer` of reserve_plan such a buffer
--   has room for the scan (`TableRooms`).

pub mod Facts
pub mod Levels
pub mod ListedLevels
pub mod FromLists
pub mod ScanBounds
pub mod NeverUnder
pub mod NearColumns
pub mod PlanFacts
pub mod ListBounds
pub mod ListedPlans
pub mod ReducedPlans
pub mod SameBounds
pub mod SameDegrees
pub mod CollectedBounds
pub mod Giving
pub mod TableRooms
pub mod ReducedLists
pub mod Components
pub mod Extending
pub mod TakingPart
pub mod SmallPlans
pub mod SmallReductions
pub mod SmallAnswers
