-- How the proofs of this crate go: what was hard, and what closed it.
--
-- - A record says which lists keys have (`AreListsOfKeys`). The code's clauses say "for any lists that these keys have", so no contract of a function
--   that `gather_query` uses speaks of tables or values. Two facts are used once each: the cells of a column have the lists of its values
--   (`their_lists`, from table_stats), and all rows have one key in a column that their table doesn't have (`missing_lists`).
-- - Steps ask for columns that exist (`StepsHaveColumns`). This is proved by one induction over conditions, in the shape of `Passing` of
--   filtered_lists. Its premises are `IsWellTyped` and "names only this entry". For an AND it says that its ranges are of existing columns, and that
--   its steps ask for existing columns.
-- - A look-up that cannot fail (`find`) has its test as `requires` (`has_filter .. ≡ true`). Its loop's invariant says that no filter so far
--   is of the column (`has_filter (take i filters) column ≡ false`). The prover proves this invariant, and `unreachable!()`, by itself.
-- - A number that is reached through a reference is in the range of its type (`rows` is a `u32`, so below 2^32). A function with one line
--   (`row_count`) gives this fact as `.type_inv`; `let _rows = cells.rows;` gives it under a name that may change.
-- - `table.columns.get(i)` of a `Seq` after a test of `len` gives facts that are short to use; a `match` on a slice's `get` doesn't.
-- - The lemma `if_both` makes one record of two clauses of the last call, so the call stays the last expression.
-- - One proof that we wrote took a minute when all 44 functions were checked. To prove a test's `requires` (`IsDatabaseOf` of a small database),
--   `search` took minutes. With the proof named (`triangle_fits`, in join_tests) it takes seconds.
-- - Lists are kept between steps (`rests`). The invariant is that each list is the rest list of its own column (`IsRestOf`). The one function
--   that adds a list says exactly what it leaves (`with_rest`). The clause `is_some result ≡ is_kept ..` says when a search finds
--   a list. The prover proves this clause by itself, and the loop's invariant that no list so far is of the column. Three facts
--   needed a proof of ours: one more list is kept (`one_kept`), each kept list stays the rest list of its column (`all_kept`), and a value that isn't
--   frequent has the rest list (`rest_of_value`).

pub mod ShownCells
pub mod LiteralCells
pub mod Sizes
pub mod ColumnsExist
pub mod Serving
pub mod Picking
pub mod Asking
pub mod RestLists
pub mod Joined
pub mod Entries
pub mod MissingColumns
pub mod StatisticsOfTables
pub mod WholeLists
