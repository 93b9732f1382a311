-- How the proofs of this crate go: what was hard, and how it was solved.
--
-- - `IsUseFor` names a value by its index in the list of values. So it stays true when values are appended (`use_later`), and no function
--   from values to slots is needed.
-- - Recursive functions take the first item's number instead of a shifted function, so no equality of functions has to be proved.
-- - Facts about `level` follow from `over_restricted` of sql_meaning, since a reduced list is a filtered list of the table's rows (`same_members`).
-- - `marked_rows` fills a buffer that has exactly enough room: the rows are counted first. The loop's invariant is that spare and items together are
--   this count. Room for one more row then follows from a fact about the next row (`room_for_next_row`). An edit that pushes one more row is refused
--   at the push. To test the clause, change how rows are marked.
-- - Rounds (`ByRounds`): a round either changes nothing or leaves fewer rows. So if there are more rounds than rows, some round changes nothing. This
--   is one induction on the number of rounds. After every round the lists are still a family and contain every consistent family. When a round
--   changes nothing, every row has a match across each equality of its entry.
-- - Semi-joins before the worklist (`Sifting`): lists are sifted if they still contain every consistent family. So a step needn't be exact: a set of
--   values may have more values than those of its rows. A few lines in each direction show that the reduced lists are the reduced scans.
-- - `StaySifted` is about any scans from which the lists are sifted. So no function that `semi_join_all` calls knows the scans, and steps compose
--   (`sifted_by_both_steps`). The step itself is stated list by list (`IsJoinedAt`). From it follow both `StaySifted` and that the lists are still lists
--   of the database (`joined_lists`).
-- - The test is a field of `IsSemiJoin`, so an unchanged list is a semi-join too (`unchanged_is_joined`), and one clause covers both exits of the
--   code.
-- - Lemmas take key functions. After one `rw`, `slice_index cells.now` and `key_on (cell_at db) side` are equal by computation.
-- - Of the fourteen functions of `semi_joins` and `value_sets`, seven have no proof file or only an invariant. For marks the invariant is `All P
--   (take index list)` with `All-more`. For the ends of a range the invariant is by index, `(k : ℕ) → k < index → ..`, and needs no further proof; an
--   invariant over `take` isn't proved automatically at `max`.
-- - Families in general (`FamilyRows`): that a list is a filter of its table's rows doesn't depend on partners. So the level over any family
--   is a filter of the query's level, and reduced scans are one case.

pub mod Members
pub mod OneReduced
pub mod SomeReduced
pub mod Matches
pub mod QueryScans
pub mod Levels
pub mod MarkedRows
pub mod Bridge
pub mod UseFacts
pub mod FamilyRows
pub mod SameLevel
pub mod ByRounds
pub mod OfQuery
pub mod Pairs
pub mod Marking
pub mod Sifting
pub mod SiftedLists
