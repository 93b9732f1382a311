-- The proofs of this crate. Walks is about loops that gather keys or change a list in place. Groups is about lists made from rows that are grouped by
-- their values. SameRows and Exact prove that cells and values give the same file. NewLists, PairKept and FileKept prove that the new file keeps the
-- rules of files. NewRows, Stands and StillStands prove: if statistics stand for the old rows, then after the append they stand for the old and the
-- new rows. PairMade and Growing put these facts together for the code.
pub mod Walks
pub mod Small
pub mod Groups
pub mod SameRows
pub mod Exact
pub mod NewLists
pub mod PairKept
pub mod FileKept
pub mod NewRows
pub mod Stands
pub mod StillStands
pub mod Growing
pub mod Others
pub mod Frequent
pub mod PairMade
pub mod Sections
