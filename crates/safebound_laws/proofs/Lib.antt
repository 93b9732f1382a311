-- For any tables that are read, there is a database with their rows (Databases). The proof about the values of cells needs no new invariant.
-- In csv_tables, the loop that reads a file has an invariant that is a record over plain values (`RowsSoFar`). Here the recursion over the
-- list of records carries the same record, without any code (TableCells). Only two facts are new: a value in its range has a cell, and the
-- fields of a UTF-8 text are UTF-8.
--
-- One record says what is known about the bytes of a statistics file (KnownBytes). `stats` gives this record, each append hands it on, and a
-- plan takes it. The record says that the file stands for the tables of the query that `stats` read. Only at the end is this carried over to
-- the query that is planned (OtherQueries).

pub mod Alike
pub mod AppendFacts
pub mod Databases
pub mod DemoFiles
pub mod DemoWords
pub mod NearRuns
pub mod TableCells
pub mod TableErrors
pub mod Appended
pub mod DoneRun
pub mod KnownBytes
pub mod Near
pub mod OtherQueries
pub mod Planned
