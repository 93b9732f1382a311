-- How the proofs of this crate go: what was hard, and what closed it.
--
-- - The schema text is read by computation (`schema_read`), like the small texts in the crate `worked_run`. The files' records aren't computed.
--   Only names are compared, to find out whether a file exists.
-- - `then_misses` is about `>>=`. If neither the first step nor, after any value of it, the second step refuses a file for its absence, then
--   both steps together refuse no file for its absence.
pub mod SchemaRead
pub mod Absences
