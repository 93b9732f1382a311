-- The proofs of the top call: the texts, the promise and the headline of a call follow from the course that it takes.
--
-- - A text that may be absent is an `Option` (`out_text_of`), and `GrewWhole` and `TookPrefix` have a case for a text and a case for no text. So the
--   headline's sentences have no case for `plan`.
-- - `demo` reads another store than other commands, and `run` is proved for every store. One lemma on `Reads` (ShopCourses) turns the course of `run`
--   over `Shop` into a course over `shop_store`, since the files are equal and no count rises.
-- - The rows text has one form for complete tables and for lists, since the last level over the lists is the last level over complete tables (`last`
--   of `LoseNoRow`).
-- - In a clause, `x.now` is the value of a reference `x`. For a `Copy` parameter `x`, the value with which the function was called is `x.entry`.
-- - If a function's exit is the last one of two nested matches, its answer is called `returns`.
-- - An edit puts a mistake into the code, and the proofs must find it. If the mistake comes after a call, put it into a function where no
--   answer names an exit (`run_command`): then the right exits are proved as before, and only the wrong exit fails.

pub mod Courses
pub mod Promises
pub mod RestTexts
pub mod RunCourses
pub mod ShopCourses
pub mod TextSteps
