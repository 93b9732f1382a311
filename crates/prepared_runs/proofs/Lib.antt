-- How the proofs of this crate go: what was hard, and how it was solved.
--
-- The verdict and what is made ready
--
-- - The rows and the database both give a function of tables, and the two functions are equal (`tables_in`, table_files). Past the last FROM
--   entry `tables_in` has the first entry's rows, as a database does, since `slice_index` past the end is 0. So `tables_in (entry_rows db) ≡
--   tables_of db` is one `fun_ext` (`SameTables`), a clause of `read_tables`. Plans, levels, answers and texts are carried from one to the
--   other by `subst` and `ap`. No lemma is needed to say that a query asks only for its own entries' tables.
-- - The facts about an accepted verdict are one induction over its stages (`Runs`): each stage is a `>>=`, and `then_ok` carries a predicate
--   through it. The two sentences of the headline on bounds and rows are then one line each, about plain tables, and need no code.
-- - What is left to do is an enum that owns its memory (`PendingOutput`). It determines which text goes to out (`pending_text`), so no invariant
--   has to connect a command with a reservation.
-- - A function can be proved before the functions that it calls, with stand-ins that have the same contracts. A stand-in that always refuses
--   satisfies each law about plans (`absurd`). A stand-in with `requires ⊥` needs no body.
-- - A store that can't fail is a wrapper. Its invariant is that no call is set to fail, and its ghost `faults` is the constant 0: then
--   `Rose 0 0` is absurd, and `read_at` needed no written proof.
-- - The shop is a field of the command that no stage looks at (`command_run`). So the verdict of `demo` equals that of an audit by one `ap`
--   and a `refl`. `Ranges` in safebound_words says for each command that only `demo` has a shop, and that values are in their ranges. It is
--   proved by one induction over the table.
-- - A word's text is taken by `get` only where a file is read. Then one equation about `get` is rewritten at that place, and the clauses
--   above speak of the command's own words.
--
-- - The functions that take memory for joins require `MayJoin`. A clause of `plan_task` says that the plan is within the budget
--   (AllowedFacts). The result of the test says that it is within the limit of memory (`within_ok`). So these functions can only be called after
--   the test.
--
-- Sources of lists
--
-- - What a source gives is a value (`bounds_and_lists_by`, a record of bounds of sets, bounds of scans and lists). What is proved about this value is
--   one record (`IsSource`), whose parts have a line for each source (`rows_kept`, `scans_bound`, `levels_bound`, `all_sets` in SourceFacts).
--   Everything above is about any value with that record: plans (`plan_fits`, `plan_over`), levels, rooms, texts. So no proof above has a case for
--   each source.
-- - `sets_by`, `scans_by`, `lists_by` and `planned_by` are `unfoldable`: goals stay as long as these names. They are opened in SourceFacts
--   and ShapeFacts, and in the answers of `given_by` (`rw c.in-Columns.is`, and then the clause of the call is the goal). They are also
--   opened where the headline says what each source's scans are (`of_columns`, `of_keyed`, `of_reduced` in Runs). `bounds_and_lists_by` itself is
--   transparent, so that its lists are `lists_by` without a lemma. A prepared run keeps no schema, since lists and scan bounds don't depend
--   on it.
-- - What a source needs of the tables (`SourceNeeds`) is needed only for its bounds of sets: its lists lose no row, and its bounds of scans
--   hold, whatever the tables are. That declared keys hold follows from reading the files (KeyFacts): each entry's rows are those in some
--   file of its table (`CanComeFromFiles` of table_files). This is a clause of reading and a law of the stage. One lemma goes from there to keys,
--   for the code and for the verdict.
-- - Whole scans are lists like any others (`lists_in`). Only `list_rows`, which makes lists, asks whether the lists are there already. Rooms,
--   levels and texts are about lists, with one record (`CanJoin`: the lists lose no row, and there is room for a plan over them).
-- - `bounds_and_lists_by` has no accuracy; only the bounds in its result take one. So the lists of a run don't depend on the accuracy.
-- - The goals of `let Given { known, scans } = f()?` are named by `known` (`in_ok-known`); the value of `f` is `field-0`.
--
-- Shapes
--
-- - A plan is a join tree; an order's plan is the tree of the order. Facts about a plan are stated by definitions over its shape and the tree
--   (specs/Shapes: its parts, their bounds and rows, its texts). So the sentences of the headline, the verdict and the texts have no case for a tree.
--   Only ShapeFacts, AllowedFacts, KeptFacts and RootFacts have a case for each shape. Rooms, joins and bytes know only the tree.
-- - An order is read from its tree (`order_of_tree`). What is read is the order that the search found (`read_back` in Singles): the tree doesn't
--   keep the bound of level 1, but in the bounds of each source an entry alone has the bound of its scan (`BoundSingles`). No equality joins an entry
--   with itself, so no conjunct is carried to an entry in a set of one.
-- - In both shapes the entries of a choice for all entries are the leaves of the tree (`joined_entries`, `order_is`). So there is one proof that the
--   printed rows are the answer, from `last` of `LoseNoRow`.
-- - `OrderParts` says which node a level's rows are in.
-- - No node of a tree has more rows than its bound, whatever the sizes of the tables (`nodes_fit` of bushy_planning). So the verdict's law
--   has no condition on sizes. Joins over a tree also require that tables are small, which the code knows about tables that it read
--   (`plan_over`, `tree_over`).
-- - The answer of an order is made from the answer of its search by `mapped`, which changes the value of an answer. `mapped_ok` takes the order out
--   again.

pub mod AllowedFacts
pub mod Answered
pub mod AppendRuns
pub mod AppendStages
pub mod CommandFacts
pub mod StatsFileRuns
pub mod StatsFileStages
pub mod Found
pub mod KeptFacts
pub mod KeyFacts
pub mod LimitFacts
pub mod OrderParts
pub mod RootFacts
pub mod Runs
pub mod ShapeFacts
pub mod Singles
pub mod SourceFacts
pub mod Stages
