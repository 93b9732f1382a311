-- Limits of texts, tables, queries and plans.
use Rattle.std.specs.Prelude.{ℕ, ◌-◌, ◌^◌}

-- ---- limits of schemas, queries and tables (each is the greatest accepted)

-- the most bytes of a schema text or a query text
abbrev pub most_text : ℕ
most_text = 1048576

-- the most bytes of a table's file
abbrev pub most_file : ℕ
most_file = 67108864

-- the most tables of a schema, and the most columns of a table
abbrev pub most_tables : ℕ
most_tables = 64

abbrev pub most_columns : ℕ
most_columns = 64

-- the greatest number of characters that a column of texts may declare
abbrev pub most_length : ℕ
most_length = 1000000

-- the most rows of a table
abbrev pub most_rows : ℕ
most_rows = 4000000

-- the most FROM entries of a query
abbrev pub most_entries : ℕ
most_entries = 12

-- The most entries of a set, which has a bit for each entry. Calls that bound sets or search for plans accept no more entries, even if a program
-- allows more
abbrev pub greatest_entries : ℕ
greatest_entries = 16

-- the most turns in which a set of entries is bounded
abbrev pub most_turns : ℕ
most_turns = 16

-- the most values of an IN list
abbrev pub most_values : ℕ
most_values = 1000

-- the most conjuncts of a query, and the most outputs
abbrev pub most_conjuncts : ℕ
most_conjuncts = 256

abbrev pub most_outputs : ℕ
most_outputs = 1024

-- ---- limits of budgets, bounds and accuracies

-- a budget is the greatest bound that a level or node of a plan may have, in rows. These are the least budget, the greatest, and the program's
-- default
abbrev pub least_budget : ℕ
least_budget = 1

abbrev pub most_budget : ℕ
most_budget = 20000000

abbrev pub default_budget : ℕ
default_budget = 1000000

-- limits of the library, for every program: the most rows of a table, and the greatest budget of a search. The bounds of `greatest_entries` levels
-- within this budget sum to less than 2^64
abbrev pub greatest_rows : ℕ
greatest_rows = 2 ^ 48

abbrev pub greatest_budget : ℕ
greatest_budget = 2 ^ 59

-- the greatest memory limit that a command may set for a plan's buffers, in bytes. Plans within the program's limits take less
abbrev pub most_memory : ℕ
most_memory = 2 ^ 40

-- the least accuracy of compressed lists, the greatest, and the default
abbrev pub least_accuracy : ℕ
least_accuracy = 1

abbrev pub most_accuracy : ℕ
most_accuracy = 64

abbrev pub default_accuracy : ℕ
default_accuracy = 1

-- the greatest 128-bit number. As a bound it means this number or more
abbrev pub top_bound : ℕ
top_bound = 2 ^ 128 - 1
