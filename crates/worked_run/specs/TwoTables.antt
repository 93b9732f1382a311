-- Two tables that are joined by one column: their files, and the words of eleven commands over these files.
use Rattle.std.specs.Prelude.{ℕ, List, [], ◌∷◌, ◌++◌, codes, replicate}
use Rattle.std.specs.List.{concat}
use Rattle.base_io.specs.Files.{Files}

unfoldable pub schema_text : List ℕ
schema_text = codes "CREATE TABLE R (X INTEGER NOT NULL); CREATE TABLE S (X INTEGER NOT NULL);"

unfoldable pub query_text : List ℕ
query_text = codes "SELECT R.X FROM R, S WHERE R.X = S.X"

-- R(X) has the rows 1, 1, 1, 2, 2, 3, and S(X) has the rows 1, 1, 4, 5, 6
unfoldable pub r_text : List ℕ
r_text = codes "X\r\n1\r\n1\r\n1\r\n2\r\n2\r\n3\r\n"

unfoldable pub s_text : List ℕ
s_text = codes "X\r\n1\r\n1\r\n4\r\n5\r\n6\r\n"

-- two rows that `append` adds to R
unfoldable pub new_text : List ℕ
new_text = codes "X\r\n1\r\n4\r\n"

-- ---- a statistics file of both tables, as `stats` writes it at the usual accuracy

-- the same line, `count` times
abbrev pub lines_repeated : ℕ → List ℕ → List ℕ
lines_repeated count line = concat (replicate count line)

-- The sections of R and S in the file. Each ends with 32 cuts and then the nodes. The nodes with 1 leaf come first, then those with 2 leaves, and so
-- on up to the node with 32
unfoldable pub r_cuts : List ℕ
r_cuts = lines_repeated 16 (codes "cut 1\n") ++ lines_repeated 11 (codes "cut 2\n") ++ lines_repeated 5 (codes "cut 3\n")

unfoldable pub r_stats : List ℕ
r_stats = codes "table x52 6\npair x58 x58\nwhole 3*2\nfrequent 1 3*1\nfrequent 2 2*1\nfrequent 3 1*1\nrest -\n" ++ r_cuts
    ++ lines_repeated 15 (codes "node -\n") ++ codes "node 3*1\n" ++ lines_repeated 10 (codes "node -\n") ++ codes "node 2*1\n"
    ++ lines_repeated 4 (codes "node -\n") ++ codes "node 1*1\n"
    ++ lines_repeated 7 (codes "node -\n") ++ codes "node 3*1\n" ++ lines_repeated 5 (codes "node -\n") ++ codes "node 2*1\nnode -\nnode 1*1\n"
    ++ lines_repeated 3 (codes "node -\n") ++ codes "node 3*1\nnode -\nnode -\nnode 2*1\nnode 1*1\n"
    ++ codes "node -\nnode 3*1\nnode -\nnode 2*1 1*1\n" ++ codes "node 3*1\nnode 2*1 1*1\n" ++ codes "node 3*2\n"

unfoldable pub s_stats : List ℕ
s_stats = codes "table x53 5\npair x58 x58\nwhole 2*2 1*1\nfrequent 1 2*1\nfrequent 4 1*1\nfrequent 5 1*1\nfrequent 6 1*1\nrest -\n"
    ++ lines_repeated 13 (codes "cut 1\n") ++ lines_repeated 7 (codes "cut 4\n") ++ lines_repeated 6 (codes "cut 5\n") ++ lines_repeated 6 (codes "cut 6\n")
    ++ lines_repeated 12 (codes "node -\n") ++ codes "node 2*1\n" ++ lines_repeated 6 (codes "node -\n") ++ codes "node 1*1\n"
    ++ lines_repeated 5 (codes "node -\n") ++ codes "node 1*1\n" ++ lines_repeated 5 (codes "node -\n") ++ codes "node 1*1\n"
    ++ lines_repeated 6 (codes "node -\n") ++ codes "node 2*1\nnode -\nnode -\nnode 1*1\nnode -\nnode -\nnode 1*1\nnode -\nnode -\nnode 1*1\n"
    ++ lines_repeated 3 (codes "node -\n") ++ codes "node 2*1\nnode 1*1\nnode -\nnode 1*1\nnode 1*1\n"
    ++ codes "node -\nnode 2*1\nnode 1*1\nnode 1*2\n" ++ codes "node 2*1\nnode 1*3\n" ++ codes "node 2*2 1*1\n"

unfoldable pub stats_text : List ℕ
stats_text = codes "safebound-stats 1 1\n" ++ r_stats ++ s_stats ++ codes "end\n"

-- The section of R after two rows are added. Value 1 is frequent, so its list grows. Value 4 isn't frequent, so it is counted in the rest list. It is
-- above the last cut, so it is counted in the last leaf
unfoldable pub grown_r_stats : List ℕ
grown_r_stats = codes "table x52 8\npair x58 x58\nwhole 4*2\nfrequent 1 4*1\nfrequent 2 2*1\nfrequent 3 1*1\nrest 1*1\n" ++ r_cuts
    ++ lines_repeated 15 (codes "node -\n") ++ codes "node 4*1\n" ++ lines_repeated 10 (codes "node -\n") ++ codes "node 2*1\n"
    ++ lines_repeated 4 (codes "node -\n") ++ codes "node 2*1\n"
    ++ lines_repeated 7 (codes "node -\n") ++ codes "node 4*1\n" ++ lines_repeated 5 (codes "node -\n") ++ codes "node 2*1\nnode -\nnode 2*1\n"
    ++ lines_repeated 3 (codes "node -\n") ++ codes "node 4*1\nnode -\nnode -\nnode 2*1\nnode 2*1\n"
    ++ codes "node -\nnode 4*1\nnode -\nnode 3*1 1*1\n" ++ codes "node 4*1\nnode 3*1 1*1\n" ++ codes "node 4*2\n"

unfoldable pub grown_text : List ℕ
grown_text = codes "safebound-stats 1 1\n" ++ grown_r_stats ++ s_stats ++ codes "end\n"

-- ---- all files with their names

abbrev pub small_files : Files
small_files =
    (codes "schema.sql", schema_text) ∷ (codes "query.sql", query_text) ∷ (codes "r.csv", r_text) ∷ (codes "s.csv", s_text)
    ∷ (codes "rs.stats", stats_text) ∷ (codes "new.csv", new_text) ∷ []

-- ---- the words of commands

abbrev pub run_words : List (List ℕ)
run_words = codes "run" ∷ codes "schema.sql" ∷ codes "query.sql" ∷ []

abbrev pub audit_words : List (List ℕ)
audit_words = codes "audit" ∷ codes "schema.sql" ∷ codes "query.sql" ∷ []

-- `audit` with a join tree
abbrev pub tree_words : List (List ℕ)
tree_words = codes "audit" ∷ codes "schema.sql" ∷ codes "query.sql" ∷ codes "--bushy" ∷ []

-- `run` with a limit of memory that is just enough, and `run` with a limit that is one byte too small
abbrev pub limited_words : List (List ℕ)
limited_words = codes "run" ∷ codes "schema.sql" ∷ codes "query.sql" ∷ codes "--memory" ∷ codes "531" ∷ []

abbrev pub small_memory_words : List (List ℕ)
small_memory_words = codes "run" ∷ codes "schema.sql" ∷ codes "query.sql" ∷ codes "--memory" ∷ codes "530" ∷ []

-- `run` with a budget that is one row too small
abbrev pub small_budget_words : List (List ℕ)
small_budget_words = codes "run" ∷ codes "schema.sql" ∷ codes "query.sql" ∷ codes "--budget" ∷ codes "11" ∷ []

-- `run` over reduced scans: with `--reduce`, and with `--count`
abbrev pub reduced_words : List (List ℕ)
reduced_words = codes "run" ∷ codes "schema.sql" ∷ codes "query.sql" ∷ codes "--reduce" ∷ []

abbrev pub counted_words : List (List ℕ)
counted_words = codes "run" ∷ codes "schema.sql" ∷ codes "query.sql" ∷ codes "--count" ∷ []

-- the commands that write the statistics file, plan from it, and add two rows to it
abbrev pub stats_words : List (List ℕ)
stats_words = codes "stats" ∷ codes "schema.sql" ∷ codes "query.sql" ∷ []

abbrev pub from_file_words : List (List ℕ)
from_file_words = codes "plan" ∷ codes "schema.sql" ∷ codes "query.sql" ∷ codes "--stats" ∷ codes "rs.stats" ∷ []

abbrev pub append_words : List (List ℕ)
append_words = codes "append" ∷ codes "schema.sql" ∷ codes "rs.stats" ∷ codes "R" ∷ codes "new.csv" ∷ []
