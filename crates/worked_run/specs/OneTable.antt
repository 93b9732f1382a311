-- A table that refers to its own key: its files, and the words of a command with `--keys`.
use Rattle.std.specs.Prelude.{ℕ, List, [], ◌∷◌, codes}
use Rattle.base_io.specs.Files.{Files}

unfoldable pub workers_schema : List ℕ
workers_schema = codes "CREATE TABLE W (N INTEGER PRIMARY KEY, B INTEGER NOT NULL REFERENCES W (N), R INTEGER NOT NULL)"

-- the workers whose boss is in region 3
unfoldable pub workers_query : List ℕ
workers_query = codes "SELECT E.N FROM W AS E, W AS M WHERE E.B = M.N AND M.R = 3"

-- Worker 1 is the boss of workers 1 and 2, and worker 2 is the boss of workers 3, 4 and 5. Only worker 1 is in region 3
unfoldable pub workers_text : List ℕ
workers_text = codes "N,B,R\r\n1,1,3\r\n2,1,4\r\n3,2,4\r\n4,2,4\r\n5,2,4\r\n"

abbrev pub workers_files : Files
workers_files = (codes "schema.sql", workers_schema) ∷ (codes "query.sql", workers_query) ∷ (codes "w.csv", workers_text) ∷ []

abbrev pub keyed_words : List (List ℕ)
keyed_words = codes "plan" ∷ codes "schema.sql" ∷ codes "query.sql" ∷ codes "--keys" ∷ []
