-- Orders of the three entries of a triangle, for worked examples.
use Rattle.std.specs.Prelude.{ℕ, List}
use Rattle.sql_meaning.specs.Examples.{triangle, triangle_tables}
use Rattle.sql_meaning.specs.Tables.{Tables, tables_of}
use Rattle.level_bounds.specs.Scans.{level_over_entries, query_scan}

-- the tables of R(A, C), S(A, B) and T(B, C), each of three rows
abbrev pub three_tables : Tables
three_tables = tables_of triangle_tables

-- the scan of an entry in the query that joins the three tables in a triangle
abbrev pub triangle_scan : ℕ → List ℕ
triangle_scan entry = query_scan triangle three_tables entry

-- the level of this query over these entries
abbrev pub triangle_level : List ℕ → List (List ℕ)
triangle_level order = level_over_entries triangle three_tables order
