-- Reduced scans of a query over its tables (semi-join reduction, Bernstein and Goodman 1981).
use Rattle.std.specs.Prelude.{ℕ, List}
use Rattle.query_types.specs.declared.types.Query.{Query}
use Rattle.join_graph.specs.Conjuncts.{equalities_of}
use Rattle.sql_meaning.specs.Tables.{Tables}
use Rattle.join_steps.specs.Lists.{scans_of}
use Rattle.level_bounds.specs.Keys.{are_equal_at}
use Rattle.reduced_scans.specs.Families.{IsConsistent, SatisfiesAll, IsReduced}

-- the family has some rows of each scan, in file order. For each equality between a column of a row's entry and a column of another entry,
-- the row has a partner: a row with the same value in the other entry's list
abbrev pub AreConsistentScans : Query → Tables → List (List ℕ) → Type 0
AreConsistentScans query tables family = IsConsistent (scans_of query tables) (equalities_of query) (are_equal_at tables) family

-- the greatest family of consistent scans
abbrev pub AreReducedScans : Query → Tables → List (List ℕ) → Type 0
AreReducedScans query tables reduced = IsReduced (scans_of query tables) (equalities_of query) (are_equal_at tables) reduced

-- the choice has a scanned row for each FROM entry, and its rows together satisfy all equalities that join two entries
abbrev pub SatisfiesEqualities : Query → Tables → List ℕ → Type 0
SatisfiesEqualities query tables choice = SatisfiesAll (scans_of query tables) (equalities_of query) (are_equal_at tables) choice
