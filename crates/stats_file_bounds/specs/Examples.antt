-- Statistics files for examples.
use Rattle.std.specs.Prelude.{ℕ, List, [], ◌∷◌, pos}
use Rattle.stats_file.specs.declared.types.Datum.TheVariants as datum
use Rattle.stats_file.specs.declared.types.PairStats.{PairStats}
use Rattle.stats_file.specs.declared.types.StatsFile.{StatsFile}
use Rattle.stats_file.specs.declared.types.TableStats.{TableStats}

-- the pair of column 0 with itself. Its list of all rows is `whole`, and it has no histogram
abbrev pub pair_with_itself : List ℕ → PairStats
pair_with_itself whole = record { filter = 0; joined = 0; whole = whole; frequent = []; rest = []; cuts = []; nodes = [] }

-- the statistics of four rows with the values 1, 2, 3 and 99. The value 99 isn't frequent
abbrev pub infrequent_99 : PairStats
infrequent_99 = record {
  filter = 0;
  joined = 0;
  whole = 2 ∷ 1 ∷ 1 ∷ [];
  frequent = (datum.Int (pos 1), 1 ∷ []) ∷ (datum.Int (pos 2), 1 ∷ []) ∷ (datum.Int (pos 3), 1 ∷ []) ∷ [];
  rest = 1 ∷ [];
  cuts = [];
  nodes = [];
}

abbrev pub section : ℕ → ℕ → PairStats → TableStats
section table rows pair = record { table = table; rows = rows; pairs = pair ∷ [] }

-- a file of one table, and a file of two tables
abbrev pub file_of_one : TableStats → StatsFile
file_of_one section = record { accuracy = 1; tables = section ∷ [] }

abbrev pub file_of_two : TableStats → TableStats → StatsFile
file_of_two first second = record { accuracy = 1; tables = first ∷ second ∷ [] }
