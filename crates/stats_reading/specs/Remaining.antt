-- The lines that are still to be read. They are the remaining lines of a file that extends the draft (the part that is read so far).
use Rattle.std.specs.Prelude.{ℕ, ◌≡◌, List, [], ◌∷◌, ◌++◌, map, Some, slice_get, codes}
use Rattle.std.specs.List.{flat_map}
use Rattle.schema_types.specs.declared.types.Schema.{Schema}
use Rattle.schema_types.specs.declared.types.Table.{Table}
use Rattle.stats_file.specs.declared.types.Datum.{Datum}
use Rattle.stats_file.specs.declared.types.PairStats.{PairStats}
use Rattle.stats_file.specs.declared.types.StatsFile.{StatsFile}
use Rattle.stats_file.specs.declared.types.TableStats.{TableStats}
use Rattle.stats_file.specs.FileText.{file_lines, histogram_node_line, pair_lines, section_lines, value_line}
use Rattle.stats_file.specs.Lines.{cut_line, end_line, list_line}
use Rattle.stats_file.specs.Rules.{KeepsRules}
use Rattle.stats_file.specs.Runs.{runs_of}
use Rattle.stats_reading.specs.declared.draft.Draft.{Draft}
use Rattle.stats_reading.specs.declared.stages.Stage.{Stage}
use Rattle.stats_reading.specs.declared.stages.Stage.TheVariants as stage

abbrev pub whole_line : List ℕ → List ℕ
whole_line list = list_line (codes "whole") (runs_of list)

abbrev pub rest_line : List ℕ → List ℕ
rest_line list = list_line (codes "rest") (runs_of list)

abbrev pub histogram_lines : List Datum → List (List ℕ) → List (List ℕ)
histogram_lines cuts nodes = map cut_line cuts ++ map histogram_node_line nodes

abbrev pub frequent_lines : List (Datum × List ℕ) → List ℕ → List Datum → List (List ℕ) → List (List ℕ)
frequent_lines frequent rest cuts nodes = map value_line frequent ++ (rest_line rest ∷ histogram_lines cuts nodes)

-- ---- a pair that extends the current one

-- pair p is the current pair d with more elements in each list
pub record PairGrows (d p : PairStats) (frequent : List (Datum × List ℕ)) (cuts : List Datum) (nodes : List (List ℕ)) : Type 0 where
  pub filter : p.filter ≡ d.filter
  pub joined : p.joined ≡ d.joined
  pub frequent_is : p.frequent ≡ d.frequent ++ frequent
  pub cuts_is : p.cuts ≡ d.cuts ++ cuts
  pub nodes_is : p.nodes ≡ d.nodes ++ nodes

pub record WholeRemaining (d p : PairStats) (lines : List (List ℕ)) : Type 0 where
  pub frequent : List (Datum × List ℕ)
  pub cuts : List Datum
  pub nodes : List (List ℕ)
  pub grows : PairGrows d p frequent cuts nodes
  pub all : lines ≡ whole_line p.whole ∷ frequent_lines frequent p.rest cuts nodes

pub record FrequentRemaining (d p : PairStats) (lines : List (List ℕ)) : Type 0 where
  pub frequent : List (Datum × List ℕ)
  pub cuts : List Datum
  pub nodes : List (List ℕ)
  pub grows : PairGrows d p frequent cuts nodes
  pub whole : p.whole ≡ d.whole
  pub all : lines ≡ frequent_lines frequent p.rest cuts nodes

pub record TreeRemaining (d p : PairStats) (cuts : List Datum) (lines : List (List ℕ)) : Type 0 where
  pub nodes : List (List ℕ)
  pub grows : PairGrows d p [] cuts nodes
  pub whole : p.whole ≡ d.whole
  pub rest : p.rest ≡ d.rest
  pub all : lines ≡ histogram_lines cuts nodes

abbrev pub CutsRemaining : PairStats → PairStats → List (List ℕ) → Type 0
CutsRemaining d p lines = (cuts : List Datum) × TreeRemaining d p cuts lines

abbrev pub NodesRemaining : PairStats → PairStats → List (List ℕ) → Type 0
NodesRemaining d p lines = TreeRemaining d p [] lines

-- ---- a file that extends the draft

-- the lines of further tables, and the last line of the file
abbrev pub tables_left : Schema → List TableStats → List (List ℕ)
tables_left schema tables = flat_map (section_lines schema) tables ++ (end_line ∷ [])

-- the lines of further pairs of the current table, then those of further tables
abbrev pub pairs_left : Schema → Table → List PairStats → List TableStats → List (List ℕ)
pairs_left schema table pairs tables = flat_map (pair_lines table) pairs ++ tables_left schema tables

abbrev pub file_of_draft : Draft → List TableStats → StatsFile
file_of_draft s tables = record { accuracy = s.accuracy; tables = s.tables ++ tables }

-- the current table with further pairs
abbrev pub section_of : Draft → List PairStats → TableStats
section_of s pairs = record s.section { pairs = s.section.pairs ++ pairs }

-- the file is the draft with further tables, and these are their lines
pub record InFile (schema : Schema) (s : Draft) (file : StatsFile) (lines : List (List ℕ)) : Type 0 where
  pub tables : List TableStats
  pub keeps : KeepsRules schema file
  pub is : file ≡ file_of_draft s tables
  pub all : lines ≡ tables_left schema tables

-- the file is the draft with further pairs of the current table and with further tables
pub record InTable (schema : Schema) (s : Draft) (file : StatsFile) (lines : List (List ℕ)) : Type 0 where
  pub table : Table
  pub exists : slice_get schema.tables s.section.table ≡ Some table
  pub pairs : List PairStats
  pub tables : List TableStats
  pub keeps : KeepsRules schema file
  pub is : file ≡ file_of_draft s (section_of s pairs ∷ tables)
  pub all : lines ≡ pairs_left schema table pairs tables

-- the file is the draft with the current pair completed, further pairs and further tables
pub record InPair (Left : PairStats → List (List ℕ) → Type 0) (schema : Schema) (s : Draft) (file : StatsFile) (lines : List (List ℕ))
    : Type 0 where
  pub table : Table
  pub exists : slice_get schema.tables s.section.table ≡ Some table
  pub pair : PairStats
  pub own : List (List ℕ)
  pub left : Left pair own
  pub pairs : List PairStats
  pub tables : List TableStats
  pub keeps : KeepsRules schema file
  pub is : file ≡ file_of_draft s (section_of s (pair ∷ pairs) ∷ tables)
  pub all : lines ≡ own ++ pairs_left schema table pairs tables

-- the file extends the draft at this stage, and `lines` are the remaining lines of the file's text
abbrev pub FileRemaining : Stage → Schema → Draft → StatsFile → List (List ℕ) → Type 0
FileRemaining stage.Start schema s file lines = KeepsRules schema file × (lines ≡ file_lines schema file)
FileRemaining stage.Tables schema s file lines = InFile schema s file lines
FileRemaining stage.Pairs schema s file lines = InTable schema s file lines
FileRemaining stage.Whole schema s file lines = InPair (WholeRemaining s.pair) schema s file lines
FileRemaining stage.Frequent schema s file lines = InPair (FrequentRemaining s.pair) schema s file lines
FileRemaining stage.Cuts schema s file lines = InPair (CutsRemaining s.pair) schema s file lines
FileRemaining stage.Nodes schema s file lines = InPair (NodesRemaining s.pair) schema s file lines
FileRemaining stage.Done schema s file lines = KeepsRules schema file × (file ≡ file_of_draft s []) × (lines ≡ [])
