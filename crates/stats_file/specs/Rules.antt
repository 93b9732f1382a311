-- The rules on the values in a statistics file. Its writer keeps them, and its reader tests them.
use Rattle.std.specs.Prelude.{ℕ, zero, suc, ◌≡◌, ◌≢◌, ◌<◌, ◌≤◌, ◌⊎◌, List, [], length, map, sum, Some, slice_get, All, AllPairs, FitsSigned}
use Rattle.std.specs.Cmp.Lexicographic.{slice_cmp}
use Rattle.std.specs.Int.{w64}
use Rattle.std.specs.Ordering.{int_cmp, nat_cmp}
use Rattle.std.specs.declared.cmp.Ordering.{Ordering}
use Rattle.std.specs.declared.cmp.Ordering.TheVariants.{Less, Greater}
use Rattle.std.specs.Str.{IsUtf8}
use Rattle.limits.specs.Profile.{most_rows}
use Rattle.degree_sequences.specs.Descending.{IsDescending}
use Rattle.schema_types.specs.declared.types.Column.{Column}
use Rattle.schema_types.specs.declared.types.Kind.{Kind}
use Rattle.schema_types.specs.declared.types.Kind.TheVariants as kind
use Rattle.schema_types.specs.declared.types.Schema.{Schema}
use Rattle.schema_types.specs.declared.types.Table.{Table}
use Rattle.stats_file.specs.declared.types.Datum.{Datum}
use Rattle.stats_file.specs.declared.types.Datum.TheVariants as datum
use Rattle.stats_file.specs.declared.types.PairStats.{PairStats}
use Rattle.stats_file.specs.declared.types.TableStats.{TableStats}
use Rattle.stats_file.specs.declared.types.StatsFile.{StatsFile}

-- the order of values. Numbers are ordered by size, and texts by their bytes, which is the order of their code points. A number comes before a text
abbrev pub datum_cmp : Datum → Datum → Ordering
datum_cmp (datum.Int a) (datum.Int b) = int_cmp a b
datum_cmp (datum.Text a) (datum.Text b) = slice_cmp nat_cmp a b
datum_cmp (datum.Int a) (datum.Text b) = Less
datum_cmp (datum.Text a) (datum.Int b) = Greater

-- a value for a column of this kind: a signed number of 64 bits, or a text in UTF-8 of any length
abbrev pub IsOfKind : Kind → Datum → Type 0
IsOfKind kind.Int (datum.Int number) = FitsSigned w64 number
IsOfKind kind.Int (datum.Text bytes) = ⊥
IsOfKind (kind.Text most) (datum.Int number) = ⊥
IsOfKind (kind.Text most) (datum.Text bytes) = IsUtf8 bytes

-- a list of degrees: positive numbers in descending order (equal neighbours are allowed), with a sum of at most `rows`
pub record IsList (rows : ℕ) (list : List ℕ) : Type 0 where
  pub descends : IsDescending list
  pub positive : All (λ x. 0 < x) list
  pub within : sum list ≤ rows

-- the frequent values of a column of this kind: at most 32 different values, each with its list
pub record AreFrequent (kind : Kind) (rows : ℕ) (frequent : List (Datum × List ℕ)) : Type 0 where
  pub within_limit : length frequent ≤ 32
  pub differ : AllPairs (λ (a b : Datum × List ℕ). a.0 ≢ b.0) frequent
  pub values : All (λ (f : Datum × List ℕ). IsOfKind kind f.0) frequent
  pub lists : All (λ (f : Datum × List ℕ). IsList rows f.1) frequent

-- a histogram with 32 leaves. It has a value of the column's kind for each leaf, no greater than the next leaf's value, and a list for each of the 63
-- nodes
pub record IsHistogram (kind : Kind) (rows : ℕ) (cuts : List Datum) (nodes : List (List ℕ)) : Type 0 where
  pub leaves : length cuts ≡ 32
  pub values : All (IsOfKind kind) cuts
  pub order : AllPairs (λ a b. datum_cmp a b ≢ Greater) cuts
  pub all : length nodes ≡ 63
  pub lists : All (IsList rows) nodes

-- the histogram of a table with this number of rows. A table without rows has neither cuts nor nodes
abbrev pub IsHistogramOf : Kind → ℕ → List Datum → List (List ℕ) → Type 0
IsHistogramOf kind zero cuts nodes = (cuts ≡ []) × (nodes ≡ [])
IsHistogramOf kind (suc n) cuts nodes = IsHistogram kind (suc n) cuts nodes

-- a pair of a table with this number of rows: statistics of a joined column by the values of a filter column
pub record IsPair (table : Table) (rows : ℕ) (pair : PairStats) : Type 0 where
  pub filter : Column
  pub filter_is : slice_get table.columns pair.filter ≡ Some filter
  pub joined : pair.joined < length table.columns
  pub whole : IsList rows pair.whole
  pub all_rows : sum pair.whole ≡ rows
  pub frequent : AreFrequent filter.kind rows pair.frequent
  pub rest : IsList rows pair.rest
  pub tree : IsHistogramOf filter.kind rows pair.cuts pair.nodes

-- pair `a` goes before pair `b`. The filter columns decide by their positions in the table; if they are the same, the joined columns decide
abbrev pub ComesBefore : PairStats → PairStats → Type 0
ComesBefore a b = (a.filter < b.filter) ⊎ ((a.filter ≡ b.filter) × (a.joined < b.joined))

-- two pairs count the same rows of their filter column: frequent values and cuts are the same, and lists at the same index have the same sum
pub record HaveSameFilterCounts (a b : PairStats) : Type 0 where
  pub values : map (λ (f : Datum × List ℕ). f.0) a.frequent ≡ map (λ (f : Datum × List ℕ). f.0) b.frequent
  pub totals : map (λ (f : Datum × List ℕ). sum f.1) a.frequent ≡ map (λ (f : Datum × List ℕ). sum f.1) b.frequent
  pub rest : sum a.rest ≡ sum b.rest
  pub cuts : a.cuts ≡ b.cuts
  pub nodes : map sum a.nodes ≡ map sum b.nodes

-- two pairs agree. If they have the same joined column, they have the same list of all rows. If they have the same filter column, they count the same
-- rows
pub record PairsAgree (a b : PairStats) : Type 0 where
  pub joined : a.joined ≡ b.joined → a.whole ≡ b.whole
  pub filter : a.filter ≡ b.filter → HaveSameFilterCounts a b

-- the section of a table of the schema. Its pairs ascend by their columns (`ComesBefore`), and any two of them agree
pub record IsSection (schema : Schema) (section : TableStats) : Type 0 where
  pub table : Table
  pub table_is : slice_get schema.tables section.table ≡ Some table
  pub rows : section.rows ≤ most_rows
  pub pairs : All (IsPair table section.rows) section.pairs
  pub order : AllPairs ComesBefore section.pairs
  pub agree : AllPairs PairsAgree section.pairs

-- all rules: the accuracy is 1 to 64, and tables are in the schema's order, each at most once
pub record KeepsRules (schema : Schema) (file : StatsFile) : Type 0 where
  pub least : 1 ≤ file.accuracy
  pub most : file.accuracy ≤ 64
  pub order : AllPairs (λ (a b : TableStats). a.table < b.table) file.tables
  pub tables : All (IsSection schema) file.tables
