-- The value that a line may add to a draft, and the draft afterwards. A draft is the part of a file that is read so far.
use Rattle.std.specs.Prelude.{ℕ, ◌≡◌, ◌≢◌, ◌<◌, ◌≤◌, ◌-◌, ◌^◌, ⊤, List, [], ◌∷◌, ◌++◌, length, sum, All, AllPairs, Option, Some, None, slice_get, decimal, Result, Ok, Err}
use Rattle.std.specs.declared.cmp.Ordering.TheVariants.{Greater}
use Rattle.limits.specs.Profile.{least_accuracy, most_accuracy, most_rows}
use Rattle.schema_types.specs.declared.types.Column.{Column}
use Rattle.schema_types.specs.declared.types.Kind.TheVariants as kind
use Rattle.schema_types.specs.declared.types.Schema.{Schema}
use Rattle.schema_types.specs.declared.types.Table.{Table}
use Rattle.stats_file.specs.declared.types.Datum.{Datum}
use Rattle.stats_file.specs.declared.types.PairStats.{PairStats}
use Rattle.stats_file.specs.declared.types.TableStats.{TableStats}
use Rattle.stats_file.specs.FileText.{name_at}
use Rattle.stats_file.specs.Lines.{datum_text, hex_text}
use Rattle.stats_file.specs.Rules.{datum_cmp, IsList, IsOfKind, ComesBefore}
use Rattle.stats_words.specs.Runs.{list_text}
use Rattle.stats_reading.specs.declared.draft.Draft.{Draft}
use Rattle.stats_reading.specs.declared.fault.Fault.{Fault}
use Rattle.stats_reading.specs.declared.fault.Fault.TheVariants as fault
use Rattle.stats_reading.specs.declared.stages.Stage.TheVariants as stage

-- ---- drafts and how they change

abbrev pub empty_pair : ℕ → ℕ → PairStats
empty_pair filter joined = record { filter = filter; joined = joined; whole = []; frequent = []; rest = []; cuts = []; nodes = [] }

abbrev pub empty_section : ℕ → ℕ → TableStats
empty_section table rows = record { table = table; rows = rows; pairs = [] }

abbrev pub empty_draft : Draft
empty_draft = record {
  stage = stage.Start;
  accuracy = 0;
  tables = [];
  section = empty_section 0 0;
  pair = empty_pair 0 0;
  kind = kind.Int;
  same_filter_at = 0;
  same_joined_at = 0;
}

-- the draft with one more list or value in its current pair; one function for each kind of line
abbrev pub with_whole : Draft → List ℕ → Draft
with_whole s list = record s { pair = record s.pair { whole = list } }

abbrev pub with_frequent : Draft → Datum × List ℕ → Draft
with_frequent s f = record s { pair = record s.pair { frequent = s.pair.frequent ++ f ∷ [] } }

abbrev pub with_rest : Draft → List ℕ → Draft
with_rest s list = record s { pair = record s.pair { rest = list } }

abbrev pub with_cut : Draft → Datum → Draft
with_cut s cut = record s { pair = record s.pair { cuts = s.pair.cuts ++ cut ∷ [] } }

abbrev pub with_node : Draft → List ℕ → Draft
with_node s node = record s { pair = record s.pair { nodes = s.pair.nodes ++ node ∷ [] } }

-- the draft after its current pair is added to the table
abbrev pub pair_ended : Draft → Draft
pair_ended s = record s { section = record s.section { pairs = s.section.pairs ++ s.pair ∷ [] }; pair = empty_pair 0 0 }

-- the draft after its current table is added to the file
abbrev pub table_ended : Draft → Draft
table_ended s = record s { tables = s.tables ++ s.section ∷ []; section = empty_section 0 0 }

-- if the table has rows, the current pair has all 32 cuts and all 63 nodes
abbrev pub HasAllNodes : Draft → Type 0
HasAllNodes s = 0 < s.section.rows → (length s.pair.cuts ≡ 32) × (length s.pair.nodes ≡ 63)

-- `place` is the index of a pair whose column is `wanted`. If no pair has this column, `place` is beyond the end of `pairs`
pub record IsPlaceOf (column : PairStats → ℕ) (wanted : ℕ) (pairs : List PairStats) (place : ℕ) : Type 0 where
  pub found : (q : PairStats) → slice_get pairs place ≡ Some q → column q ≡ wanted
  pub none : slice_get pairs place ≡ None → All (λ q. column q ≢ wanted) pairs

-- draft `new` is `old`, with a new pair of these columns as its current pair
pub record BeginsPair (table : Table) (old new : Draft) (filter joined : ℕ) : Type 0 where
  pub column : Column
  pub column_is : slice_get table.columns filter ≡ Some column
  pub same_filter_at : IsPlaceOf (λ q. q.filter) filter old.section.pairs new.same_filter_at
  pub same_joined_at : IsPlaceOf (λ q. q.joined) joined old.section.pairs new.same_joined_at
  pub whole : new ≡ record old { pair = empty_pair filter joined; kind = column.kind; same_filter_at = new.same_filter_at; same_joined_at = new.same_joined_at }

-- the complete tables ascend by their positions in the schema, and the complete pairs of the current table ascend by their columns
abbrev pub TablesAscend : Draft → Type 0
TablesAscend s = AllPairs (λ (a b : TableStats). a.table < b.table) s.tables

abbrev pub PairsAscend : Draft → Type 0
PairsAscend s = AllPairs ComesBefore s.section.pairs

-- ---- what may come next

-- q is an earlier pair that has the current pair's filter column
abbrev pub HasSameFilter : Draft → PairStats → Type 0
HasSameFilter s q = slice_get s.section.pairs s.same_filter_at ≡ Some q

abbrev pub HasSameJoined : Draft → PairStats → Type 0
HasSameJoined s q = slice_get s.section.pairs s.same_joined_at ≡ Some q

abbrev pub MayBeAccuracy : ℕ → Type 0
MayBeAccuracy k = (least_accuracy ≤ k) × (k ≤ most_accuracy)

-- a table of the schema, with its position there and its number of rows
pub record TableWithRows : Type 0 where
  pub table : Table
  pub place : ℕ
  pub rows : ℕ

pub record MayBeTable (schema : Schema) (s : Draft) (v : TableWithRows) : Type 0 where
  pub exists : slice_get schema.tables v.place ≡ Some v.table
  pub later : All (λ t. t.table < v.place) s.tables
  pub within_limit : v.rows ≤ most_rows

pub record MayBePair (table : Table) (s : Draft) (filter joined : ℕ) : Type 0 where
  pub filter_is : filter < length table.columns
  pub joined_is : joined < length table.columns
  pub later : All (λ q. ComesBefore q (empty_pair filter joined)) s.section.pairs

-- a list may be the list of all rows: its sum is the number of rows, and an earlier pair with the same joined column has the same list
pub record WholeFollows (s : Draft) (list : List ℕ) : Type 0 where
  pub all : sum list ≡ s.section.rows
  pub alike : (q : PairStats) → HasSameJoined s q → q.whole ≡ list

-- at this index pair q has the same frequent value, with a list of the same sum
pub record IsSameValue (place : ℕ) (f : Datum × List ℕ) (q : PairStats) : Type 0 where
  pub other : Datum × List ℕ
  pub there : slice_get q.frequent place ≡ Some other
  pub value : other.0 ≡ f.0
  pub total : sum other.1 ≡ sum f.1

-- a value with its list may be the next frequent value
pub record FrequentFollows (s : Draft) (f : Datum × List ℕ) : Type 0 where
  pub within_limit : length s.pair.frequent < 32
  pub differs : All (λ (e : Datum × List ℕ). e.0 ≢ f.0) s.pair.frequent
  pub alike : (q : PairStats) → HasSameFilter s q → IsSameValue (length s.pair.frequent) f q

-- pair q has `count` frequent values, and its list of the other values has the same sum
pub record IsSameRest (count : ℕ) (list : List ℕ) (q : PairStats) : Type 0 where
  pub count_is : length q.frequent ≡ count
  pub total : sum q.rest ≡ sum list

pub record RestFollows (s : Draft) (list : List ℕ) : Type 0 where
  pub alike : (q : PairStats) → HasSameFilter s q → IsSameRest (length s.pair.frequent) list q

-- `cut` may be the next cut
pub record CutFollows (s : Draft) (cut : Datum) : Type 0 where
  pub some : 0 < s.section.rows
  pub within_limit : length s.pair.cuts < 32
  pub order : (last : Datum) → slice_get s.pair.cuts (length s.pair.cuts - 1) ≡ Some last → datum_cmp last cut ≢ Greater
  pub alike : (q : PairStats) → HasSameFilter s q → slice_get q.cuts (length s.pair.cuts) ≡ Some cut

-- at this index pair q has a node whose list has the same sum
pub record IsSameTotal (place : ℕ) (node : List ℕ) (q : PairStats) : Type 0 where
  pub other : List ℕ
  pub there : slice_get q.nodes place ≡ Some other
  pub total : sum other ≡ sum node

-- `node` may be the next node: all cuts come before the nodes
pub record NodeFollows (s : Draft) (node : List ℕ) : Type 0 where
  pub some : 0 < s.section.rows
  pub all_cuts : length s.pair.cuts ≡ 32
  pub within_limit : length s.pair.nodes < 63
  pub alike : (q : PairStats) → HasSameFilter s q → IsSameTotal (length s.pair.nodes) node q

abbrev pub MayBeWhole : Draft → List ℕ → Type 0
MayBeWhole s list = IsList s.section.rows list × WholeFollows s list

abbrev pub MayBeFrequent : Draft → Datum × List ℕ → Type 0
MayBeFrequent s f = IsOfKind s.kind f.0 × IsList s.section.rows f.1 × FrequentFollows s f

abbrev pub MayBeRest : Draft → List ℕ → Type 0
MayBeRest s list = IsList s.section.rows list × RestFollows s list

abbrev pub MayBeCut : Draft → Datum → Type 0
MayBeCut s cut = IsOfKind s.kind cut × CutFollows s cut

abbrev pub MayBeNode : Draft → List ℕ → Type 0
MayBeNode s node = IsList s.section.rows node × NodeFollows s node

-- ---- reading the words of a line

-- a value that may come next has these words, and this value was taken. `ReadsValue` also allows a fault, if no such value has these words
pub record WasRead {X : Type 0} (text : X → List ℕ × List ℕ) (MayBe After : X → Type 0) (words : List ℕ × List ℕ) : Type 0 where
  pub value : X
  pub may : MayBe value
  pub spelled : text value ≡ words
  pub after : After value

abbrev pub ReadsValue : {X : Type 0} → (X → List ℕ × List ℕ) → (X → Type 0) → (X → Type 0) → List ℕ × List ℕ → Result (Unit {0}) Fault → Type 0
ReadsValue {X} text MayBe After words (Ok done) = WasRead text MayBe After words
ReadsValue {X} text MayBe After words (Err fault.Syntax) = ⊥
ReadsValue {X} text MayBe After words (Err fault.Rule) = (x : X) → MayBe x → text x ≢ words
ReadsValue {X} text MayBe After words (Err fault.NoMemory) = ⊤

-- for each kind of value, the words of the line that has it
abbrev pub number_word : ℕ → List ℕ × List ℕ
number_word n = (decimal n, [])

abbrev pub list_word : List ℕ → List ℕ × List ℕ
list_word list = (list_text list, [])

abbrev pub value_word : Datum → List ℕ × List ℕ
value_word value = (datum_text value, [])

abbrev pub frequent_words : Datum × List ℕ → List ℕ × List ℕ
frequent_words f = (datum_text f.0, list_text f.1)

abbrev pub pair_words : Table → ℕ × ℕ → List ℕ × List ℕ
pair_words table columns = (hex_text (name_at table columns.0), hex_text (name_at table columns.1))

abbrev pub table_words : TableWithRows → List ℕ × List ℕ
table_words v = (hex_text v.table.name, decimal v.rows)

-- the index of an element with the name that `word` spells, or `None` if no element has it
abbrev pub IsNamed : {X : Type 0} → (X → List ℕ) → List X → List ℕ → Option ℕ → Type 0
IsNamed {X} name xs word None = All (λ x. word ≢ hex_text (name x)) xs
IsNamed {X} name xs word (Some place) = (x : X) × (slice_get xs place ≡ Some x) × (word ≡ hex_text (name x))

-- the sums of the pair's lists fit into a `u64`
pub record HasSmallSums (q : PairStats) : Type 0 where
  pub rest : sum q.rest < 2 ^ 64
  pub frequent : All (λ (f : Datum × List ℕ). sum f.1 < 2 ^ 64) q.frequent
  pub nodes : All (λ node. sum node < 2 ^ 64) q.nodes
