-- What a line does to a draft. Either the line is taken, and the draft changes. Or the line is refused: no text of the grammar, or no file that keeps
-- the rules, has it after the lines of the draft.
use Rattle.std.specs.Prelude.{ℕ, ◌≡◌, ◌<◌, ◌↔◌, ⊤, All, length, List, [], ◌∷◌, Some, slice_get, Result, Ok, Err}
use Rattle.schema_types.specs.declared.types.Schema.{Schema}
use Rattle.schema_types.specs.declared.types.Table.{Table}
use Rattle.stats_file.specs.declared.types.StatsFile.{StatsFile}
use Rattle.stats_reading.specs.declared.draft.Draft.{Draft}
use Rattle.stats_reading.specs.declared.fault.Fault.{Fault}
use Rattle.stats_reading.specs.declared.fault.Fault.TheVariants as fault
use Rattle.stats_reading.specs.declared.line.LineKind.{LineKind}
use Rattle.stats_reading.specs.declared.line.LineKind.TheVariants as kind
use Rattle.stats_reading.specs.declared.stages.Stage.{Stage}
use Rattle.stats_reading.specs.Drafts.{empty_section, frequent_words, list_word, number_word, pair_words, table_words, value_word, with_cut, with_frequent, with_node, with_rest, with_whole, HasSmallSums, BeginsPair, MayBeAccuracy, MayBeCut, MayBeFrequent, MayBeNode, MayBePair, MayBeRest, MayBeTable, MayBeWhole, PairsAscend, TablesAscend, ReadsValue}
use Rattle.stats_reading.specs.Remaining.{FileRemaining}
use Rattle.stats_reading.specs.Stages.{TextRemaining}
use Rattle.stats_reading.specs.Steps.{Ends, EndsAnd, PairEnds, TableEnds}
use Rattle.stats_reading.specs.Valid.{IsValidDraft}

-- the words of a line are read as words of a new table. The draft has no open pair and no open table
abbrev pub BeginsTable : Schema → Draft → List ℕ × List ℕ → Draft → Result (Unit {0}) Fault → Type 0
BeginsTable schema t words m result =
    ReadsValue table_words (MayBeTable schema m) (λ v. t ≡ record m { section = empty_section v.place v.rows }) words result

-- the words of a line are read as words of a new pair. The draft has no open pair
abbrev pub BeginsPairOf : Schema → Draft → List ℕ × List ℕ → Draft → Result (Unit {0}) Fault → Type 0
BeginsPairOf schema t words m result = (table : Table) → slice_get schema.tables m.section.table ≡ Some table
    → ReadsValue (pair_words table) (λ c. MayBePair table m c.0 c.1) (λ c. BeginsPair table m t c.0 c.1) words result

-- what must hold before a line of this kind is read: tables or pairs ascend, a table is open, or sums fit into a `u64`
abbrev pub IsReadyAt : Stage → LineKind → Schema → Draft → Type 0
IsReadyAt at kind.Table schema s = (m : Draft) → TableEnds at s m → TablesAscend m
IsReadyAt at kind.Pair schema s = s.section.table < length schema.tables × ((m : Draft) → PairEnds at s m → PairsAscend m)
IsReadyAt at kind.Frequent schema s = All HasSmallSums s.section.pairs
IsReadyAt at kind.Rest schema s = All HasSmallSums s.section.pairs
IsReadyAt at kind.Node schema s = All HasSmallSums s.section.pairs
IsReadyAt at _ schema s = ⊤

abbrev pub IsReady : LineKind → Schema → Draft → Type 0
IsReady k schema s = IsReadyAt s.stage k schema s

-- the words of a line of this kind are read into a draft, at each stage
abbrev pub WordsAreRead : Stage → Schema → LineKind → Draft → Draft → List ℕ × List ℕ → Result (Unit {0}) Fault → Type 0
WordsAreRead at schema kind.First s t words result = ReadsValue number_word MayBeAccuracy (λ k. t ≡ record s { accuracy = k }) (words.0, []) result
WordsAreRead at schema kind.Table s t words result = EndsAnd (TableEnds at s) (BeginsTable schema t words) result
WordsAreRead at schema kind.Pair s t words result = EndsAnd (PairEnds at s) (BeginsPairOf schema t words) result
WordsAreRead at schema kind.Whole s t words result = ReadsValue list_word (MayBeWhole s) (λ l. t ≡ with_whole s l) (words.0, []) result
WordsAreRead at schema kind.Frequent s t words result = ReadsValue frequent_words (MayBeFrequent s) (λ f. t ≡ with_frequent s f) words result
WordsAreRead at schema kind.Rest s t words result = ReadsValue list_word (MayBeRest s) (λ l. t ≡ with_rest s l) (words.0, []) result
WordsAreRead at schema kind.Cut s t words result = ReadsValue value_word (MayBeCut s) (λ v. t ≡ with_cut s v) (words.0, []) result
WordsAreRead at schema kind.Node s t words result = ReadsValue list_word (MayBeNode s) (λ l. t ≡ with_node s l) (words.0, []) result
WordsAreRead at schema kind.End s t words result = Ends (TableEnds at s) t result

abbrev pub LineIsRead : Schema → LineKind → Draft → Draft → List ℕ × List ℕ → Result (Unit {0}) Fault → Type 0
LineIsRead schema k s t words result = WordsAreRead s.stage schema k s t words result

-- the line is taken: further lines may follow it in draft `s` exactly if they may follow in draft `t`
pub record IsTaken (schema : Schema) (s t : Draft) (line : List ℕ) : Type 0 where
  pub files : (file : StatsFile) (more : List (List ℕ)) → FileRemaining s.stage schema s file (line ∷ more) ↔ FileRemaining t.stage schema t file more
  pub texts : (more : List (List ℕ)) → TextRemaining s.stage (line ∷ more) ↔ TextRemaining t.stage more
  pub valid : IsValidDraft t.stage schema t

-- the line breaks a rule: the grammar allows the line here, but no file that keeps the rules has it
pub record BreaksRule (schema : Schema) (s : Draft) (line : List ℕ) : Type 0 where
  pub files : (file : StatsFile) (more : List (List ℕ)) → FileRemaining s.stage schema s file (line ∷ more) → ⊥
  pub some : List (List ℕ)
  pub text : TextRemaining s.stage (line ∷ some)

abbrev pub LineAnswers : Schema → Draft → Draft → List ℕ → Result (Unit {0}) Fault → Type 0
LineAnswers schema s t line (Ok done) = IsTaken schema s t line
LineAnswers schema s t line (Err fault.Syntax) = (more : List (List ℕ)) → TextRemaining s.stage (line ∷ more) → ⊥
LineAnswers schema s t line (Err fault.Rule) = BreaksRule schema s line
LineAnswers schema s t line (Err fault.NoMemory) = ⊤
