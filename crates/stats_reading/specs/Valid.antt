-- A draft is valid at a stage if some file that keeps the rules extends it.
use Rattle.std.specs.Prelude.{ℕ, ◌≡◌, List, [], ◌∷◌, Some, slice_get}
use Rattle.schema_types.specs.declared.types.Column.{Column}
use Rattle.schema_types.specs.declared.types.Schema.{Schema}
use Rattle.schema_types.specs.declared.types.Table.{Table}
use Rattle.stats_file.specs.declared.types.PairStats.{PairStats}
use Rattle.stats_file.specs.Rules.{KeepsRules}
use Rattle.stats_reading.specs.declared.draft.Draft.{Draft}
use Rattle.stats_reading.specs.declared.stages.Stage.{Stage}
use Rattle.stats_reading.specs.declared.stages.Stage.TheVariants as stage
use Rattle.stats_reading.specs.Drafts.{empty_draft, IsPlaceOf}
use Rattle.stats_reading.specs.Remaining.{file_of_draft, section_of, CutsRemaining, FrequentRemaining, NodesRemaining, WholeRemaining}

-- the draft's `kind` and its two indexes of earlier pairs belong to the current pair
pub record HasKindAndIndexes (table : Table) (s : Draft) : Type 0 where
  pub column : Column
  pub column_is : slice_get table.columns s.pair.filter ≡ Some column
  pub kind_is : s.kind ≡ column.kind
  pub same_filter_at : IsPlaceOf (λ q. q.filter) s.pair.filter s.section.pairs s.same_filter_at
  pub same_joined_at : IsPlaceOf (λ q. q.joined) s.pair.joined s.section.pairs s.same_joined_at

-- the tables and pairs that were read so far, with the current table, make a file that keeps the rules
pub record IsValidSection (schema : Schema) (s : Draft) : Type 0 where
  pub table : Table
  pub exists : slice_get schema.tables s.section.table ≡ Some table
  pub keeps : KeepsRules schema (file_of_draft s (section_of s [] ∷ []))

-- some pair that extends the current one keeps the rules in this table
pub record IsValidPair (Left : PairStats → List (List ℕ) → Type 0) (schema : Schema) (s : Draft) : Type 0 where
  pub table : Table
  pub exists : slice_get schema.tables s.section.table ≡ Some table
  pub known : HasKindAndIndexes table s
  pub pair : PairStats
  pub own : List (List ℕ)
  pub left : Left pair own
  pub keeps : KeepsRules schema (file_of_draft s (section_of s (pair ∷ []) ∷ []))

abbrev pub IsValidDraft : Stage → Schema → Draft → Type 0
IsValidDraft stage.Start schema s = s ≡ empty_draft
IsValidDraft stage.Tables schema s = KeepsRules schema (file_of_draft s [])
IsValidDraft stage.Pairs schema s = IsValidSection schema s
IsValidDraft stage.Whole schema s = IsValidPair (WholeRemaining s.pair) schema s
IsValidDraft stage.Frequent schema s = IsValidPair (FrequentRemaining s.pair) schema s
IsValidDraft stage.Cuts schema s = IsValidPair (CutsRemaining s.pair) schema s
IsValidDraft stage.Nodes schema s = IsValidPair (NodesRemaining s.pair) schema s
IsValidDraft stage.Done schema s = KeepsRules schema (file_of_draft s [])
