-- The result of reading the bytes of a statistics file, line by line.
use Rattle.std.specs.Prelude.{ℕ, ◌+◌, ◌==◌, ◌&&◌, Bool, true, false, if◌then◌else◌, List, [], ◌∷◌, ◌++◌, slice_get, Option, None, Some, option_map, Result, Ok, Err}
use Rattle.schema_types.specs.declared.types.Column.{Column}
use Rattle.schema_types.specs.declared.types.Kind.{Kind}
use Rattle.schema_types.specs.declared.types.Kind.TheVariants as kinds
use Rattle.schema_types.specs.declared.types.Schema.{Schema}
use Rattle.schema_types.specs.declared.types.Table.{Table}
use Rattle.stats_file.specs.declared.types.PairStats.{PairStats}
use Rattle.stats_file.specs.declared.types.StatsError.{StatsError}
use Rattle.stats_file.specs.declared.types.StatsFile.{StatsFile}
use Rattle.stats_reading.specs.declared.draft.Draft.{Draft}
use Rattle.stats_reading.specs.declared.fault.Fault.{Fault}
use Rattle.stats_reading.specs.declared.fault.Fault.TheVariants as fault
use Rattle.stats_reading.specs.declared.line.LineKind.{LineKind}
use Rattle.stats_reading.specs.declared.line.LineKind.TheVariants as kind
use Rattle.stats_reading.specs.declared.stages.Stage.{Stage}
use Rattle.stats_reading.specs.declared.stages.Stage.TheVariants as stage
use Rattle.stats_reading.specs.Drafts.{empty_pair, empty_section, pair_ended, table_ended, with_cut, with_frequent, with_node, with_rest, with_whole}
use Rattle.stats_reading.specs.Refusals.{refusal_of}
use Rattle.stats_reading.specs.Remaining.{file_of_draft}
use Rattle.stats_reading.specs.Stages.{next_stage}
use Rattle.stats_lines.specs.LineForms.{line_of_bytes, is_empty, Line}
use Rattle.stats_lines.specs.NextValues.{has_all_nodes, next_accuracy, next_cut, next_frequent, next_node, next_pair, next_rest, next_table, next_whole}
use Rattle.stats_lines.specs.Searches.{when}

-- ---- the draft after a line. None: no file that keeps the rules has this line here

abbrev pub option_then : {X Y : Type 0} → Option X → (X → Option Y) → Option Y
option_then None next = None
option_then (Some x) next = next x

-- after the end of the open pair, if there is one
abbrev pub after_pair : Stage → Draft → Option Draft
after_pair stage.Cuts s = when (has_all_nodes s) (Some (pair_ended s))
after_pair stage.Nodes s = when (has_all_nodes s) (Some (pair_ended s))
after_pair _ s = Some s

-- after the end of the open table, if there is one
abbrev pub after_table : Stage → Draft → Option Draft
after_table stage.Tables s = Some s
after_table at s = option_map table_ended (after_pair at s)

-- the first index of a pair whose column is `wanted`, or an index beyond the end
unfoldable pub place_of : (PairStats → ℕ) → ℕ → List PairStats → ℕ
place_of column wanted [] = 0
place_of column wanted (pair ∷ pairs) = if column pair == wanted then 0 else place_of column wanted pairs + 1

abbrev pub kind_of : Option Column → Kind
kind_of None = kinds.Int
kind_of (Some column) = column.kind

-- the draft with a new pair of these columns
abbrev pub pair_begun : Table → Draft → ℕ × ℕ → Draft
pair_begun table s columns = record s {
  pair = empty_pair columns.0 columns.1;
  kind = kind_of (slice_get table.columns columns.0);
  same_filter_at = place_of (λ q. q.filter) columns.0 s.section.pairs;
  same_joined_at = place_of (λ q. q.joined) columns.1 s.section.pairs;
}

abbrev pub after_words : Stage → Schema → LineKind → Draft → List ℕ × List ℕ → Option Draft
after_words at schema kind.First s words = option_map (λ accuracy. record s { accuracy = accuracy }) (next_accuracy words.0)
after_words at schema kind.Table s words =
    option_then (after_table at s) (λ t. option_map (λ v. record t { section = empty_section v.place v.rows }) (next_table schema t words))
after_words at schema kind.Pair s words =
    option_then (after_pair at s) (λ t. option_then (slice_get schema.tables t.section.table) (λ table. option_map (pair_begun table t) (next_pair table t words)))
after_words at schema kind.Whole s words = option_map (with_whole s) (next_whole s words.0)
after_words at schema kind.Frequent s words = option_map (with_frequent s) (next_frequent s words)
after_words at schema kind.Rest s words = option_map (with_rest s) (next_rest s words.0)
after_words at schema kind.Cut s words = option_map (with_cut s) (next_cut s words.0)
after_words at schema kind.Node s words = option_map (with_node s) (next_node s words.0)
after_words at schema kind.End s words = after_table at s

-- ---- the draft after a line, or the line's fault

abbrev pub or_rule : Stage → Option Draft → Result Draft Fault
or_rule next None = Err fault.Rule
or_rule next (Some t) = Ok (record t { stage = next })

-- a line of a kind that may not come at this stage breaks the grammar
abbrev pub after_line_at : Schema → Draft → Line → Option Stage → Result Draft Fault
after_line_at schema s line None = Err fault.Syntax
after_line_at schema s line (Some next) = or_rule next (after_words s.stage schema line.kind s (line.first, line.second))

abbrev pub after_line_or_fault : Schema → Draft → Option Line → Result Draft Fault
after_line_or_fault schema s None = Err fault.Syntax
after_line_or_fault schema s (Some line) = after_line_at schema s line (next_stage s.stage line.kind)

unfoldable pub after_line : Schema → Draft → List ℕ → Result Draft Fault
after_line schema s bytes = after_line_or_fault schema s (line_of_bytes bytes)

-- ---- all lines

abbrev pub is_done : Stage → Bool
is_done stage.Done = true
is_done _ = false

-- the bytes `left` have no line end
abbrev pub result_at_end : Draft → ℕ → List ℕ → Result StatsFile StatsError
result_at_end s line left = if is_done s.stage && is_empty left then Ok (file_of_draft s []) else Err (refusal_of line fault.Syntax)

abbrev pub and_on : ℕ → Result Draft Fault → (Draft → Result StatsFile StatsError) → Result StatsFile StatsError
and_on line (Ok t) next = next t
and_on line (Err f) next = Err (refusal_of line f)

-- some lines were read into the draft. The next line has the number `line`. Of its bytes `front` are read, which have no line end, and `rest` comes
-- after them
unfoldable pub result_from : Schema → Draft → ℕ → List ℕ → List ℕ → Result StatsFile StatsError
result_from schema s line front [] = result_at_end s line front
result_from schema s line front (c ∷ rest) =
    if c == 10 then and_on line (after_line schema s front) (λ t. result_from schema t (line + 1) [] rest)
    else result_from schema s line (front ++ c ∷ []) rest
