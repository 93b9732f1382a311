-- The line for each status but Done: `error`, then words with a blank before each.
use Rattle.std.specs.Prelude.{ℕ, Bool, true, false, List, [], ◌∷◌, ◌++◌, map, codes, decimal, Option, None, Some, slice_get, if◌then◌else◌}
use Rattle.std.specs.Char.{to_ascii_lowercase}
use Rattle.std.specs.List.{flat_map}
use Rattle.schema_types.specs.declared.errors.LimitKind.{LimitKind}
use Rattle.schema_types.specs.declared.errors.LimitKind.TheVariants as limit
use Rattle.schema_types.specs.declared.types.Column.{Column}
use Rattle.schema_types.specs.declared.types.Schema.{Schema}
use Rattle.schema_types.specs.declared.types.Table.{Table}
use Rattle.outcomes.specs.declared.names.FileId.{FileId}
use Rattle.outcomes.specs.declared.names.FileId.TheVariants as file
use Rattle.outcomes.specs.declared.names.SinkId.{SinkId}
use Rattle.outcomes.specs.declared.names.SinkId.TheVariants as sink
use Rattle.outcomes.specs.declared.refusal.QueryCause.{QueryCause}
use Rattle.outcomes.specs.declared.refusal.QueryCause.TheVariants as query
use Rattle.outcomes.specs.declared.refusal.Refusal.{Refusal}
use Rattle.outcomes.specs.declared.refusal.Refusal.TheVariants as refusal
use Rattle.outcomes.specs.declared.refusal.SchemaCause.{SchemaCause}
use Rattle.outcomes.specs.declared.refusal.SchemaCause.TheVariants as schema
use Rattle.outcomes.specs.declared.refusal.StatsCause.{StatsCause}
use Rattle.outcomes.specs.declared.refusal.StatsCause.TheVariants as stats
use Rattle.outcomes.specs.declared.refusal.TableCause.{TableCause}
use Rattle.outcomes.specs.declared.refusal.TableCause.TheVariants as table
use Rattle.outcomes.specs.declared.status.Status.{Status}
use Rattle.outcomes.specs.declared.status.Status.TheVariants as status

-- the names that a line may need. The files are named as in the command; `rows_file` is the file of new rows, if the command has one. After the
-- schema was read, the line may also name its tables
pub record NamesInLine : Type 0 where
  pub schema_file : List ℕ
  pub query_file : List ℕ
  pub stats_file : List ℕ
  pub rows_file : Option (List ℕ)
  pub schema : Option Schema

-- the name of a table's own file: the table's name in lower case, and `.csv`
abbrev pub table_file : Table → List ℕ
table_file table = map to_ascii_lowercase table.name ++ codes ".csv"

-- the table with this number in the schema, if there is one
abbrev pub table_in : Option Schema → ℕ → Option Table
table_in None number = None
table_in (Some schema) number = slice_get schema.tables number

abbrev pub file_of_table : Option Table → List ℕ
file_of_table None = []
file_of_table (Some table) = table_file table

-- the file of a table's rows: the file that the command names, or else the table's own file
abbrev pub file_of_rows : Option (List ℕ) → Option Table → List ℕ
file_of_rows None table = file_of_table table
file_of_rows (Some name) table = name

abbrev pub name_of_column : Option Column → List ℕ
name_of_column None = []
name_of_column (Some column) = column.name

abbrev pub column_name_in : Option Table → ℕ → List ℕ
column_name_in None number = []
column_name_in (Some table) number = name_of_column (slice_get table.columns number)

-- the name of a file in a line: the command's word, or the name of a table's own file
abbrev pub file_name : FileId → NamesInLine → List ℕ
file_name file.Schema names = names.schema_file
file_name file.Query names = names.query_file
file_name (file.Table number) names = file_of_rows names.rows_file (table_in names.schema number)
file_name file.Stats names = names.stats_file

abbrev pub schema_cause : SchemaCause → List ℕ
schema_cause schema.Syntax = codes "syntax"
schema_cause schema.Name = codes "name"
schema_cause schema.Nullable = codes "nullable"

abbrev pub query_cause : QueryCause → List ℕ
query_cause query.Syntax = codes "syntax"
query_cause query.Name = codes "name"
query_cause query.Kind = codes "kind"

abbrev pub stats_cause : StatsCause → List ℕ
stats_cause stats.Syntax = codes "syntax"
stats_cause stats.Rule = codes "rule"
stats_cause stats.Missing = codes "missing"

-- the words for a fault in a table's file. A column is given by its name
abbrev pub table_cause : TableCause → Option Table → List (List ℕ)
table_cause (table.Utf8 at) t = codes "utf8" ∷ (decimal at ∷ [])
table_cause (table.Header number) t = codes "header" ∷ (column_name_in t number ∷ [])
table_cause (table.Width row found) t = codes "width" ∷ (decimal row ∷ (decimal found ∷ []))
table_cause (table.Field row number) t = codes "field" ∷ (decimal row ∷ (column_name_in t number ∷ []))
table_cause (table.Key row earlier) t = codes "key" ∷ (decimal row ∷ (decimal earlier ∷ []))

abbrev pub table_words : List ℕ → Option Table → TableCause → List (List ℕ)
table_words name t cause = codes "table" ∷ (name ∷ table_cause cause t)

abbrev pub limit_word : LimitKind → List ℕ
limit_word limit.FileBytes = codes "file-bytes"
limit_word limit.Rows = codes "rows"
limit_word limit.Tables = codes "tables"
limit_word limit.Columns = codes "columns"
limit_word limit.TextLength = codes "text-length"
limit_word limit.Nesting = codes "nesting"
limit_word limit.FromEntries = codes "from-entries"
limit_word limit.InValues = codes "in-values"
limit_word limit.Conjuncts = codes "conjuncts"
limit_word limit.Outputs = codes "outputs"

-- whether the limit applies to a file as a whole; if so, the line has the file's name
abbrev pub is_of_file : LimitKind → Bool
is_of_file limit.FileBytes = true
is_of_file limit.Rows = true
is_of_file limit.Tables = false
is_of_file limit.Columns = false
is_of_file limit.TextLength = false
is_of_file limit.Nesting = false
is_of_file limit.FromEntries = false
is_of_file limit.InValues = false
is_of_file limit.Conjuncts = false
is_of_file limit.Outputs = false

abbrev pub limit_words : LimitKind → List ℕ → ℕ → List (List ℕ)
limit_words which name found =
    codes "limit" ∷ (limit_word which ∷ (if is_of_file which then name ∷ (decimal found ∷ []) else decimal found ∷ []))

abbrev pub sink_name : SinkId → List ℕ
sink_name sink.Out = codes "out"
sink_name sink.Notes = codes "notes"

-- the words for a file that doesn't exist or can't be read
abbrev pub read_words : FileId → NamesInLine → List (List ℕ)
read_words id names = codes "read" ∷ (file_name id names ∷ [])

-- the words for a refusal
abbrev pub refusal_words : Refusal → NamesInLine → List (List ℕ)
refusal_words refusal.Usage names = codes "usage" ∷ []
refusal_words (refusal.Missing id) names = read_words id names
refusal_words (refusal.Schema cause at) names = codes "schema" ∷ (schema_cause cause ∷ (decimal at ∷ []))
refusal_words (refusal.Query cause at) names = codes "query" ∷ (query_cause cause ∷ (decimal at ∷ []))
refusal_words (refusal.Table number cause) names = table_words (file_name (file.Table number) names) (table_in names.schema number) cause
refusal_words (refusal.Stats cause at) names = codes "stats" ∷ (stats_cause cause ∷ (decimal at ∷ []))
refusal_words (refusal.Limit which id found) names = limit_words which (file_name id names) found
refusal_words (refusal.Budget least) names = codes "budget" ∷ (decimal least ∷ [])
refusal_words (refusal.MemoryLimit bytes) names = codes "memory-limit" ∷ (decimal bytes ∷ [])
refusal_words refusal.PastBits names = codes "past-bits" ∷ []

-- the words for a status
abbrev pub fault : Status → NamesInLine → List (List ℕ)
fault status.Done names = []
fault (status.Refused r) names = refusal_words r names
fault (status.ReadFault id) names = read_words id names
fault (status.WriteFault failed) names = codes "write" ∷ (sink_name failed ∷ [])
fault status.NoMemory names = codes "memory" ∷ []

-- a word with a blank before it
abbrev pub after_blank : List ℕ → List ℕ
after_blank word = 32 ∷ word

-- `error`, the words, and the line's end
unfoldable pub error_line : List (List ℕ) → List ℕ
error_line words = codes "error" ++ (flat_map after_blank words ++ codes "\n")

abbrev pub fault_line : Status → NamesInLine → List ℕ
fault_line s names = error_line (fault s names)
