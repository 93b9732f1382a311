-- Calls of `stats`, `append` and `plan --stats` that ended with Done. Two calls are connected by the bytes of a statistics file: one call
-- wrote the bytes, and the next call read them.
use Rattle.std.specs.Prelude.{ℕ, ◌≡◌, ◌++◌, List, [], ◌∷◌, None, Some, ⊤}
use Rattle.base_io.specs.Devices.{Growth}
use Rattle.base_io.specs.Files.{Files, file_of}
use Rattle.outcomes.specs.declared.status.Status.TheVariants as status
use Rattle.safebound_words.specs.CommandLines.{AskFor}
use Rattle.safebound_words.specs.Commands.{over_query, append_command}
use Rattle.safebound_words.specs.declared.command.Command.{Command}
use Rattle.safebound_words.specs.declared.command.NewRows.{NewRows}
use Rattle.safebound_words.specs.declared.command.PlanTerms.{PlanTerms}
use Rattle.safebound_words.specs.declared.command.QueryTask.TheVariants as query_tasks
use Rattle.schema_types.specs.declared.types.Schema.{Schema}
use Rattle.safebound_top.specs.Call.{Call}
use Rattle.safebound_top.specs.Headline.{Headline}
use Rattle.safebound_top.specs.Promise.{DeclaresSchema}

-- the bytes of the sink are known, and it took exactly `bytes`
abbrev pub TookExactly : Growth → List ℕ → Type 0
TookExactly sink bytes = (before : List ℕ) × (sink.taken_before ≡ Some before) × (sink.taken_after ≡ Some (before ++ bytes))

-- the headline holds for the call, its words ask for the command, and it ended with Done. `files` are the files of its store
pub record IsDone (call : Call) (command : Command) (files : Files) : Type 0 where
  pub headline : Headline call
  pub asked : AskFor call.words command
  pub done : call.status ≡ status.Done
  pub told : call.store.files ≡ Some files

-- ---- stats

-- a call of `stats`, its files, and what its words say
pub record StatsCall : Type 0 where
  pub call : Call
  pub files : Files
  pub schema_file : List ℕ
  pub query_file : List ℕ
  pub accuracy : ℕ

-- the call of `stats` read this schema and wrote these bytes
pub record WroteStats (made : StatsCall) (schema : Schema) (bytes : List ℕ) : Type 0 where
  pub done : IsDone made.call (over_query None made.schema_file made.query_file (query_tasks.WriteStats made.accuracy)) made.files
  pub declares : DeclaresSchema made.files made.schema_file schema
  pub wrote : TookExactly made.call.out bytes

-- ---- append

-- a call of `append`, its files, what its words say, and the bytes that it wrote
pub record AppendCall : Type 0 where
  pub call : Call
  pub files : Files
  pub schema_file : List ℕ
  pub names : NewRows
  pub bytes : List ℕ

-- the call of `append` read this schema, and its statistics file has these bytes
pub record AppendedTo (schema : Schema) (before : List ℕ) (append : AppendCall) : Type 0 where
  pub done : IsDone append.call (append_command append.schema_file append.names) append.files
  pub declares : DeclaresSchema append.files append.schema_file schema
  pub there : file_of append.files append.names.stats_file ≡ Some before
  pub wrote : TookExactly append.call.out append.bytes

-- each call of `append` read the bytes that the call before it wrote, and the first call read the bytes `before`
abbrev pub EachReadsTheBytesBefore : Schema → List ℕ → List AppendCall → Type 0
EachReadsTheBytesBefore schema before [] = ⊤
EachReadsTheBytesBefore schema before (append ∷ appends) = AppendedTo schema before append × EachReadsTheBytesBefore schema append.bytes appends

-- the bytes that the last call of `append` wrote, or `before` if there is no call
abbrev pub last_bytes : List ℕ → List AppendCall → List ℕ
last_bytes before [] = before
last_bytes before (append ∷ appends) = last_bytes append.bytes appends

-- ---- plan --stats

-- a call of `plan --stats`, its files, and what its words say
pub record PlanCall : Type 0 where
  pub call : Call
  pub files : Files
  pub schema_file : List ℕ
  pub query_file : List ℕ
  pub stats_file : List ℕ
  pub terms : PlanTerms

-- the call of `plan --stats` read this schema, and its statistics file has these bytes
pub record PlannedFrom (schema : Schema) (bytes : List ℕ) (planned : PlanCall) : Type 0 where
  pub done : IsDone planned.call (over_query None planned.schema_file planned.query_file (query_tasks.PlanFromStats planned.stats_file planned.terms)) planned.files
  pub declares : DeclaresSchema planned.files planned.schema_file schema
  pub there : file_of planned.files planned.stats_file ≡ Some bytes
