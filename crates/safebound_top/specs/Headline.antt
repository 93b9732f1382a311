-- What a call of the program answers, and why: nine sentences about the words, the files and the two streams.
--
-- If the store doesn't tell its files, a sentence about the verdict says nothing. If a stream doesn't tell its bytes, a sentence about what it took
-- says nothing.
use Rattle.std.specs.Prelude.{ℕ, ◌≡◌, ◌≢◌, ◌↔◌, ◌⊎◌, List, codes, Option, None, Some, Result, Ok, Err, IfOk, IsOkAnd}
use Rattle.base_io.specs.Causes.{Rose}
use Rattle.base_io.specs.Files.{Files}
use Rattle.base_io.specs.Sinks.{appended, GrewByPrefix}
use Rattle.base_io.specs.Devices.{Growth}
use Rattle.outcomes.specs.Reads.{MissesNothing}
use Rattle.outcomes.specs.declared.names.FileId.{FileId}
use Rattle.outcomes.specs.declared.names.SinkId.{SinkId}
use Rattle.outcomes.specs.declared.names.SinkId.TheVariants as sink
use Rattle.outcomes.specs.declared.refusal.Refusal.{Refusal}
use Rattle.outcomes.specs.declared.refusal.Refusal.TheVariants as refusal
use Rattle.outcomes.specs.declared.status.Status.{Status}
use Rattle.outcomes.specs.declared.status.Status.TheVariants as status
use Rattle.safebound_top.specs.Call.{Call, CutThenTold, Grew, GrewOrWasCut}
use Rattle.safebound_top.specs.Faults.{fault_text}
use Rattle.prepared_runs.specs.RunOutcome.{KeepsItsLimit, NoBoundIsTooLow, RunOutcome, PrintsTheAnswer}
use Rattle.safebound_top.specs.OutcomeTexts.{notes_text, out_text}
use Rattle.prepared_runs.specs.Verdict.{IsReadByVerdict, command_stage, verdict}

-- if the store tells its files, P is true of these files and of the verdict of the words over them
abbrev pub OverFiles : Call → (Files → Result RunOutcome Refusal → Type 0) → Type 0
OverFiles call P = (files : Files) → call.store.files ≡ Some files → P files (verdict call.words files)

-- the sink tells the same bytes as before, if it tells its bytes, and its count of faults is as before
abbrev pub DidNotGrow : Growth → Type 0
DidNotGrow sink = (sink.taken_after ≡ sink.taken_before) × (sink.faults_after ≡ sink.faults_before)

-- the sink grew by exactly the text; if there is no text, it took nothing
abbrev pub GrewWhole : Growth → Option (List ℕ) → Type 0
GrewWhole sink None = DidNotGrow sink
GrewWhole sink (Some text) = Grew sink text

-- what a sink took, and then the text, if there is one
abbrev pub grown : Option (List ℕ) → Option (List ℕ) → Option (List ℕ)
grown taken None = taken
grown taken (Some text) = appended taken text

-- there is a text, and the sink grew by a prefix of it
abbrev pub TookPrefix : Growth → Option (List ℕ) → Type 0
TookPrefix sink None = ⊥
TookPrefix sink (Some text) = GrewByPrefix sink.taken_before sink.taken_after text

-- there is a text, and the sink grew by a prefix of it, and then by a prefix of a line
abbrev pub TookPrefixThenLine : Growth → Option (List ℕ) → List ℕ → Type 0
TookPrefixThenLine sink None line = ⊥
TookPrefixThenLine sink (Some text) line = CutThenTold sink.taken_before sink.taken_after text line

abbrev pub FaultsRose : Growth → Type 0
FaultsRose sink = Rose sink.faults_before sink.faults_after

-- the sink grew by a prefix of the line, and by the whole line if its count of faults didn't rise
abbrev pub GrewByLine : Growth → List ℕ → Type 0
GrewByLine sink line = GrewOrWasCut sink.taken_before sink.taken_after sink.faults_before sink.faults_after line

-- 1. A call ends with Done only if the verdict is accepted. The notes grew by exactly the plan text of the verdict; for `stats` and
--    `append` the notes took nothing. For `run`, out grew by exactly the rows text; for `audit` and `demo`, by exactly the audit text; for
--    `stats` and `append`, by exactly the text of the statistics file. For `plan`, out took nothing.
abbrev pub DoneIsExact : Call → Type 0
DoneIsExact call = call.status ≡ status.Done
    → OverFiles call (λ files v. IsOkAnd v (λ outcome. GrewWhole call.notes (notes_text outcome) × GrewWhole call.out (out_text outcome)))

-- 2. If the verdict is accepted, the scan of each FROM entry and each level of the order have at most as many rows as the plan text of 1 says. That
--    is so for `plan` too, which lists no rows. With `--bushy` the plan is a join tree, and its inner nodes take the place of levels. Without
--    `--reduce` and `--count`, scans, levels and nodes are those of the query over whole tables. With one of these flags, scans are the
--    reduced scans, the text prints exactly their numbers of rows, and levels and nodes are over the reduced scans. `--keys` makes bounds
--    of levels and nodes lower; their rows stay the same. The audit text of 1 prints the number of rows of each level or inner node beside
--    its bound. With `--stats`, bounds hold over all tables for which the statistics file stands, whoever wrote the file. The file that
--    `stats` writes stands for the tables that were read. If a file stands for some tables, `append` makes a file from it that stands for
--    these tables with the new rows after the old ones.
abbrev pub EveryBoundHolds : Call → Type 0
EveryBoundHolds call = OverFiles call (λ files v. IfOk v NoBoundIsTooLow)

-- 3. Where the verdict is accepted, the rows that `run` prints are, as a multiset, the answer of the query.
abbrev pub TheRowsAreTheAnswer : Call → Type 0
TheRowsAreTheAnswer call = OverFiles call (λ files v. IfOk v PrintsTheAnswer)

-- 4. If the call ended because memory ran out, the notes grew by the line `error memory`, and out didn't grow.
abbrev pub WantOfMemoryLeavesItsLine : Call → Type 0
WantOfMemoryLeavesItsLine call = call.status ≡ status.NoMemory → GrewByLine call.notes (codes "error memory\n") × DidNotGrow call.out

-- 5. A call ends with a write fault only if the verdict is accepted and the named sink's count of faults rose.
pub record WriteFaultsHaveTheirCause (call : Call) : Type 0 where
  -- a fault of notes: the notes took a prefix of the plan text, and then a prefix of the line; out didn't grow
  pub of_notes : call.status ≡ status.WriteFault sink.Notes → FaultsRose call.notes × DidNotGrow call.out
      × OverFiles call (λ files v. IsOkAnd v (λ outcome. TookPrefixThenLine call.notes (notes_text outcome)
      (fault_text call.status call.words files)))
  -- a fault of out: the notes took the plan text, if there is one, and then the line; out took a prefix of its text
  pub of_out : call.status ≡ status.WriteFault sink.Out → FaultsRose call.out
      × OverFiles call (λ files v. IsOkAnd v (λ outcome. TookPrefix call.out (out_text outcome)
      × GrewOrWasCut (grown call.notes.taken_before (notes_text outcome)) call.notes.taken_after call.notes.faults_before call.notes.faults_after
      (fault_text call.status call.words files)))

-- 6. A call ends with a refusal only if the verdict is this refusal, with the same fields. The notes grew by the refusal's line, and out didn't grow.
--    Whether the refusal is Usage depends only on the words.
pub record RefusalsAreTheVerdict (call : Call) : Type 0 where
  pub usage : (call.status ≡ status.Refused refusal.Usage) ↔ (command_stage call.words ≡ Err refusal.Usage)
  pub told : (r : Refusal) → call.status ≡ status.Refused r → DidNotGrow call.out
      × OverFiles call (λ files v. (v ≡ Err r) × GrewByLine call.notes (fault_text call.status call.words files))
  -- a file is refused as missing only if the store tells its files
  pub missing_only_if_told : (file : FileId) → call.status ≡ status.Refused (refusal.Missing file) → call.store.files ≢ None

-- 7. A call ends with a read fault only if the store's count of faults rose and the verdict reads the named file. The notes grew by the fault's line,
--    and out didn't grow. The store that `demo` reads never counts a fault.
pub record ReadFaultsHaveTheirCause (call : Call) : Type 0 where
  pub told : (file : FileId) → call.status ≡ status.ReadFault file
      → Rose call.store.faults_before call.store.faults_after × DidNotGrow call.out
      × OverFiles call (λ files v. IsReadByVerdict call.words files file × GrewByLine call.notes (fault_text call.status call.words files))
  -- if the verdict misses no file, the store's count of misses is as before: the call asked for no absent file
  pub misses : OverFiles call (λ files v. MissesNothing v → call.store.misses_after ≡ call.store.misses_before)

abbrev pub status_of : Result RunOutcome Refusal → Status
status_of (Ok outcome) = status.Done
status_of (Err r) = status.Refused r

-- 8. Nothing is refused without a cause. If the store's count of faults didn't rise, the status is the verdict's, or a write fault, or
--    NoMemory. If the sinks' counts didn't rise either, the status is the verdict's, or NoMemory.
pub record NothingIsRefusedWithoutCause (call : Call) : Type 0 where
  pub by_the_store : (Rose call.store.faults_before call.store.faults_after → ⊥)
      → OverFiles call (λ files v. (call.status ≡ status_of v) ⊎ ((which : SinkId) × (call.status ≡ status.WriteFault which))
      ⊎ (call.status ≡ status.NoMemory))
  pub by_the_sinks : (Rose call.store.faults_before call.store.faults_after → ⊥) → (FaultsRose call.out → ⊥) → (FaultsRose call.notes → ⊥)
      → OverFiles call (λ files v. (call.status ≡ status_of v) ⊎ (call.status ≡ status.NoMemory))

-- 9. If the verdict is accepted and `--memory N` is given, the plan text of 1 prints how many bytes the plan's buffers take, and this
--    number is at most N. A plan that takes more is refused as MemoryLimit, unless Budget or PastBits refuses it first. The clause
--    `buffers` of `safebound` (`KeepsItsBuffers` of prepared_runs) says that after Done the buffers hold exactly these bytes.
abbrev pub EveryLimitIsKept : Call → Type 0
EveryLimitIsKept call = OverFiles call (λ files v. IfOk v KeepsItsLimit)

-- what a call answers, and why
pub record Headline (call : Call) : Type 0 where
  pub done_is_exact : DoneIsExact call
  pub every_bound_holds : EveryBoundHolds call
  pub the_rows_are_the_answer : TheRowsAreTheAnswer call
  pub want_of_memory_leaves_its_line : WantOfMemoryLeavesItsLine call
  pub write_faults_have_their_cause : WriteFaultsHaveTheirCause call
  pub refusals_are_the_verdict : RefusalsAreTheVerdict call
  pub read_faults_have_their_cause : ReadFaultsHaveTheirCause call
  pub nothing_is_refused_without_cause : NothingIsRefusedWithoutCause call
  pub every_limit_is_kept : EveryLimitIsKept call
