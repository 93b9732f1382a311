-- The course of a call, from its words to its status and its texts.
use Rattle.std.specs.Prelude.{ℕ, ◌≡◌, ◌≤◌, List, codes, Option, None, Some, Result, Ok, Err}
use Rattle.base_io.specs.Files.{Files}
use Rattle.base_io.specs.declared.errors.Failed.{Failed}
use Rattle.base_io.specs.Devices.{Growth, Reading}
use Rattle.outcomes.specs.Reads.{Reads}
use Rattle.outcomes.specs.Statuses.{status_of_failure}
use Rattle.base_io.specs.Writes.{Wrote}
use Rattle.outcomes.specs.declared.failure.Failure.{Failure}
use Rattle.outcomes.specs.declared.names.FileId.{FileId}
use Rattle.outcomes.specs.declared.names.SinkId.{SinkId}
use Rattle.outcomes.specs.declared.names.SinkId.TheVariants as sink
use Rattle.outcomes.specs.declared.refusal.Refusal.{Refusal}
use Rattle.outcomes.specs.declared.refusal.Refusal.TheVariants as refusal
use Rattle.outcomes.specs.declared.status.Status.{Status}
use Rattle.outcomes.specs.declared.status.Status.TheVariants as status
use Rattle.safebound_top.specs.Call.{Call, GrewOrWasCut}
use Rattle.safebound_top.specs.Faults.{fault_text}
use Rattle.safebound_top.specs.Headline.{DidNotGrow, FaultsRose, GrewByLine, GrewWhole, TookPrefix, TookPrefixThenLine, grown}
use Rattle.prepared_runs.specs.RunOutcome.{RunOutcome}
use Rattle.safebound_top.specs.OutcomeTexts.{notes_text, out_text}
use Rattle.prepared_runs.specs.Verdict.{IsReadByVerdict, command_stage, verdict}

-- a line was written to the notes, to its end or up to a failed write
pub record StatusReported (notes : Growth) (line : List ℕ) : Type 0 where
  pub tells : GrewByLine notes line
  pub later : notes.faults_before ≤ notes.faults_after

-- first the outcome's text for notes was written, and then its text for out. An outcome may lack either text. After a failed write nothing more was
-- written
abbrev pub AreWritten : Growth → Growth → RunOutcome → Result (Unit {0}) SinkId → Type 0
AreWritten out notes outcome (Ok u) = GrewWhole notes (notes_text outcome) × GrewWhole out (out_text outcome)
AreWritten out notes outcome (Err sink.Notes) = FaultsRose notes × DidNotGrow out × TookPrefix notes (notes_text outcome)
AreWritten out notes outcome (Err sink.Out) = FaultsRose out × GrewWhole notes (notes_text outcome) × TookPrefix out (out_text outcome)

pub record TextsWritten (out notes : Growth) (outcome : RunOutcome) (result : Result (Unit {0}) SinkId) : Type 0 where
  pub texts : AreWritten out notes outcome result
  pub later_out : out.faults_before ≤ out.faults_after
  pub later_notes : notes.faults_before ≤ notes.faults_after

-- a text was written to a sink, if there is a text
abbrev pub WroteIfAny : Growth → Option (List ℕ) → Result (Unit {0}) Failed → Type 0
WroteIfAny out None result = DidNotGrow out × (result ≡ Ok tt)
WroteIfAny out (Some text) result = Wrote out text result

-- the texts of an outcome were written, or a write failed and a line in the notes reports it
pub data TextsEnded (s : Status) (out notes : Growth) (outcome : RunOutcome) (line : List ℕ) : Type 0 where
  Done : s ≡ status.Done → GrewWhole notes (notes_text outcome) → GrewWhole out (out_text outcome) → TextsEnded s out notes outcome line
  CutInNotes : s ≡ status.WriteFault sink.Notes → FaultsRose notes → DidNotGrow out
      → TookPrefixThenLine notes (notes_text outcome) line → TextsEnded s out notes outcome line
  CutInOut : s ≡ status.WriteFault sink.Out → FaultsRose out → TookPrefix out (out_text outcome)
      → GrewOrWasCut (grown notes.taken_before (notes_text outcome)) notes.taken_after notes.faults_before notes.faults_after line
      → TextsEnded s out notes outcome line

-- a stage was read to its end and its texts were written, or its reading ended early and a line in the notes says why
pub data StageRan (s : Status) (store : Reading) (out notes : Growth) (stage : Files → Result RunOutcome Refusal) (ReadsFile : Files → FileId
    → Type 0)
    (line : List ℕ) : Type 0 where
  EndedEarly : (e : Failure) → s ≡ status_of_failure e → Reads store stage ReadsFile (Err e) → DidNotGrow out → StatusReported notes line
      → StageRan s store out notes stage ReadsFile line
  RanToEnd : (outcome : RunOutcome) → Reads store stage ReadsFile (Ok outcome) → TextsEnded s out notes outcome line
      → StageRan s store out notes stage ReadsFile line

-- the words are refused: the store's count of missing files didn't rise, out didn't grow, and a line in the notes reports the refusal
pub record WordsRefused (call : Call) (line : List ℕ) : Type 0 where
  pub status : call.status ≡ status.Refused refusal.Usage
  pub words : command_stage call.words ≡ Err refusal.Usage
  pub misses : call.store.misses_after ≡ call.store.misses_before
  pub out : DidNotGrow call.out
  pub told : StatusReported call.notes line

-- the words are a command, and the command ran
pub record CommandRan (call : Call) (line : List ℕ) : Type 0 where
  pub words : command_stage call.words ≡ Err refusal.Usage → ⊥
  pub ran : StageRan call.status call.store call.out call.notes (verdict call.words) (IsReadByVerdict call.words) line

pub data RefusedOrRan (call : Call) (line : List ℕ) : Type 0 where
  Unasked : WordsRefused call line → RefusedOrRan call line
  Asked : CommandRan call line → RefusedOrRan call line

-- the whole course of a call. Its line is the fault text of its status
pub record CallHistory (call : Call) : Type 0 where
  pub line : List ℕ
  pub is_line : (files : Files) → call.store.files ≡ Some files → line ≡ fault_text call.status call.words files
  pub memory : call.status ≡ status.NoMemory → line ≡ codes "error memory\n"
  pub how : RefusedOrRan call line
