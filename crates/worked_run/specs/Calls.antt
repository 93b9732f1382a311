-- How calls end over given files.
use Rattle.std.specs.Prelude.{ℕ, ◌≡◌, ◌⊎◌, List, Option, Some}
use Rattle.base_io.specs.Causes.{Rose}
use Rattle.base_io.specs.Files.{Files}
use Rattle.outcomes.specs.declared.status.Status.{Status}
use Rattle.outcomes.specs.declared.status.Status.TheVariants as status
use Rattle.safebound_top.specs.Call.{Call}
use Rattle.safebound_top.specs.Headline.{FaultsRose, GrewWhole, Headline}

-- no device of the call (store, `out` or `notes`) failed
pub record IsFaultless (call : Call) : Type 0 where
  pub store : Rose call.store.faults_before call.store.faults_after → ⊥
  pub out : FaultsRose call.out → ⊥
  pub notes : FaultsRose call.notes → ⊥

-- The call has status `s`. Its notes grew by exactly `note_text`, and its `out` by exactly `out_text`; a stream without a text took nothing
pub record Ended (call : Call) (s : Status) (note_text out_text : Option (List ℕ)) : Type 0 where
  pub status : call.status ≡ s
  pub notes : GrewWhole call.notes note_text
  pub out : GrewWhole call.out out_text

-- Take any call with these words, over a store that tells these files. If the headline theorem holds for the call and no device failed, the call
-- ends with this status and these texts, or memory ran out
abbrev pub EachCallEnds : Files → List (List ℕ) → Status → Option (List ℕ) → Option (List ℕ) → Type 0
EachCallEnds files words s note_text out_text = (call : Call) → Headline call → call.words ≡ words → call.store.files ≡ Some files
    → IsFaultless call → Ended call s note_text out_text ⊎ (call.status ≡ status.NoMemory)
