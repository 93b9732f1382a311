-- How a call of `safebound_command` ends: the program is run over files in memory, or the words are refused.
use Rattle.std.specs.Prelude.{ℕ, ◌≡◌, ◌⊎◌, ◌<◌, ◌≤◌, List, [], length, take, Some}
use Rattle.std.specs.List.{Any}
use Rattle.std.specs.Str.{IsUtf8}
use Rattle.base_io.specs.Devices.{Growth, Reading}
use Rattle.base_io.specs.Files.{Files}
use Rattle.outcomes.specs.Statuses.{code_of}
use Rattle.outcomes.specs.declared.status.Status.{Status}
use Rattle.safebound_top.specs.Headline.{Headline}
use Rattle.prepared_runs.specs.Shops.{demo_number_of, store_read}

-- a store whose files are known, and in which no read fails
abbrev pub store_of_files : Files → Files → ℕ → ℕ → Reading
store_of_files files after misses_before misses_after = record {
  files = Some files;
  files_after = Some after;
  faults_before = 0;
  faults_after = 0;
  misses_before = misses_before;
  misses_after = misses_after;
}

-- a stream that was empty at first and has taken `text`; `faults` of its writes failed
abbrev pub stream : List ℕ → ℕ → Growth
stream text faults = record {
  taken_before = Some [];
  taken_after = Some text;
  faults_before = 0;
  faults_after = faults;
}

-- a buffer of the caller (its room) after a call, and how many bytes were written at its front
pub record WrittenRoom : Type 0 where
  pub room : List ℕ
  pub count : ℕ

abbrev pub written_room : List ℕ → ℕ → WrittenRoom
written_room room count = record { room = room; count = count }

abbrev pub text_of : WrittenRoom → List ℕ
text_of w = take w.count w.room

-- the text fits into the room. If a write failed, the text fills the room
pub record TextIsWithin (w : WrittenRoom) (faults : ℕ) : Type 0 where
  pub within : w.count ≤ length w.room
  pub full : 0 < faults → w.count ≡ length w.room

-- The program was run. The code is its exit status, and both texts are in their rooms. The headline holds for the run, with a store that has
-- exactly these files and whose reads never fail. `misses` is how often the run asked the store for a file that it doesn't have.
pub record ProgramRan (words : List (List ℕ)) (files : Files) (out notes : WrittenRoom) (misses code : ℕ) : Type 0 where
  pub status : Status
  pub code_is : code ≡ code_of status
  pub files_after : Files
  pub out_faults : ℕ
  pub notes_faults : ℕ
  pub out_within : TextIsWithin out out_faults
  pub notes_within : TextIsWithin notes notes_faults
  pub headline : Headline (record {
    words = words;
    status = status;
    store = store_read (demo_number_of words) (store_of_files files files_after 0 misses);
    out = stream (text_of out) out_faults;
    notes = stream (text_of notes) notes_faults;
  })

-- The program was not run, since a word isn't UTF-8. The code is 15, and nothing was written.
pub record HasBadWord (words : List (List ℕ)) (out notes : WrittenRoom) (code : ℕ) : Type 0 where
  pub code_is : code ≡ 15
  pub word : Any (λ word. ¬ (IsUtf8 word)) words
  pub no_out : out.count ≡ 0
  pub no_notes : notes.count ≡ 0

-- The program was run, or a word isn't UTF-8. There is no third end: the words are copied without allocating memory. If the run ran out of memory,
-- its exit status says so.
abbrev pub CallEnds : List (List ℕ) → Files → WrittenRoom → WrittenRoom → ℕ → Type 0
CallEnds words files out notes code = ((misses : ℕ) × ProgramRan words files out notes misses code) ⊎ HasBadWord words out notes code
