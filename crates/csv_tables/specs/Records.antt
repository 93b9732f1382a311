-- The records of a file's bytes, and the records that a reader hasn't given yet.
use Rattle.std.specs.Prelude.{ℕ, ◌≡◌, ◌≤◌, ◌+◌, false, List, [], length, Option, None, Some, IsUtf8}
use Rattle.std.proofs.Common.{Bor}
use Rattle.limits.specs.Profile.{most_file}
use Rattle.csv.specs.Machine.{ends_at_end}
use Rattle.csv.specs.Reading.{default_config, records, records_from, reader_config, reader_state, reader_trim, source_of, Ready}
use Rattle.csv.specs.declared.parser.State.{State}
use Rattle.csv.specs.declared.reader.Reader.{Reader}
use Rattle.csv.specs.declared.reader.Trim.TheVariants as trim

-- a record: the bytes of each of its fields
abbrev pub Record : Type 0
Record = List (List ℕ)

-- the records of bytes, by the definition `records` in the specs of the kit's crate csv. Commas separate fields. CR, LF, or both end a record, and so
-- does the end of the bytes. An empty line is no record. A double quote counts only at the front of a field. Up to the closing quote, commas and line
-- ends belong to the field, and two quotes in a row mean one quote. The bytes between the closing quote and the next comma belong to the field too. A
-- field whose quote is never closed goes on to the end of the bytes
abbrev pub records_of : List ℕ → List Record
records_of bytes = records default_config bytes

-- a reader of bytes in memory
abbrev pub MemoryReader : Type 0
MemoryReader = Reader (Bor (List ℕ))

-- the bytes that a reader hasn't read yet, if it has not failed
abbrev pub unread : MemoryReader → Option (List ℕ)
unread reader = source_of (λ bytes. Some bytes.now) reader

abbrev pub records_in : State → Option (List ℕ) → List Record
records_in state None = []
records_in state (Some bytes) = records_from default_config (length bytes + 1) state bytes

-- the records that a reader hasn't given yet
abbrev pub unread_records : MemoryReader → List Record
unread_records reader = records_in (reader_state reader) (unread reader)

-- the reader is between two records, has at most 64 MiB of text left, and gives each field untrimmed
pub record IsReading (reader : MemoryReader) : Type 0 where
  pub config : reader_config reader ≡ default_config
  pub trim : reader_trim reader ≡ trim.None
  pub ready : Ready reader
  pub bytes : List ℕ
  pub known : unread reader ≡ Some bytes
  pub text : IsUtf8 bytes
  pub few : length bytes ≤ most_file
  pub between : ends_at_end (reader_state reader) ≡ false
