-- The files of a store, if it tells them, and the results that a read may have.
use Rattle.std.specs.Prelude.{ℕ, ◌≡◌, ◌+◌, ◌<◌, ◌≤◌, ◌∷◌, [], List, length, take, drop, Option, None, Some, Result, Ok, Err, if◌then◌else◌, ⊤}
use Rattle.std.specs.Str.{bytes_eq}
use Rattle.base_io.specs.declared.errors.StoreError.{StoreError}
use Rattle.base_io.specs.declared.errors.StoreError.TheVariants as store
use Rattle.base_io.specs.declared.errors.ReadError.{ReadError}
use Rattle.base_io.specs.declared.errors.ReadError.TheVariants as read

-- files, each with its name and its bytes. If two files have the same name, the first one is read
abbrev pub Files : Type 0
Files = List (List ℕ × List ℕ)

-- the bytes of the file of this name, if there is one
abbrev pub file_of : Files → List ℕ → Option (List ℕ)
file_of [] name = None
file_of (file ∷ rest) name = if bytes_eq file.0 name then Some file.1 else file_of rest name

-- what a store tells about a name: nothing (Unknown), that it has no file of this name (Absent), or the file's bytes (Present)
pub data FileAnswer : Type 0 where
  Unknown : FileAnswer
  Absent : FileAnswer
  Present : List ℕ → FileAnswer

abbrev pub answer_of_contents : Option (List ℕ) → FileAnswer
answer_of_contents None = Absent
answer_of_contents (Some bytes) = Present bytes

abbrev pub answer_about : Option Files → List ℕ → FileAnswer
answer_about None name = Unknown
answer_about (Some files) name = answer_of_contents (file_of files name)

-- the buffer `into` begins with `count` bytes of a file, from `offset` on. `count` is 0 exactly if `offset` is the file's end or past it
pub record Fills (bytes : List ℕ) (offset count : ℕ) (into : List ℕ) : Type 0 where
  pub same : take count into ≡ take count (drop offset bytes)
  pub within : 0 < count → offset + count ≤ length bytes
  pub end : count ≡ 0 → length bytes ≤ offset

-- whether a read may return Ok with `count` bytes in the buffer `into`. A read of an absent file never returns Ok
abbrev pub MayHaveRead : FileAnswer → ℕ → ℕ → List ℕ → Type 0
MayHaveRead Unknown offset count into = ⊤
MayHaveRead Absent offset count into = ⊥
MayHaveRead (Present bytes) offset count into = Fills bytes offset count into

-- the store tells its files, and the name is not among them
abbrev pub IsAbsent : FileAnswer → Type 0
IsAbsent Unknown = ⊥
IsAbsent Absent = ⊤
IsAbsent (Present bytes) = ⊥

-- what a read at an offset returns, and what it leaves in the buffer
abbrev pub ReadsAt : FileAnswer → ℕ → Result ℕ StoreError → List ℕ → Type 0
ReadsAt file offset (Ok count) into = (count ≤ length into) × MayHaveRead file offset count into
ReadsAt file offset (Err store.Missing) into = IsAbsent file
ReadsAt file offset (Err store.Failed) into = ⊤

-- as far as the store tells, these are all bytes of the file
abbrev pub AreAllBytes : FileAnswer → List ℕ → Type 0
AreAllBytes Unknown bytes = ⊤
AreAllBytes Absent bytes = ⊥
AreAllBytes (Present all) bytes = bytes ≡ all

-- as far as the store tells, the file has more than `limit` bytes
abbrev pub ExceedsLimit : FileAnswer → ℕ → Type 0
ExceedsLimit Unknown limit = ⊤
ExceedsLimit Absent limit = ⊥
ExceedsLimit (Present all) limit = limit < length all

-- what reading a file to its end returns. Any read may end with a fault, or because there is too little memory
abbrev pub ReadsFile : FileAnswer → ℕ → Result (List ℕ) ReadError → Type 0
ReadsFile file limit (Ok bytes) = (length bytes ≤ limit) × AreAllBytes file bytes
ReadsFile file limit (Err read.Missing) = IsAbsent file
ReadsFile file limit (Err read.Fault) = ⊤
ReadsFile file limit (Err (read.TooLong most)) = (most ≡ limit) × ExceedsLimit file limit
ReadsFile file limit (Err read.NoMemory) = ⊤

-- as far as the store tells, these are the first bytes of the file. An absent file has no bytes
abbrev pub AreFirstBytes : FileAnswer → List ℕ → Type 0
AreFirstBytes Unknown bytes = ⊤
AreFirstBytes Absent bytes = bytes ≡ []
AreFirstBytes (Present all) bytes = bytes ≡ take (length bytes) all
