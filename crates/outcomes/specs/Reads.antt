-- The result of a step that reads from a store. `stage` is the definition of the step: for the files of the store it gives a value or a refusal.
use Rattle.std.specs.Prelude.{◌≡◌, ◌≢◌, ◌≤◌, None, Some, Result, Ok, Err, ⊤}
use Rattle.base_io.specs.Causes.{Rose}
use Rattle.base_io.specs.Files.{Files}
use Rattle.base_io.specs.Devices.{Reading}
use Rattle.outcomes.specs.declared.failure.Failure.{Failure}
use Rattle.outcomes.specs.declared.failure.Failure.TheVariants as failure
use Rattle.outcomes.specs.declared.names.FileId.{FileId}
use Rattle.outcomes.specs.declared.refusal.Refusal.{Refusal}
use Rattle.outcomes.specs.declared.refusal.Refusal.TheVariants as refusal

-- two stages in turn: the second stage gets the first stage's value, and a refusal of the first stage is the result
infixl 10 ◌>>=◌
abbrev pub ◌>>=◌ : {A B : Type 0} → Result A Refusal → (A → Result B Refusal) → Result B Refusal
(Ok x) >>= f = f x
(Err r) >>= f = Err r

-- a reader's result, with its error turned into a refusal
abbrev pub with_refusal : {A E : Type 0} → (E → Refusal) → Result A E → Result A Refusal
with_refusal refusal_of (Ok x) = Ok x
with_refusal refusal_of (Err e) = Err (refusal_of e)

-- a result with the function `view` applied to its value
abbrev pub mapped : {A B E : Type 0} → (A → B) → Result A E → Result B E
mapped view (Ok x) = Ok (view x)
mapped view (Err e) = Err e

-- the stage doesn't refuse because a file is absent
abbrev pub MissesNothing : {A : Type 0} → Result A Refusal → Type 0
MissesNothing stage = (file : FileId) → stage ≢ Err (refusal.Missing file)

-- the refusal isn't about an absent file
abbrev pub IsNotMissing : Refusal → Type 0
IsNotMissing r = (file : FileId) → r ≢ refusal.Missing file

-- why a step that reads no file ended: memory ran out, or the stage refuses. This refusal isn't about the words or an absent file
abbrev pub StopsBy : {A : Type 0} → Result A Refusal → Failure → Type 0
StopsBy stage (failure.Refused r) = (stage ≡ Err r) × IsNotMissing r × (r ≢ refusal.Usage)
StopsBy stage (failure.Fault file) = ⊥
StopsBy stage failure.NoMemory = ⊤

-- `other` is `file`, the only file that the step reads
abbrev pub AtFile : FileId → Files → FileId → Type 0
AtFile file files other = other ≡ file

-- Why a reading ended.
-- - Refused: the stage refuses, and not because of the words. If the store doesn't tell its files, no absent file is the reason either.
-- - Fault: a read of a file that the stage reads has failed, and the store has counted a fault.
-- - NoMemory: memory ran out.
abbrev pub EndsEarly : {A : Type 0} → Reading → (Files → Result A Refusal) → (Files → FileId → Type 0) → Failure → Type 0
EndsEarly store stage ReadsFile (failure.Refused r) =
    ((files : Files) → store.files ≡ Some files → stage files ≡ Err r) × (store.files ≡ None → IsNotMissing r) × (r ≢ refusal.Usage)
EndsEarly store stage ReadsFile (failure.Fault file) =
    Rose store.faults_before store.faults_after × ((files : Files) → store.files ≡ Some files → ReadsFile files file)
EndsEarly store stage ReadsFile failure.NoMemory = ⊤

-- if the store tells its files, a value is the one that the stage gives for these files. An error is as `EndsEarly` says
abbrev pub Gives : {A : Type 0} → Reading → (Files → Result A Refusal) → (Files → FileId → Type 0) → Result A Failure → Type 0
Gives store stage ReadsFile (Ok x) = (files : Files) → store.files ≡ Some files → stage files ≡ Ok x
Gives store stage ReadsFile (Err e) = EndsEarly store stage ReadsFile e

-- All that a reading step promises. Its result is as `Gives` says, the count of faults doesn't drop, and the files stay the same. If the stage
-- finds no file absent, the count of absent files stays the same too.
pub record Reads {A : Type 0} (store : Reading) (stage : Files → Result A Refusal) (ReadsFile : Files → FileId → Type 0)
    (answer : Result A Failure) : Type 0 where
  pub gives : Gives store stage ReadsFile answer
  pub misses : (files : Files) → store.files ≡ Some files → MissesNothing (stage files) → store.misses_after ≡ store.misses_before
  pub later : store.faults_before ≤ store.faults_after
  pub same : store.files_after ≡ store.files
