-- Reading a file from a store gives what `read` of the specification gives for the store's files.
use Rattle.std.proofs.Common.{◌≡◌, ℕ, ◌+◌, ◌<◌, ◌≤◌, Bool, true, false, List, length, Option, None, Some, Result, Ok, Err, refl, ap, sym, ◌∙◌, subst, arith}
use Rattle.std.specs.Prelude.{nat_lt, if◌then◌else◌}
use Rattle.std.proofs.lemmas.Bool.Decides.{nat_tests}
use Rattle.base_io.specs.Causes.{Rose}
use Rattle.base_io.specs.Files.{Files, IsAbsent, ReadsFile, file_of, answer_about, answer_of_contents}
use Rattle.base_io.specs.declared.errors.ReadError.TheVariants as error
use Rattle.schema_types.specs.declared.errors.LimitKind.TheVariants as limit
use Rattle.base_io.specs.Devices.{Reading}
use Rattle.outcomes.specs.Reads.{AtFile, Reads}
use Rattle.outcomes.specs.declared.failure.Failure.TheVariants as failure
use Rattle.outcomes.specs.declared.names.FileId.{FileId}
use Rattle.outcomes.specs.declared.refusal.Refusal.{Refusal}
use Rattle.outcomes.specs.declared.refusal.Refusal.TheVariants as refusal
use Rattle.table_files.specs.TableFile.{bytes_of, read}

abbrev bytes_unless : FileId → ℕ → Bool → List ℕ → Result (List ℕ) Refusal
bytes_unless id most test bytes = if test then Err (refusal.Limit limit.FileBytes id (most + 1)) else Ok bytes

above : (most n : ℕ) → most < n → nat_lt most n ≡ true
above most n lt = grind (arith, nat_tests)

within : (most n : ℕ) → n ≤ most → nat_lt most n ≡ false
within most n le = grind (arith, nat_tests)

bytes_of_whole_file : (id : FileId) (most : ℕ) (found : Option (List ℕ)) (bytes : List ℕ) → ReadsFile (answer_of_contents found) most (Ok bytes) → bytes_of id most found ≡ Ok bytes
bytes_of_whole_file id most None bytes h = absurd h.1
bytes_of_whole_file id most (Some all) bytes h =
    ap (λ (b : Bool). bytes_unless id most b all) (within most (length all) (subst (λ (xs : List ℕ). length xs ≤ most) h.1 h.0)) ∙ ap (λ (xs : List ℕ). Ok xs) (sym h.1)

bytes_of_long_file : (id : FileId) (most passed : ℕ) (found : Option (List ℕ)) → ReadsFile (answer_of_contents found) most (Err (error.TooLong passed))
    → bytes_of id most found ≡ Err (refusal.Limit limit.FileBytes id (most + 1))
bytes_of_long_file id most passed None h = absurd h.1
bytes_of_long_file id most passed (Some all) h = ap (λ (b : Bool). bytes_unless id most b all) (above most (length all) h.1)

bytes_of_absent_file : (id : FileId) (most : ℕ) (found : Option (List ℕ)) → IsAbsent (answer_of_contents found) → bytes_of id most found ≡ Err (refusal.Missing id)
bytes_of_absent_file id most None h = refl
bytes_of_absent_file id most (Some all) h = absurd h

module _ (store : Reading) (id : FileId) (most : ℕ) (name : List ℕ) (later : store.faults_before ≤ store.faults_after) (same : store.files_after ≡ store.files) where
  pub load_whole : (bytes : List ℕ) → ReadsFile (answer_about store.files name) most (Ok bytes) → store.misses_after ≡ store.misses_before → Reads store (read id most name) (AtFile id) (Ok bytes)
  load_whole bytes h misses = record {
    gives = λ files told'. bytes_of_whole_file id most (file_of files name) bytes (subst (λ (f : Option Files). ReadsFile (answer_about f name) most (Ok bytes)) told' h);
    misses = λ files told' missed. misses;
    later = later;
    same = same;
  }

  pub load_long : (passed : ℕ) → ReadsFile (answer_about store.files name) most (Err (error.TooLong passed)) → store.misses_after ≡ store.misses_before
      → Reads store (read id most name) (AtFile id) (Err (failure.Refused (refusal.Limit limit.FileBytes id (most + 1))))
  load_long passed h misses = record {
    gives = (
      (λ files told'. bytes_of_long_file id most passed (file_of files name) (subst (λ (f : Option Files). ReadsFile (answer_about f name) most (Err (error.TooLong passed))) told' h)),
      (λ none file e. cc),
      (λ e. cc),
    );
    misses = λ files told' missed. misses;
    later = later;
    same = same;
  }

  pub load_absent : IsAbsent (answer_about store.files name) → Reads store (read id most name) (AtFile id) (Err (failure.Refused (refusal.Missing id)))
  load_absent h = record {
    gives = (gone, (λ none file e. subst (λ (f : Option Files). IsAbsent (answer_about f name)) none h), (λ e. cc));
    misses = λ files told' missed. absurd (missed id (gone files told'));
    later = later;
    same = same;
  }
    where
      gone : (files : Files) → store.files ≡ Some files → read id most name files ≡ Err (refusal.Missing id)
      gone files told' = bytes_of_absent_file id most (file_of files name) (subst (λ (f : Option Files). IsAbsent (answer_about f name)) told' h)

  pub load_fault : Rose store.faults_before store.faults_after → store.misses_after ≡ store.misses_before → Reads store (read id most name) (AtFile id) (Err (failure.Fault id))
  load_fault rose misses = record { gives = (rose, (λ files told'. refl)); misses = λ files told' missed. misses; later = later; same = same }

pub no_memory_reads : {A : Type 0} (store : Reading) (stage : Files → Result A Refusal) (C : Files → FileId → Type 0) → store.misses_after ≡ store.misses_before
    → store.faults_before ≤ store.faults_after → store.files_after ≡ store.files → Reads store stage C (Err failure.NoMemory)
no_memory_reads store stage C misses later same = record { gives = tt; misses = λ files told missed. misses; later = later; same = same }
