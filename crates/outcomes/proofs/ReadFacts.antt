-- If two steps read files one after the other, both together are one step that reads files.
use Rattle.std.proofs.Common.{◌≡◌, Some, Result, Ok, Err, refl, sym, ◌∙◌, subst, arith}
use Rattle.base_io.specs.Files.{Files}
use Rattle.base_io.specs.Devices.{Reading}
use Rattle.base_io.proofs.CountFacts.{later_then_rose}
use Rattle.outcomes.specs.Reads.{◌>>=◌, EndsEarly, Gives, MissesNothing, Reads, StopsBy}
use Rattle.outcomes.specs.declared.failure.Failure.{Failure}
use Rattle.outcomes.specs.declared.failure.Failure.TheVariants as failure
use Rattle.outcomes.specs.declared.names.FileId.{FileId}
use Rattle.outcomes.specs.declared.refusal.Refusal.{Refusal}
use Rattle.outcomes.specs.declared.refusal.Refusal.TheVariants as refusal

abbrev OfFiles : Type 0 → Type 0
OfFiles A = Files → Result A Refusal

abbrev FilesRead : Type 1
FilesRead = Files → FileId → Type 0

abbrev pub joined : Reading → Reading → Reading
joined first second = record {
  files = first.files;
  files_after = second.files_after;
  faults_before = first.faults_before;
  faults_after = second.faults_after;
  misses_before = first.misses_before;
  misses_after = second.misses_after;
}

pub record IsFollowedBy (first second : Reading) : Type 0 where
  pub files : first.files_after ≡ second.files
  pub faults : first.faults_after ≡ second.faults_before
  pub misses : first.misses_after ≡ second.misses_before

at_ok : {A B : Type 0} (r : Result A Refusal) (f : A → Result B Refusal) (x : A) → r ≡ Ok x → (r >>= f) ≡ f x
at_ok r f x e = rw e refl

at_err : {A B : Type 0} (r : Result A Refusal) (f : A → Result B Refusal) (s : Refusal) → r ≡ Err s → (r >>= f) ≡ Err s
at_err r f s e = rw e refl

misses_first : {A B : Type 0} (r : Result A Refusal) (f : A → Result B Refusal) → MissesNothing (r >>= f) → MissesNothing r
misses_first r f h file e = h file (at_err r f (refusal.Missing file) e)

same_misses : {A : Type 0} (r q : Result A Refusal) → r ≡ q → MissesNothing r → MissesNothing q
same_misses r q e h = subst MissesNothing e h

module _ {A B : Type 0} (one : OfFiles A) (two : A → OfFiles B) where
  abbrev pub both : OfFiles B
  both files = one files >>= (λ x. two x files)

  pub then_stops : (store : Reading) (C D : FilesRead) (e : Failure) → ((files : Files) (file : FileId) → C files file → D files file)
      → Reads store one C (Err e) → Reads store both D (Err e)
  then_stops store C D e more h = record {
    gives = ends e h.gives;
    misses = λ files told missed. h.misses files told (misses_first (one files) (λ x. two x files) missed);
    later = h.later;
    same = h.same;
  }
    where
      ends : (e : Failure) → EndsEarly store one C e → EndsEarly store both D e
      ends (failure.Refused r) k = ((λ files told. at_err (one files) (λ x. two x files) r (k.0 files told)), k.1, k.2)
      ends (failure.Fault file) k = (k.0, λ files told. more files file (k.1 files told))
      ends failure.NoMemory k = tt

  pub then_reads : (first second : Reading) (C D E : FilesRead) (x : A) (answer : Result B Failure) → IsFollowedBy first second
      → ((files : Files) (file : FileId) → one files ≡ Ok x → D files file → E files file)
      → Reads first one C (Ok x) → Reads second (two x) D answer → Reads (joined first second) both E answer
  then_reads first second C D E x answer meets more h k = record {
    gives = given answer k.gives;
    misses = λ files told missed.
        let next : MissesNothing (two x files) = same_misses (both files) (two x files) (at_ok (one files) (λ y. two y files) x (h.gives files told)) missed in
        k.misses files (told_again files told) next ∙ sym meets.misses
        ∙ h.misses files told (misses_first (one files) (λ y. two y files) missed);
    later = omega (arith, h.later, k.later, meets.faults);
    same = k.same ∙ sym meets.files ∙ h.same;
  }
    where
      told_again : (files : Files) → first.files ≡ Some files → second.files ≡ Some files
      told_again files told = sym meets.files ∙ h.same ∙ told

      ends : (e : Failure) → EndsEarly second (two x) D e → EndsEarly (joined first second) both E e
      ends (failure.Refused r) w = (
        (λ files told. at_ok (one files) (λ y. two y files) x (h.gives files told) ∙ w.0 files (told_again files told)),
        (λ none. w.1 (sym meets.files ∙ h.same ∙ none)),
        w.2,
      )
      ends (failure.Fault file) w = (
        later_then_rose first.faults_before second.faults_before second.faults_after (omega (arith, h.later, meets.faults)) w.0,
        λ files told. more files file (h.gives files told) (w.1 files (told_again files told)),
      )
      ends failure.NoMemory w = tt

      given : (answer : Result B Failure) → Gives second (two x) D answer → Gives (joined first second) both E answer
      given (Ok y) w = λ files told. at_ok (one files) (λ z. two z files) x (h.gives files told) ∙ w files (told_again files told)
      given (Err e) w = ends e w

-- a second step that reads no file
module _ {A B : Type 0} (store : Reading) (one : OfFiles A) (next : A → Result B Refusal) (C D : FilesRead) (x : A) where
  abbrev after : OfFiles B
  after files = one files >>= next

  pub then_gives : (y : B) → next x ≡ Ok y → Reads store one C (Ok x) → Reads store after D (Ok y)
  then_gives y is h = record {
    gives = λ files told. at_ok (one files) next x (h.gives files told) ∙ is;
    misses = λ files told missed. h.misses files told (misses_first (one files) next missed);
    later = h.later;
    same = h.same;
  }

  pub then_fails : (e : Failure) → StopsBy (next x) e → Reads store one C (Ok x) → Reads store after D (Err e)
  then_fails e tells h = record {
    gives = ends e tells;
    misses = λ files told missed. h.misses files told (misses_first (one files) next missed);
    later = h.later;
    same = h.same;
  }
    where
      ends : (e : Failure) → StopsBy (next x) e → EndsEarly store after D e
      ends (failure.Refused r) w = ((λ files told. at_ok (one files) next x (h.gives files told) ∙ w.0), (λ none. w.1), w.2)
      ends (failure.Fault file) w = absurd w
      ends failure.NoMemory w = tt

pub reads_as : {A : Type 0} (store : Reading) (one two : OfFiles A) (C D : FilesRead) (answer : Result A Failure) → ((files : Files) → two files ≡ one files)
    → ((files : Files) (file : FileId) → C files file → D files file) → Reads store one C answer → Reads store two D answer
reads_as {A} store one two C D answer same more h = record {
  gives = given answer h.gives;
  misses = λ files told missed. h.misses files told (same_misses (two files) (one files) (same files) missed);
  later = h.later;
  same = h.same;
}
  where
    ends : (e : Failure) → EndsEarly store one C e → EndsEarly store two D e
    ends (failure.Refused r) w = ((λ files told. same files ∙ w.0 files told), w.1, w.2)
    ends (failure.Fault file) w = (w.0, λ files told. more files file (w.1 files told))
    ends failure.NoMemory w = tt

    given : (answer : Result A Failure) → Gives store one C answer → Gives store two D answer
    given (Ok y) w = λ files told. same files ∙ w files told
    given (Err e) w = ends e w
