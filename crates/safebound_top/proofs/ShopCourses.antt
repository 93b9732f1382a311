-- A command that reads the files of a shop (`demo`) has a course (`CallHistory`).
use Rattle.std.proofs.Common.{◌≡◌, ℕ, List, Option, None, Some, Result, Ok, Err, refl, sym, ◌∙◌, subst, arith}
use Rattle.base_io.specs.Causes.{Rose}
use Rattle.base_io.specs.Files.{Files}
use Rattle.demo_files.specs.Files.{demo_files}
use Rattle.base_io.specs.Devices.{Growth, Reading}
use Rattle.outcomes.specs.Reads.{EndsEarly, Gives, Reads}
use Rattle.outcomes.specs.declared.failure.Failure.{Failure}
use Rattle.outcomes.specs.declared.failure.Failure.TheVariants as failure
use Rattle.outcomes.specs.declared.names.FileId.{FileId}
use Rattle.outcomes.specs.declared.refusal.Refusal.{Refusal}
use Rattle.outcomes.specs.declared.status.Status.{Status}
use Rattle.outcomes.specs.declared.status.Status.TheVariants as status
use Rattle.prepared_runs.specs.RunOutcome.{RunOutcome}
use Rattle.safebound_words.specs.declared.command.Command.{Command}
use Rattle.safebound_top.specs.Call.{Call}
use Rattle.safebound_top.specs.CallHistory.{Asked, CallHistory, RefusedOrRan, StageRan, EndedEarly, StatusReported, Unasked, RanToEnd}
use Rattle.safebound_top.specs.Faults.{status_line, ok_value}
use Rattle.safebound_top.specs.Headline.{DidNotGrow}
use Rattle.prepared_runs.specs.Shops.{demo_number_of, shop_store, store_read}
use Rattle.prepared_runs.specs.Verdict.{IsReadByVerdict, command_stage, schema_read, verdict}
use Rattle.safebound_top.proofs.RunCourses.{memory_told, no_usage}

-- ---- a store that tells the shop's files and counts no fault

module _ (number : ℕ) (store : Reading) (is : store.files ≡ Some (demo_files number))
    (calm : Rose store.faults_before store.faults_after → ⊥) where
  reads_shop : {A : Type 0} (stage : Files → Result A Refusal) (C : Files → FileId → Type 0) (answer : Result A Failure)
      → Reads store stage C answer → Reads (shop_store number) stage C answer
  reads_shop {A} stage C answer h = record {
    gives = gives_over_shop answer h.gives;
    misses = λ files told missed. refl;
    later = omega arith;
    same = refl;
  }
    where
      ends_over_shop : (e : Failure) → EndsEarly store stage C e → EndsEarly (shop_store number) stage C e
      ends_over_shop (failure.Refused r) w = (
        (λ files told. w.0 files (is ∙ told)),
        (λ none. absurd (let no : ◌≡◌ {A = Option Files} (Some (demo_files number)) None = none in cc)),
        w.2,
      )
      ends_over_shop (failure.Fault file) w = absurd (calm w.0)
      ends_over_shop failure.NoMemory w = tt

      gives_over_shop : (answer : Result A Failure) → Gives store stage C answer → Gives (shop_store number) stage C answer
      gives_over_shop (Ok x) w = λ files told. w files (is ∙ told)
      gives_over_shop (Err e) w = ends_over_shop e w

  ran_shop : (s : Status) (out notes : Growth) (stage : Files → Result RunOutcome Refusal) (C : Files → FileId → Type 0) (line : List ℕ)
      → StageRan s store out notes stage C line → StageRan s (shop_store number) out notes stage C line
  ran_shop s out notes stage C line (EndedEarly e ended reads still told) = EndedEarly e ended (reads_shop stage C (Err e) reads) still told
  ran_shop s out notes stage C line (RanToEnd outcome reads written) = RanToEnd outcome (reads_shop stage C (Ok outcome) reads) written

  pub course_shop : (words : List (List ℕ)) (s : Status) (out notes : Growth)
      → CallHistory (record { words = words; status = s; store = store; out = out; notes = notes })
      → CallHistory (record { words = words; status = s; store = shop_store number; out = out; notes = notes })
  course_shop words s out notes h = record {
    line = h.line;
    is_line = λ files told. h.is_line files (is ∙ told);
    memory = h.memory;
    how = by h.how;
  }
    where
      by : RefusedOrRan (record { words = words; status = s; store = store; out = out; notes = notes }) h.line
          → RefusedOrRan (record { words = words; status = s; store = shop_store number; out = out; notes = notes }) h.line
      by (Unasked u) = Unasked (record { status = u.status; words = u.words; misses = refl; out = u.out; told = u.told })
      by (Asked a) = Asked (record { words = a.words; ran = ran_shop s out notes (verdict words) (IsReadByVerdict words) h.line a.ran })

-- ---- there is no memory for the shop's files

pub course_unmade : (ask : Command) (words : List (List ℕ)) → command_stage words ≡ Ok ask → (number : ℕ) (s : Status) (out notes : Growth)
    → s ≡ status.NoMemory → DidNotGrow out → StatusReported notes (status_line s (Some ask) None)
    → CallHistory (record { words = words; status = s; store = shop_store number; out = out; notes = notes })
course_unmade ask words command number s out notes is still told = record {
  line = status_line s (Some ask) None;
  is_line = λ files _.
      memory_told s (Some ask) None is ∙ sym (memory_told s (ok_value (command_stage words)) (ok_value (schema_read words files)) is);
  memory = memory_told s (Some ask) None;
  how = Asked (record {
    words = no_usage ask words command;
    ran = EndedEarly failure.NoMemory is (record { gives = tt; misses = λ files _ missed. refl; later = omega arith; same = refl }) still told;
  });
}

-- ---- the course of a call over a shop's store or over the caller's store, as its words say

abbrev of_words : List (List ℕ) → Status → Reading → Growth → Growth → Option ℕ → Call
of_words words s handed_in out notes shop = record {
  words = words;
  status = s;
  store = store_read shop handed_in;
  out = out;
  notes = notes;
}

pub course_of_words : (words : List (List ℕ)) (s : Status) (handed_in : Reading) (out notes : Growth) (shop : Option ℕ)
    → demo_number_of words ≡ shop → CallHistory (of_words words s handed_in out notes shop)
    → CallHistory (of_words words s handed_in out notes (demo_number_of words))
course_of_words words s handed_in out notes shop is h =
    subst (λ (made : Option ℕ). CallHistory (of_words words s handed_in out notes made)) (sym is) h
