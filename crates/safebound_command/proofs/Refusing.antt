-- No command takes more than 16 words. A call with more words satisfies the headline, if it is refused as Usage, reads no file, and writes only the
-- line of its status.
use Rattle.std.proofs.Common.{◌≡◌, ℕ, ◌<◌, List, [], ◌∷◌, length, None, Some, refl, sym, subst}
use Rattle.base_io.specs.Devices.{Growth}
use Rattle.base_io.specs.Files.{Files}
use Rattle.outcomes.specs.declared.refusal.Refusal.TheVariants as refusal
use Rattle.outcomes.specs.declared.status.Status.{Status}
use Rattle.outcomes.specs.declared.status.Status.TheVariants as status
use Rattle.safebound_words.proofs.WordCounts.{none_if_more_than_16_words}
use Rattle.safebound_top.specs.CallHistory.{StatusReported}
use Rattle.safebound_top.specs.Faults.{status_line}
use Rattle.safebound_top.specs.Headline.{Headline}
use Rattle.safebound_top.proofs.Courses.{headline}
use Rattle.safebound_top.proofs.RunCourses.{course_unasked}
use Rattle.safebound_top.proofs.ShopCourses.{course_of_words}
use Rattle.prepared_runs.proofs.CommandFacts.{no_command, no_shop}
use Rattle.prepared_runs.specs.Shops.{demo_number_of, store_read}
use Rattle.safebound_command.specs.Command.{store_of_files, stream}
use Rattle.safebound_command.proofs.WithoutName.{tells_without_name, with_name, without_name}
use Rattle.safebound_command.proofs.SameRooms.{prefix_keeps_name}

module _ (name : ℕ) (before : List ℕ) (name' : ℕ) (text : List ℕ) (f f' : ℕ) (line : List ℕ) (told : StatusReported (with_name name before (Some (name' ∷ text)) f f') line) where
  pub told_name : name' ≡ name
  told_name = prefix_keeps_name name before (Some (name' ∷ text)) line told.tells.prefix

  told_without_name : StatusReported (without_name before (Some (name' ∷ text)) f f') line
  told_without_name = record { tells = tells_without_name name before (Some (name' ∷ text)) f f' line told.tells; later = told.later }

  pub told_stream : before ≡ [] → f ≡ 0 → StatusReported (stream text f') line
  told_stream b g =
      subst (λ (x : ℕ). StatusReported (without_name [] (Some (name' ∷ text)) x f') line) g
      (subst (λ (x : List ℕ). StatusReported (without_name x (Some (name' ∷ text)) f f') line) b told_without_name)

pub too_many_words_are_refused : (words : List (List ℕ)) (files : Files) (s : Status) (notes : Growth) → 16 < length words → s ≡ status.Refused refusal.Usage → StatusReported notes (status_line s None None)
    → Headline (record { words = words; status = s; store = store_read (demo_number_of words) (store_of_files files files 0 0); out = stream [] 0; notes = notes })
too_many_words_are_refused words files s notes many is told =
    let asked = sym (none_if_more_than_16_words words many) in
    headline _ (course_of_words words s (store_of_files files files 0 0) (stream [] 0) notes None (no_shop words asked)
    (course_unasked (record { words = words; status = s; store = store_of_files files files 0 0; out = stream [] 0; notes = notes }) is (no_command words asked) refl (refl, refl) told))
