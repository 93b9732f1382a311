-- However a call ends, each stream's text still begins with the number that names its room.
use Rattle.std.proofs.Common.{◌≡◌, ℕ, List, [], ◌∷◌, ◌++◌, Option, None, Some, Result, Ok, Err, refl, ap, subst, ◌∙◌}
use Rattle.std.specs.Prelude.{IsOkAnd, codes}
use Rattle.base_io.specs.Devices.{Reading}
use Rattle.base_io.specs.Files.{Files}
use Rattle.base_io.specs.Sinks.{GrewByPrefix, appended}
use Rattle.outcomes.specs.declared.names.SinkId.TheVariants as sink
use Rattle.outcomes.specs.declared.status.Status.{Status}
use Rattle.outcomes.specs.declared.status.Status.TheVariants as status
use Rattle.safebound_top.specs.Call.{Call, CutThenTold, GrewOrWasCut}
use Rattle.safebound_top.specs.Faults.{fault_text}
use Rattle.safebound_top.specs.Headline.{DidNotGrow, GrewWhole, Headline, TookPrefix, TookPrefixThenLine, grown}
use Rattle.prepared_runs.specs.RunOutcome.{RunOutcome}
use Rattle.safebound_top.specs.OutcomeTexts.{notes_text as notes_of, out_text as out_of}
use Rattle.prepared_runs.specs.Shops.{store_read}
use Rattle.prepared_runs.specs.Verdict.{verdict}
use Rattle.demo_files.specs.Files.{demo_files}
use Rattle.safebound_command.proofs.WithoutName.{LeftByCutNotes, LeftByCutOut, LeftByDone, headline_without_name, call_with_name, with_name, without_name}

abbrev pub name_in : Option (List ℕ) → ℕ
name_in None = 0
name_in (Some []) = 0
name_in (Some (name ∷ text)) = name

pub prefix_keeps_name : (name : ℕ) (before : List ℕ) (after : Option (List ℕ)) (text : List ℕ) → GrewByPrefix (Some (name ∷ before)) after text → name_in after ≡ name
prefix_keeps_name name before after text h = ap name_in h.grew

cut_keeps_name : (name : ℕ) (before : List ℕ) (after : Option (List ℕ)) (text line : List ℕ)
    → CutThenTold (Some (name ∷ before)) after text line → name_in after ≡ name
cut_keeps_name name before after text line h = ap name_in (h.told.grew ∙ ap (λ mid. appended mid h.told.front) h.cut.grew)

whole_keeps_name : (name : ℕ) (before : List ℕ) (after : Option (List ℕ)) (f f' : ℕ) (text : Option (List ℕ))
    → GrewWhole (with_name name before after f f') text → name_in after ≡ name
whole_keeps_name name before after f f' None h = ap name_in h.0
whole_keeps_name name before after f f' (Some text) h = ap name_in h

was_cut_keeps_name : (name : ℕ) (before : List ℕ) (after : Option (List ℕ)) (f f' : ℕ) (text : Option (List ℕ))
    → TookPrefix (with_name name before after f f') text → name_in after ≡ name
was_cut_keeps_name name before after f f' None h = absurd h
was_cut_keeps_name name before after f f' (Some text) h = prefix_keeps_name name before after text h

was_cut_and_told_keeps_name : (name : ℕ) (before : List ℕ) (after : Option (List ℕ)) (f f' : ℕ) (text : Option (List ℕ)) (line : List ℕ)
    → TookPrefixThenLine (with_name name before after f f') text line → name_in after ≡ name
was_cut_and_told_keeps_name name before after f f' None line h = absurd h
was_cut_and_told_keeps_name name before after f f' (Some text) line h = cut_keeps_name name before after text line h

told_after_keeps_name : (name : ℕ) (before : List ℕ) (after : Option (List ℕ)) (f f' : ℕ) (text : Option (List ℕ)) (line : List ℕ)
    → GrewOrWasCut (grown (Some (name ∷ before)) text) after f f' line → name_in after ≡ name
told_after_keeps_name name before after f f' None line h = prefix_keeps_name name before after line h.prefix
told_after_keeps_name name before after f f' (Some text) line h = prefix_keeps_name name (before ++ text) after line h.prefix

from_ok : {A E : Type 0} (P : A → Type 0) (Q : Type 0) (r : Result A E) → ((x : A) → P x → Q) → IsOkAnd r P → Q
from_ok P Q (Ok x) so h = so x h
from_ok P Q (Err e) so h = absurd h

module _ (words : List (List ℕ)) (store : Reading) (files : Files) (tells : store.files ≡ Some files)
    (out_name : ℕ) (out_before : List ℕ) (out_after : Option (List ℕ)) (o o' : ℕ)
    (notes_name : ℕ) (notes_before : List ℕ) (notes_after : Option (List ℕ)) (n n' : ℕ) where
  abbrev call_with : Status → Call
  call_with s = call_with_name words s store out_name out_before out_after o o' notes_name notes_before notes_after n n'

  abbrev NamesAreSame : Type 0
  NamesAreSame = (name_in out_after ≡ out_name) × (name_in notes_after ≡ notes_name)

  told_name : (line : List ℕ) → GrewOrWasCut (Some (notes_name ∷ notes_before)) notes_after n n' line → name_in notes_after ≡ notes_name
  told_name line h = prefix_keeps_name notes_name notes_before notes_after line h.prefix

  out_name_kept : DidNotGrow (with_name out_name out_before out_after o o') → name_in out_after ≡ out_name
  out_name_kept h = ap name_in h.0

  done_names : (s : Status) (outcome : RunOutcome) → LeftByDone (call_with s).out (call_with s).notes outcome → NamesAreSame
  done_names s outcome h = (
    whole_keeps_name out_name out_before out_after o o' (out_of outcome) h.1,
    whole_keeps_name notes_name notes_before notes_after n n' (notes_of outcome) h.0,
  )

  cut_notes_names : (s : Status) (line : List ℕ) (outcome : RunOutcome) → LeftByCutNotes (call_with s).notes line outcome → name_in notes_after ≡ notes_name
  cut_notes_names s line outcome h = was_cut_and_told_keeps_name notes_name notes_before notes_after n n' (notes_of outcome) line h

  cut_out_names : (s : Status) (line : List ℕ) (outcome : RunOutcome) → LeftByCutOut (call_with s).out (call_with s).notes line outcome → NamesAreSame
  cut_out_names s line outcome h = (
    was_cut_keeps_name out_name out_before out_after o o' (out_of outcome) h.0,
    told_after_keeps_name notes_name notes_before notes_after n n' (notes_of outcome) line h.1,
  )

  pub same_names : (s : Status) → Headline (call_with s) → NamesAreSame
  same_names status.Done h =
      from_ok (LeftByDone (call_with status.Done).out (call_with status.Done).notes) NamesAreSame (verdict words files) (done_names status.Done)
      (h.done_is_exact refl files tells)
  same_names (status.Refused r) h = (
    out_name_kept (h.refusals_are_the_verdict.told r refl).0,
    told_name (fault_text (status.Refused r) words files) ((h.refusals_are_the_verdict.told r refl).1 files tells).1,
  )
  same_names (status.ReadFault file) h = (
    out_name_kept (h.read_faults_have_their_cause.told file refl).1,
    told_name (fault_text (status.ReadFault file) words files) ((h.read_faults_have_their_cause.told file refl).2 files tells).1,
  )
  same_names (status.WriteFault sink.Out) h =
      from_ok (LeftByCutOut (call_with (status.WriteFault sink.Out)).out (call_with (status.WriteFault sink.Out)).notes (fault_text (status.WriteFault sink.Out) words files))
      NamesAreSame (verdict words files) (cut_out_names (status.WriteFault sink.Out) (fault_text (status.WriteFault sink.Out) words files))
      ((h.write_faults_have_their_cause.of_out refl).1 files tells)
  same_names (status.WriteFault sink.Notes) h = (
    out_name_kept (h.write_faults_have_their_cause.of_notes refl).1,
    from_ok (LeftByCutNotes (call_with (status.WriteFault sink.Notes)).notes (fault_text (status.WriteFault sink.Notes) words files))
        (name_in notes_after ≡ notes_name) (verdict words files) (cut_notes_names (status.WriteFault sink.Notes) (fault_text (status.WriteFault sink.Notes) words files))
        ((h.write_faults_have_their_cause.of_notes refl).2 files tells),
  )
  same_names status.NoMemory h =
      (out_name_kept (h.want_of_memory_leaves_its_line refl).1, told_name (codes "error memory\n") (h.want_of_memory_leaves_its_line refl).0)

pub files_told : (shop : Option ℕ) (store : Reading) (files : Files) → store.files ≡ Some files → (told : Files) × ((store_read shop store).files ≡ Some told)
files_told None store files is = (files, is)
files_told (Some number) store files is = (demo_files number, refl)

-- ---- the names of rooms stay the same, and the headline holds for streams that were empty at first

module _ (words : List (List ℕ)) (status : Status) (shop : Option ℕ) (store : Reading)
    (out_name : ℕ) (out_before : List ℕ) (out_name' : ℕ) (out_text : List ℕ) (o o' : ℕ)
    (notes_name : ℕ) (notes_before : List ℕ) (notes_name' : ℕ) (notes_text : List ℕ) (n n' : ℕ) where
  abbrev pub told_call : Call
  told_call = call_with_name words status (store_read shop store) out_name out_before (Some (out_name' ∷ out_text)) o o'
      notes_name notes_before (Some (notes_name' ∷ notes_text)) n n'

  pub same_rooms : (files : Files) → store.files ≡ Some files → Headline told_call → (out_name' ≡ out_name) × (notes_name' ≡ notes_name)
  same_rooms files is h =
      let told = files_told shop store files is in
      same_names words (store_read shop store) told.0 told.1 out_name out_before (Some (out_name' ∷ out_text)) o o'
      notes_name notes_before (Some (notes_name' ∷ notes_text)) n n' status h

  abbrev call_without_names : List ℕ → ℕ → List ℕ → ℕ → Call
  call_without_names b f d g = record {
    words = words;
    status = status;
    store = store_read shop store;
    out = without_name b (Some (out_name' ∷ out_text)) f o';
    notes = without_name d (Some (notes_name' ∷ notes_text)) g n';
  }

  pub begun_empty : out_before ≡ [] → o ≡ 0 → notes_before ≡ [] → n ≡ 0 → Headline told_call → Headline (call_without_names [] 0 [] 0)
  begun_empty b f d g h =
      let whole : Headline (call_without_names out_before o notes_before n)
      = headline_without_name words status (store_read shop store) out_name out_before (Some (out_name' ∷ out_text)) o o'
      notes_name notes_before (Some (notes_name' ∷ notes_text)) n n' h in
      subst (λ (x : ℕ). Headline (call_without_names [] 0 [] x)) g
      (subst (λ (x : List ℕ). Headline (call_without_names [] 0 x n)) d
      (subst (λ (x : ℕ). Headline (call_without_names [] x notes_before n)) f
      (subst (λ (x : List ℕ). Headline (call_without_names x o notes_before n)) b whole)))
