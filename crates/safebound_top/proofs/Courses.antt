-- If `CallHistory` holds for a call, each sentence of the headline holds for it.
use Rattle.std.proofs.Common.{◌≡◌, ◌⊎◌, ℕ, inl, inr, List, Some, Result, Ok, Err, refl, ap, sym, ◌∙◌, subst}
use Rattle.std.specs.Prelude.{IsOkAnd, codes}
use Rattle.base_io.specs.Causes.{Rose}
use Rattle.base_io.specs.Files.{Files}
use Rattle.outcomes.specs.Reads.{EndsEarly, Reads}
use Rattle.outcomes.specs.Statuses.{status_of_failure}
use Rattle.outcomes.specs.declared.failure.Failure.{Failure}
use Rattle.outcomes.specs.declared.failure.Failure.TheVariants as failure
use Rattle.outcomes.specs.declared.names.FileId.{FileId}
use Rattle.outcomes.specs.declared.names.SinkId.{SinkId}
use Rattle.outcomes.specs.declared.names.SinkId.TheVariants as sink
use Rattle.outcomes.specs.declared.refusal.Refusal.{Refusal}
use Rattle.outcomes.specs.declared.refusal.Refusal.TheVariants as refusal
use Rattle.outcomes.specs.declared.status.Status.TheVariants as status
use Rattle.outcomes.proofs.StatusFacts.{ended_fault, ended_without_write_fault, ended_not_done, ended_refused}
use Rattle.safebound_top.specs.Call.{Call, GrewOrWasCut}
use Rattle.safebound_top.specs.CallHistory.{CallHistory, TextsEnded, Done, CutInNotes, CutInOut, RefusedOrRan, Unasked, Asked, StageRan, EndedEarly, RanToEnd, StatusReported}
use Rattle.safebound_top.specs.Faults.{fault_text}
use Rattle.safebound_top.specs.Headline as say
use Rattle.prepared_runs.specs.RunOutcome.{RunOutcome}
use Rattle.safebound_top.specs.OutcomeTexts.{notes_text, out_text}
use Rattle.prepared_runs.specs.Verdict.{IsReadByVerdict, command_stage, verdict}
use Rattle.prepared_runs.proofs.Runs.{bounds_hold, limits_hold, rows_are_the_answer}

unasked_verdict : (words : List (List ℕ)) (files : Files) → command_stage words ≡ Err refusal.Usage → verdict words files ≡ Err refusal.Usage
unfolding verdict
unasked_verdict words files is = rw is refl

unasked_is : (r : Refusal) → status.Refused refusal.Usage ≡ status.Refused r → r ≡ refusal.Usage
unasked_is r is = cc

module _ (call : Call) (course : CallHistory call) where
  line_told : StatusReported call.notes course.line → (files : Files) → call.store.files ≡ Some files → say.GrewByLine call.notes (fault_text call.status call.words files)
  line_told told files is = subst (say.GrewByLine call.notes) (course.is_line files is) told.tells

  -- this part is about a call whose reading ended early, with the failure `e`
  module _ (e : Failure) (status_is : call.status ≡ status_of_failure e) (reads : Reads call.store (verdict call.words) (IsReadByVerdict call.words) (Err e)) where
    ends_as : (f : Failure) → e ≡ f → EndsEarly call.store (verdict call.words) (IsReadByVerdict call.words) f
    ends_as f is = subst (EndsEarly call.store (verdict call.words) (IsReadByVerdict call.words)) is reads.gives

    by_refusal : (r : Refusal) → call.status ≡ status.Refused r → EndsEarly call.store (verdict call.words) (IsReadByVerdict call.words) (failure.Refused r)
    by_refusal r is = ends_as (failure.Refused r) (ended_refused e r (sym status_is ∙ is))

    by_fault : (file : FileId) → call.status ≡ status.ReadFault file → EndsEarly call.store (verdict call.words) (IsReadByVerdict call.words) (failure.Fault file)
    by_fault file is = ends_as (failure.Fault file) (ended_fault e file (sym status_is ∙ is))

    stopped_so : (Rose call.store.faults_before call.store.faults_after → ⊥) → (files : Files) → call.store.files ≡ Some files
        → (call.status ≡ say.status_of (verdict call.words files)) ⊎ (call.status ≡ status.NoMemory)
    stopped_so calm files told = by e refl
      where
        by : (f : Failure) → e ≡ f → (call.status ≡ say.status_of (verdict call.words files)) ⊎ (call.status ≡ status.NoMemory)
        by (failure.Refused r) is = inl (status_is ∙ ap status_of_failure is ∙ sym (ap say.status_of ((ends_as (failure.Refused r) is).0 files told)))
        by (failure.Fault file) is = absurd (calm ((ends_as (failure.Fault file) is).0))
        by failure.NoMemory is = inr (status_is ∙ ap status_of_failure is)

  -- this part is about a call that read everything to its end and then wrote its texts
  module _ (run : RunOutcome) (reads : Reads call.store (verdict call.words) (IsReadByVerdict call.words) (Ok run))
      (written : TextsEnded call.status call.out call.notes run course.line) where
    went_verdict : (files : Files) → call.store.files ≡ Some files → verdict call.words files ≡ Ok run
    went_verdict = reads.gives

    went_on : (e : Failure) → call.status ≡ status_of_failure e → ⊥
    went_on e is = by written
      where
        by : TextsEnded call.status call.out call.notes run course.line → ⊥
        by (Done s notes out) = ended_not_done e (sym is ∙ s)
        by (CutInNotes s rose out line) = ended_without_write_fault e sink.Notes (sym is ∙ s)
        by (CutInOut s rose out line) = ended_without_write_fault e sink.Out (sym is ∙ s)

    went_done : call.status ≡ status.Done → (files : Files) → call.store.files ≡ Some files
        → IsOkAnd (verdict call.words files) (λ run. say.GrewWhole call.notes (notes_text run) × say.GrewWhole call.out (out_text run))
    went_done is files told =
        subst (λ (v : Result RunOutcome Refusal). IsOkAnd v (λ run. say.GrewWhole call.notes (notes_text run) × say.GrewWhole call.out (out_text run))) (sym (went_verdict files told)) (by written)
      where
        by : TextsEnded call.status call.out call.notes run course.line → say.GrewWhole call.notes (notes_text run) × say.GrewWhole call.out (out_text run)
        by (Done e notes out) = (notes, out)
        by (CutInNotes e rose out line) = absurd (let no : status.Done ≡ status.WriteFault sink.Notes = sym is ∙ e in cc)
        by (CutInOut e rose out line) = absurd (let no : status.Done ≡ status.WriteFault sink.Out = sym is ∙ e in cc)

    went_cut_notes : call.status ≡ status.WriteFault sink.Notes → say.FaultsRose call.notes × say.DidNotGrow call.out
        × say.OverFiles call (λ files v. IsOkAnd v (λ run. say.TookPrefixThenLine call.notes (notes_text run) (fault_text call.status call.words files)))
    went_cut_notes is = by written
      where
        by : TextsEnded call.status call.out call.notes run course.line → say.FaultsRose call.notes × say.DidNotGrow call.out
            × say.OverFiles call (λ files v. IsOkAnd v (λ run. say.TookPrefixThenLine call.notes (notes_text run) (fault_text call.status call.words files)))
        by (Done e notes out) = absurd (let no : status.Done ≡ status.WriteFault sink.Notes = sym e ∙ is in cc)
        by (CutInNotes e rose out line) = (
          rose,
          out,
          (λ files told.
              subst (λ (v : Result RunOutcome Refusal). IsOkAnd v (λ run. say.TookPrefixThenLine call.notes (notes_text run) (fault_text call.status call.words files)))
              (sym (went_verdict files told)) (subst (say.TookPrefixThenLine call.notes (notes_text run)) (course.is_line files told) line)),
        )
        by (CutInOut e rose out line) = absurd (let no : status.WriteFault sink.Out ≡ status.WriteFault sink.Notes = sym e ∙ is in cc)

    went_cut_out : call.status ≡ status.WriteFault sink.Out → say.FaultsRose call.out
        × say.OverFiles call (λ files v. IsOkAnd v (λ run. say.TookPrefix call.out (out_text run)
        × GrewOrWasCut (say.grown call.notes.taken_before (notes_text run)) call.notes.taken_after call.notes.faults_before call.notes.faults_after (fault_text call.status call.words files)))
    went_cut_out is = by written
      where
        by : TextsEnded call.status call.out call.notes run course.line → say.FaultsRose call.out
            × say.OverFiles call (λ files v. IsOkAnd v (λ run. say.TookPrefix call.out (out_text run)
            × GrewOrWasCut (say.grown call.notes.taken_before (notes_text run)) call.notes.taken_after call.notes.faults_before call.notes.faults_after (fault_text call.status call.words files)))
        by (Done e notes out) = absurd (let no : status.Done ≡ status.WriteFault sink.Out = sym e ∙ is in cc)
        by (CutInNotes e rose out line) = absurd (let no : status.WriteFault sink.Notes ≡ status.WriteFault sink.Out = sym e ∙ is in cc)
        by (CutInOut e rose out line) = (
          rose,
          (λ files told.
              subst (λ (v : Result RunOutcome Refusal). IsOkAnd v (λ run. say.TookPrefix call.out (out_text run)
              × GrewOrWasCut (say.grown call.notes.taken_before (notes_text run)) call.notes.taken_after call.notes.faults_before call.notes.faults_after (fault_text call.status call.words files)))
              (sym (went_verdict files told))
              (out, subst (GrewOrWasCut (say.grown call.notes.taken_before (notes_text run)) call.notes.taken_after call.notes.faults_before call.notes.faults_after) (course.is_line files told) line)),
        )

    went_by_the_store : (files : Files) → call.store.files ≡ Some files
        → (call.status ≡ say.status_of (verdict call.words files)) ⊎ ((which : SinkId) × (call.status ≡ status.WriteFault which)) ⊎ (call.status ≡ status.NoMemory)
    went_by_the_store files told = by written
      where
        by : TextsEnded call.status call.out call.notes run course.line
            → (call.status ≡ say.status_of (verdict call.words files)) ⊎ ((which : SinkId) × (call.status ≡ status.WriteFault which)) ⊎ (call.status ≡ status.NoMemory)
        by (Done e notes out) = inl (e ∙ sym (ap say.status_of (went_verdict files told)))
        by (CutInNotes e rose out line) = inr (inl (sink.Notes, e))
        by (CutInOut e rose out line) = inr (inl (sink.Out, e))

    went_by_the_sinks : (say.FaultsRose call.out → ⊥) → (say.FaultsRose call.notes → ⊥) → (files : Files) → call.store.files ≡ Some files
        → (call.status ≡ say.status_of (verdict call.words files)) ⊎ (call.status ≡ status.NoMemory)
    went_by_the_sinks calm_out calm_notes files told = by written
      where
        by : TextsEnded call.status call.out call.notes run course.line → (call.status ≡ say.status_of (verdict call.words files)) ⊎ (call.status ≡ status.NoMemory)
        by (Done e notes out) = inl (e ∙ sym (ap say.status_of (went_verdict files told)))
        by (CutInNotes e rose out line) = absurd (calm_notes rose)
        by (CutInOut e rose out line) = absurd (calm_out rose)

  -- ---- the sentences of the headline

  done : RefusedOrRan call course.line → say.DoneIsExact call
  done (Unasked h) is = absurd (let no : status.Refused refusal.Usage ≡ status.Done = sym h.status ∙ is in cc)
  done (Asked h) is = by h.ran
    where
      by : StageRan call.status call.store call.out call.notes (verdict call.words) (IsReadByVerdict call.words) course.line
          → say.OverFiles call (λ files v. IsOkAnd v (λ run. say.GrewWhole call.notes (notes_text run) × say.GrewWhole call.out (out_text run)))
      by (EndedEarly e s reads out told) = absurd (ended_not_done e (sym s ∙ is))
      by (RanToEnd run reads written) = went_done run reads written is

  memory : RefusedOrRan call course.line → say.WantOfMemoryLeavesItsLine call
  memory (Unasked h) is = absurd (let no : status.Refused refusal.Usage ≡ status.NoMemory = sym h.status ∙ is in cc)
  memory (Asked h) is = by h.ran
    where
      by : StageRan call.status call.store call.out call.notes (verdict call.words) (IsReadByVerdict call.words) course.line → say.GrewByLine call.notes (codes "error memory\n") × say.DidNotGrow call.out
      by (EndedEarly e s reads out told) = (subst (say.GrewByLine call.notes) (course.memory is) told.tells, out)
      by (RanToEnd run reads written) = absurd (went_on run reads written failure.NoMemory is)

  cuts : RefusedOrRan call course.line → say.WriteFaultsHaveTheirCause call
  cuts (Unasked h) = record {
    of_notes = λ is. absurd (let no : status.Refused refusal.Usage ≡ status.WriteFault sink.Notes = sym h.status ∙ is in cc);
    of_out = λ is. absurd (let no : status.Refused refusal.Usage ≡ status.WriteFault sink.Out = sym h.status ∙ is in cc);
  }
  cuts (Asked h) = by h.ran
    where
      by : StageRan call.status call.store call.out call.notes (verdict call.words) (IsReadByVerdict call.words) course.line → say.WriteFaultsHaveTheirCause call
      by (EndedEarly e s reads out told) = record {
        of_notes = λ is. absurd (ended_without_write_fault e sink.Notes (sym s ∙ is));
        of_out = λ is. absurd (ended_without_write_fault e sink.Out (sym s ∙ is));
      }
      by (RanToEnd run reads written) = record { of_notes = went_cut_notes run reads written; of_out = went_cut_out run reads written }

  refusals : RefusedOrRan call course.line → say.RefusalsAreTheVerdict call
  refusals (Unasked h) = record {
    usage = ((λ is. h.words), (λ is. h.status));
    told = λ r is.
        let same : r ≡ refusal.Usage = unasked_is r (sym h.status ∙ is) in
        (h.out, (λ files told. (unasked_verdict call.words files h.words ∙ ap (λ (x : Refusal). Err x) (sym same), line_told h.told files told)));
    missing_only_if_told = λ file is. absurd (let no : refusal.Missing file ≡ refusal.Usage = unasked_is (refusal.Missing file) (sym h.status ∙ is) in cc);
  }
  refusals (Asked h) = by h.ran
    where
      by : StageRan call.status call.store call.out call.notes (verdict call.words) (IsReadByVerdict call.words) course.line → say.RefusalsAreTheVerdict call
      by (EndedEarly e s reads out told) = record {
        usage = ((λ is. absurd ((by_refusal e s reads refusal.Usage is).2 refl)), (λ is. absurd (h.words is)));
        told = λ r is. (out, (λ files is_told. ((by_refusal e s reads r is).0 files is_told, line_told told files is_told)));
        missing_only_if_told = λ file is none. (by_refusal e s reads (refusal.Missing file) is).1 none file refl;
      }
      by (RanToEnd run reads written) = record {
        usage = ((λ is. absurd (went_on run reads written (failure.Refused refusal.Usage) is)), (λ is. absurd (h.words is)));
        told = λ r is. absurd (went_on run reads written (failure.Refused r) is);
        missing_only_if_told = λ file is. absurd (went_on run reads written (failure.Refused (refusal.Missing file)) is);
      }

  faults : RefusedOrRan call course.line → say.ReadFaultsHaveTheirCause call
  faults (Unasked h) = record {
    told = λ file is. absurd (let no : status.Refused refusal.Usage ≡ status.ReadFault file = sym h.status ∙ is in cc);
    misses = λ files told missed. h.misses;
  }
  faults (Asked h) = by h.ran
    where
      by : StageRan call.status call.store call.out call.notes (verdict call.words) (IsReadByVerdict call.words) course.line → say.ReadFaultsHaveTheirCause call
      by (EndedEarly e s reads out told) = record {
        told = λ file is.
            let ends = by_fault e s reads file is in
            (ends.0, out, (λ files is_told. (ends.1 files is_told, line_told told files is_told)));
        misses = reads.misses;
      }
      by (RanToEnd run reads written) = record {
        told = λ file is. absurd (went_on run reads written (failure.Fault file) is);
        misses = reads.misses;
      }

  causes : RefusedOrRan call course.line → say.NothingIsRefusedWithoutCause call
  causes (Unasked h) =
      let so : (files : Files) → call.status ≡ say.status_of (verdict call.words files) = λ files. h.status ∙ sym (ap say.status_of (unasked_verdict call.words files h.words)) in
      record { by_the_store = λ calm files told. inl (so files); by_the_sinks = λ calm calm_out calm_notes files told. inl (so files) }
  causes (Asked h) = by h.ran
    where
      by : StageRan call.status call.store call.out call.notes (verdict call.words) (IsReadByVerdict call.words) course.line → say.NothingIsRefusedWithoutCause call
      by (EndedEarly e s reads out told) = record {
        by_the_store = λ calm files is_told. elim (stopped_so e s reads calm files is_told) [ inl is ↦ inl is | inr is ↦ inr (inr is) ];
        by_the_sinks = λ calm calm_out calm_notes files is_told. stopped_so e s reads calm files is_told;
      }
      by (RanToEnd run reads written) = record {
        by_the_store = λ calm. went_by_the_store run reads written;
        by_the_sinks = λ calm. went_by_the_sinks run reads written;
      }

  pub headline : say.Headline call
  headline = record {
    done_is_exact = done course.how;
    every_bound_holds = λ files told. bounds_hold call.words files;
    the_rows_are_the_answer = λ files told. rows_are_the_answer call.words files;
    want_of_memory_leaves_its_line = memory course.how;
    write_faults_have_their_cause = cuts course.how;
    refusals_are_the_verdict = refusals course.how;
    read_faults_have_their_cause = faults course.how;
    nothing_is_refused_without_cause = causes course.how;
    every_limit_is_kept = λ files told. limits_hold call.words files;
  }
