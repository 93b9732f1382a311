-- In these proofs a stream's text is a number (the name of its room) and then the bytes. What is proved about such a stream is also true of the
-- stream whose text is only the bytes.
use Rattle.std.proofs.Common.{◌≡◌, ℕ, List, [], ◌∷◌, ◌++◌, Option, None, Some, Result, Ok, Err, refl, ap, sym, ◌∙◌, subst}
use Rattle.std.specs.Prelude.{IsOkAnd, codes}
use Rattle.base_io.specs.Devices.{Growth, Reading}
use Rattle.base_io.specs.Sinks.{GrewByPrefix, appended}
use Rattle.outcomes.specs.declared.status.Status.{Status}
use Rattle.safebound_top.specs.Call.{Call, CutThenTold, GrewOrWasCut}
use Rattle.safebound_top.specs.Faults.{fault_text}
use Rattle.safebound_top.specs.Headline.{DidNotGrow, DoneIsExact, GrewByLine, GrewWhole, Headline, ReadFaultsHaveTheirCause, RefusalsAreTheVerdict, WantOfMemoryLeavesItsLine, TookPrefix, TookPrefixThenLine, WriteFaultsHaveTheirCause, grown}
use Rattle.prepared_runs.specs.RunOutcome.{RunOutcome}
use Rattle.safebound_top.specs.OutcomeTexts.{notes_text, out_text}
use Rattle.prepared_runs.specs.Verdict.{verdict}

abbrev pub bytes_after_name : Option (List ℕ) → Option (List ℕ)
bytes_after_name None = None
bytes_after_name (Some []) = Some []
bytes_after_name (Some (name ∷ text)) = Some text

abbrev pub with_name : ℕ → List ℕ → Option (List ℕ) → ℕ → ℕ → Growth
with_name name before after faults faults_after = record {
  taken_before = Some (name ∷ before);
  taken_after = after;
  faults_before = faults;
  faults_after = faults_after;
}

abbrev pub without_name : List ℕ → Option (List ℕ) → ℕ → ℕ → Growth
without_name before after faults faults_after = record {
  taken_before = Some before;
  taken_after = bytes_after_name after;
  faults_before = faults;
  faults_after = faults_after;
}

-- ---- each way in which a stream may grow

prefix_without_name : (name : ℕ) (before : List ℕ) (after : Option (List ℕ)) (text : List ℕ)
    → GrewByPrefix (Some (name ∷ before)) after text → GrewByPrefix (Some before) (bytes_after_name after) text
prefix_without_name name before after text h = record { front = h.front; rest = h.rest; whole = h.whole; grew = ap bytes_after_name h.grew }

pub tells_without_name : (name : ℕ) (before : List ℕ) (after : Option (List ℕ)) (f f' : ℕ) (text : List ℕ)
    → GrewOrWasCut (Some (name ∷ before)) after f f' text → GrewOrWasCut (Some before) (bytes_after_name after) f f' text
tells_without_name name before after f f' text h = record {
  prefix = prefix_without_name name before after text h.prefix;
  whole = λ calm. ap bytes_after_name (h.whole calm);
}

bytes_after_name-appended : (name : ℕ) (before : List ℕ) (mid : Option (List ℕ)) (text : List ℕ) → mid ≡ Some (name ∷ before)
    → bytes_after_name (appended mid text) ≡ appended (bytes_after_name mid) text
bytes_after_name-appended name before mid text is =
    subst (λ (m : Option (List ℕ)). bytes_after_name (appended m text) ≡ appended (bytes_after_name m) text) (sym is) refl

cut_without_name : (name : ℕ) (before : List ℕ) (after : Option (List ℕ)) (text line : List ℕ)
    → CutThenTold (Some (name ∷ before)) after text line → CutThenTold (Some before) (bytes_after_name after) text line
cut_without_name name before after text line h = record {
  mid = bytes_after_name h.mid;
  cut = prefix_without_name name before h.mid text h.cut;
  told = record {
    front = h.told.front;
    rest = h.told.rest;
    whole = h.told.whole;
    grew = ap bytes_after_name h.told.grew ∙ bytes_after_name-appended name (before ++ h.cut.front) h.mid h.told.front h.cut.grew;
  };
}

same_without_name : (name : ℕ) (before : List ℕ) (after : Option (List ℕ)) (f f' : ℕ)
    → DidNotGrow (with_name name before after f f') → DidNotGrow (without_name before after f f')
same_without_name name before after f f' h = (ap bytes_after_name h.0, h.1)

whole_without_name : (name : ℕ) (before : List ℕ) (after : Option (List ℕ)) (f f' : ℕ) (text : Option (List ℕ))
    → GrewWhole (with_name name before after f f') text → GrewWhole (without_name before after f f') text
whole_without_name name before after f f' None h = same_without_name name before after f f' h
whole_without_name name before after f f' (Some text) h = ap bytes_after_name h

was_cut_without_name : (name : ℕ) (before : List ℕ) (after : Option (List ℕ)) (f f' : ℕ) (text : Option (List ℕ))
    → TookPrefix (with_name name before after f f') text → TookPrefix (without_name before after f f') text
was_cut_without_name name before after f f' None h = h
was_cut_without_name name before after f f' (Some text) h = prefix_without_name name before after text h

was_cut_and_told_without_name : (name : ℕ) (before : List ℕ) (after : Option (List ℕ)) (f f' : ℕ) (text : Option (List ℕ)) (line : List ℕ)
    → TookPrefixThenLine (with_name name before after f f') text line → TookPrefixThenLine (without_name before after f f') text line
was_cut_and_told_without_name name before after f f' None line h = h
was_cut_and_told_without_name name before after f f' (Some text) line h = cut_without_name name before after text line h

told_after_without_name : (name : ℕ) (before : List ℕ) (after : Option (List ℕ)) (f f' : ℕ) (text : Option (List ℕ)) (line : List ℕ)
    → GrewOrWasCut (grown (Some (name ∷ before)) text) after f f' line → GrewOrWasCut (grown (Some before) text) (bytes_after_name after) f f' line
told_after_without_name name before after f f' None line h = tells_without_name name before after f f' line h
told_after_without_name name before after f f' (Some text) line h = tells_without_name name (before ++ text) after f f' line h

and_more : {A E : Type 0} (P Q : A → Type 0) (r : Result A E) → ((x : A) → P x → Q x) → IsOkAnd r P → IsOkAnd r Q
and_more P Q (Ok x) more h = more x h
and_more P Q (Err e) more h = h

-- ---- the streams after an accepted call, for each way in which the call may end

abbrev pub LeftByDone : Growth → Growth → RunOutcome → Type 0
LeftByDone out notes outcome = GrewWhole notes (notes_text outcome) × GrewWhole out (out_text outcome)

abbrev pub LeftByCutNotes : Growth → List ℕ → RunOutcome → Type 0
LeftByCutNotes notes line outcome = TookPrefixThenLine notes (notes_text outcome) line

abbrev pub LeftByCutOut : Growth → Growth → List ℕ → RunOutcome → Type 0
LeftByCutOut out notes line outcome = TookPrefix out (out_text outcome)
    × GrewOrWasCut (grown notes.taken_before (notes_text outcome)) notes.taken_after notes.faults_before notes.faults_after line

-- ---- the headline

module _ (words : List (List ℕ)) (status : Status) (store : Reading)
    (out_name : ℕ) (out_before : List ℕ) (out_after : Option (List ℕ)) (o o' : ℕ)
    (notes_name : ℕ) (notes_before : List ℕ) (notes_after : Option (List ℕ)) (n n' : ℕ) where
  abbrev pub call_with_name : Call
  call_with_name = record {
    words = words;
    status = status;
    store = store;
    out = with_name out_name out_before out_after o o';
    notes = with_name notes_name notes_before notes_after n n';
  }

  abbrev pub call_without_name : Call
  call_without_name = record {
    words = words;
    status = status;
    store = store;
    out = without_name out_before out_after o o';
    notes = without_name notes_before notes_after n n';
  }

  out_kept : DidNotGrow call_with_name.out → DidNotGrow call_without_name.out
  out_kept h = same_without_name out_name out_before out_after o o' h

  line_told : (line : List ℕ) → GrewByLine call_with_name.notes line → GrewByLine call_without_name.notes line
  line_told line h = tells_without_name notes_name notes_before notes_after n n' line h

  done_without_name : (outcome : RunOutcome) → LeftByDone call_with_name.out call_with_name.notes outcome → LeftByDone call_without_name.out call_without_name.notes outcome
  done_without_name outcome h = (
    whole_without_name notes_name notes_before notes_after n n' (notes_text outcome) h.0,
    whole_without_name out_name out_before out_after o o' (out_text outcome) h.1,
  )

  cut_notes_without_name : (line : List ℕ) (outcome : RunOutcome) → LeftByCutNotes call_with_name.notes line outcome → LeftByCutNotes call_without_name.notes line outcome
  cut_notes_without_name line outcome h = was_cut_and_told_without_name notes_name notes_before notes_after n n' (notes_text outcome) line h

  cut_out_without_name : (line : List ℕ) (outcome : RunOutcome) → LeftByCutOut call_with_name.out call_with_name.notes line outcome
      → LeftByCutOut call_without_name.out call_without_name.notes line outcome
  cut_out_without_name line outcome h = (
    was_cut_without_name out_name out_before out_after o o' (out_text outcome) h.0,
    told_after_without_name notes_name notes_before notes_after n n' (notes_text outcome) line h.1,
  )

  module _ (h : Headline call_with_name) where
    done_sentence_without_name : DoneIsExact call_without_name
    done_sentence_without_name = λ is files told. and_more (LeftByDone call_with_name.out call_with_name.notes) (LeftByDone call_without_name.out call_without_name.notes)
        (verdict words files) done_without_name (h.done_is_exact is files told)

    memory_sentence_without_name : WantOfMemoryLeavesItsLine call_without_name
    memory_sentence_without_name = λ is. (line_told (codes "error memory\n") (h.want_of_memory_leaves_its_line is).0, out_kept (h.want_of_memory_leaves_its_line is).1)

    writes_sentence_without_name : WriteFaultsHaveTheirCause call_without_name
    writes_sentence_without_name = record {
      of_notes = λ is. (
        (h.write_faults_have_their_cause.of_notes is).0,
        out_kept (h.write_faults_have_their_cause.of_notes is).1,
        λ files told. and_more (LeftByCutNotes call_with_name.notes (fault_text status words files)) (LeftByCutNotes call_without_name.notes (fault_text status words files))
            (verdict words files) (cut_notes_without_name (fault_text status words files)) ((h.write_faults_have_their_cause.of_notes is).2 files told),
      );
      of_out = λ is. (
        (h.write_faults_have_their_cause.of_out is).0,
        λ files told. and_more (LeftByCutOut call_with_name.out call_with_name.notes (fault_text status words files))
            (LeftByCutOut call_without_name.out call_without_name.notes (fault_text status words files))
            (verdict words files) (cut_out_without_name (fault_text status words files)) ((h.write_faults_have_their_cause.of_out is).1 files told),
      );
    }

    refusals_sentence_without_name : RefusalsAreTheVerdict call_without_name
    refusals_sentence_without_name = record {
      usage = h.refusals_are_the_verdict.usage;
      told = λ r is. (
        out_kept (h.refusals_are_the_verdict.told r is).0,
        λ files told. (
          ((h.refusals_are_the_verdict.told r is).1 files told).0,
          line_told (fault_text status words files) ((h.refusals_are_the_verdict.told r is).1 files told).1,
        ),
      );
      missing_only_if_told = h.refusals_are_the_verdict.missing_only_if_told;
    }

    reads_sentence_without_name : ReadFaultsHaveTheirCause call_without_name
    reads_sentence_without_name = record {
      told = λ file is. (
        (h.read_faults_have_their_cause.told file is).0,
        out_kept (h.read_faults_have_their_cause.told file is).1,
        λ files told. (
          ((h.read_faults_have_their_cause.told file is).2 files told).0,
          line_told (fault_text status words files) ((h.read_faults_have_their_cause.told file is).2 files told).1,
        ),
      );
      misses = h.read_faults_have_their_cause.misses;
    }

    pub headline_without_name : Headline call_without_name
    headline_without_name = record {
      done_is_exact = done_sentence_without_name;
      every_bound_holds = h.every_bound_holds;
      the_rows_are_the_answer = h.the_rows_are_the_answer;
      want_of_memory_leaves_its_line = memory_sentence_without_name;
      write_faults_have_their_cause = writes_sentence_without_name;
      refusals_are_the_verdict = refusals_sentence_without_name;
      read_faults_have_their_cause = reads_sentence_without_name;
      nothing_is_refused_without_cause = record {
        by_the_store = h.nothing_is_refused_without_cause.by_the_store;
        by_the_sinks = h.nothing_is_refused_without_cause.by_the_sinks;
      };
      every_limit_is_kept = h.every_limit_is_kept;
    }
