-- The texts are written one after another. The lemmas say what a call has written after each text, and after a failed write.
use Rattle.std.proofs.Common.{◌≡◌, ℕ, List, ◌++◌, Option, None, Some, Result, Ok, Err, refl, ap, sym, ◌∙◌, subst, arith}
use Rattle.base_io.specs.Devices.{Growth}
use Rattle.base_io.specs.Sinks.{GrewByPrefix, appended}
use Rattle.base_io.specs.Writes.{Wrote}
use Rattle.base_io.specs.declared.errors.Failed.{Failed}
use Rattle.base_io.proofs.CountFacts.{later_then_rose, rose_then_later}
use Rattle.base_io.proofs.SinkFacts.{prefix_of_first}
use Rattle.base_io.proofs.WriteFacts.{growth_between}
use Rattle.outcomes.specs.declared.names.SinkId.{SinkId}
use Rattle.outcomes.specs.declared.names.SinkId.TheVariants as sink
use Rattle.outcomes.specs.declared.status.Status.{Status}
use Rattle.outcomes.specs.declared.status.Status.TheVariants as status
use Rattle.prepared_runs.specs.AcceptedQuery.{AcceptedQuery}
use Rattle.safebound_top.specs.CallHistory.{CutInNotes, CutInOut, TextsEnded, StatusReported, TextsWritten, WroteIfAny}
use Rattle.safebound_top.specs.Headline.{DidNotGrow, GrewWhole, TookPrefix, TookPrefixThenLine, grown}
use Rattle.prepared_runs.specs.RunOutcome.{PlanFromStatsFile, RunOutcome, Planned, PlannedFromStats}
use Rattle.safebound_top.specs.OutcomeTexts.{stats_file_plan_text, notes_text, out_text}
use Rattle.safebound_top.specs.Texts.{out_text_of, plan_text}

pub status_told : (g : Growth) (line : List ℕ) (r : Result (Unit {0}) Failed) → Wrote g line r → StatusReported g line
status_told g line (Ok u) h = record { tells = record { prefix = h.prefix; whole = λ calm. h.ok }; later = h.later }
status_told g line (Err e) h = record { tells = record { prefix = h.prefix; whole = λ calm. absurd (calm h.failed) }; later = h.later }

pub cut_first : {t0 t1 : Option (List ℕ)} {f0 f1 : ℕ} {a : List ℕ} {e : Failed} (b : List ℕ) → Wrote (growth_between t0 t1 f0 f1) a (Err e) → Wrote (growth_between t0 t1 f0 f1) (a ++ b) (Err e)
cut_first {t0} {t1} {f0} {f1} {a} {e} b h = record { ok = tt; prefix = prefix_of_first t0 t1 a b h.prefix; later = h.later; failed = h.failed }

-- ---- the plan text is written to notes, and then the text for out, if there is one

pub notes_cut : (t0 t1 o : Option (List ℕ)) (f0 f1 g : ℕ) (run : AcceptedQuery) (text : List ℕ) (e : Failed) → text ≡ plan_text run → Wrote (growth_between t0 t1 f0 f1) text (Err e)
    → TextsWritten (growth_between o o g g) (growth_between t0 t1 f0 f1) (Planned run) (Err sink.Notes)
notes_cut t0 t1 o f0 f1 g run text e is h = record {
  texts = (h.failed, (refl, refl), subst (GrewByPrefix t0 t1) is h.prefix);
  later_out = omega arith;
  later_notes = h.later;
}

pub both_wrote : (t0 t1 o0 o1 : Option (List ℕ)) (f0 f1 g0 g1 : ℕ) (run : AcceptedQuery) (text : List ℕ) (other : Option (List ℕ)) (u v : Unit {0}) → text ≡ plan_text run → out_text_of run ≡ other
    → Wrote (growth_between t0 t1 f0 f1) text (Ok u) → WroteIfAny (growth_between o0 o1 g0 g1) other (Ok v) → TextsWritten (growth_between o0 o1 g0 g1) (growth_between t0 t1 f0 f1) (Planned run) (Ok tt)
both_wrote t0 t1 o0 o1 f0 f1 g0 g1 run text None u v is out h k = record {
  texts = (h.ok ∙ ap (appended t0) is, subst (GrewWhole (growth_between o0 o1 g0 g1)) (sym out) k.0);
  later_out = omega (arith, k.0.1);
  later_notes = h.later;
}
both_wrote t0 t1 o0 o1 f0 f1 g0 g1 run text (Some other) u v is out h k = record {
  texts = (h.ok ∙ ap (appended t0) is, subst (GrewWhole (growth_between o0 o1 g0 g1)) (sym out) k.ok);
  later_out = k.later;
  later_notes = h.later;
}

pub out_cut : (t0 t1 o0 o1 : Option (List ℕ)) (f0 f1 g0 g1 : ℕ) (run : AcceptedQuery) (text : List ℕ) (other : Option (List ℕ)) (u : Unit {0}) (e : Failed) → text ≡ plan_text run → out_text_of run ≡ other
    → Wrote (growth_between t0 t1 f0 f1) text (Ok u) → WroteIfAny (growth_between o0 o1 g0 g1) other (Err e) → TextsWritten (growth_between o0 o1 g0 g1) (growth_between t0 t1 f0 f1) (Planned run) (Err sink.Out)
out_cut t0 t1 o0 o1 f0 f1 g0 g1 run text None u e is out h k = absurd (let no : ◌≡◌ {A = Result (Unit {0}) Failed} (Err e) (Ok tt) = k.1 in cc)
out_cut t0 t1 o0 o1 f0 f1 g0 g1 run text (Some other) u e is out h k = record {
  texts = (k.failed, h.ok ∙ ap (appended t0) is, subst (TookPrefix (growth_between o0 o1 g0 g1)) (sym out) k.prefix);
  later_out = k.later;
  later_notes = h.later;
}

-- ---- the text of a statistics file, and the text of a plan from a statistics file

module _ (out notes : Growth) (outcome : RunOutcome) (still : DidNotGrow notes) (text : List ℕ) (no_notes : notes_text outcome ≡ None) (out_text_is : out_text outcome ≡ Some text) where
  untouched : GrewWhole notes (notes_text outcome)
  untouched = subst (GrewWhole notes) (sym no_notes) still

  pub file_wrote : (u : Unit {0}) → Wrote out text (Ok u) → TextsWritten out notes outcome (Ok tt)
  file_wrote u h = record { texts = (untouched, subst (GrewWhole out) (sym out_text_is) h.ok); later_out = h.later; later_notes = omega (arith, still.1) }

  pub file_cut : (e : Failed) → Wrote out text (Err e) → TextsWritten out notes outcome (Err sink.Out)
  file_cut e h = record { texts = (h.failed, untouched, subst (TookPrefix out) (sym out_text_is) h.prefix); later_out = h.later; later_notes = omega (arith, still.1) }

module _ (out notes : Growth) (made : PlanFromStatsFile) (still : DidNotGrow out) where
  pub plan_wrote : (u : Unit {0}) → Wrote notes (stats_file_plan_text made) (Ok u) → TextsWritten out notes (PlannedFromStats made) (Ok tt)
  plan_wrote u h = record { texts = (h.ok, still); later_out = omega (arith, still.1); later_notes = h.later }

  pub plan_cut : (e : Failed) → Wrote notes (stats_file_plan_text made) (Err e) → TextsWritten out notes (PlannedFromStats made) (Err sink.Notes)
  plan_cut e h = record { texts = (h.failed, still, h.prefix); later_out = omega (arith, still.1); later_notes = h.later }

-- ---- a write failed, and then the line that reports it is written

module _ (t0 t1 t2 : Option (List ℕ)) (f0 f1 f2 : ℕ) (line : List ℕ) (told : StatusReported (growth_between t1 t2 f1 f2) line) where
  cut_then_told : (text : Option (List ℕ)) → TookPrefix (growth_between t0 t1 f0 f1) text → TookPrefixThenLine (growth_between t0 t2 f0 f2) text line
  cut_then_told None cut = cut
  cut_then_told (Some text) cut = record { mid = t1; cut = cut; told = told.tells.prefix }

  grown_after : (text : Option (List ℕ)) → GrewWhole (growth_between t0 t1 f0 f1) text → t1 ≡ grown t0 text
  grown_after None still = still.0
  grown_after (Some text) whole = whole

pub ended_cut : (which : SinkId) (s : Status) (t0 t1 t2 o0 o1 : Option (List ℕ)) (f0 f1 f2 g0 g1 : ℕ) (outcome : RunOutcome) (line : List ℕ) → s ≡ status.WriteFault which
    → TextsWritten (growth_between o0 o1 g0 g1) (growth_between t0 t1 f0 f1) outcome (Err which) → StatusReported (growth_between t1 t2 f1 f2) line → TextsEnded s (growth_between o0 o1 g0 g1) (growth_between t0 t2 f0 f2) outcome line
ended_cut sink.Notes s t0 t1 t2 o0 o1 f0 f1 f2 g0 g1 outcome line is h told =
    CutInNotes is (rose_then_later f0 f1 f2 h.later_notes h.texts.0 told.later) h.texts.1 (cut_then_told t0 t1 t2 f0 f1 f2 line told (notes_text outcome) h.texts.2)
ended_cut sink.Out s t0 t1 t2 o0 o1 f0 f1 f2 g0 g1 outcome line is h told =
    let before : t1 ≡ grown t0 (notes_text outcome) = grown_after t0 t1 t2 f0 f1 f2 line told (notes_text outcome) h.texts.1 in
    CutInOut is h.texts.0 h.texts.2 (record {
      prefix = subst (λ (t : Option (List ℕ)). GrewByPrefix t t2 line) before told.tells.prefix;
      whole = λ calm. told.tells.whole (λ rose. calm (later_then_rose f0 f1 f2 h.later_notes rose)) ∙ ap (λ (t : Option (List ℕ)). appended t line) before;
    })
