-- If the verdict on a call's words and files is known, the headline theorem tells how the call ends.
use Rattle.std.proofs.Common.{◌≡◌, ◌⊎◌, inl, inr, ℕ, List, Option, None, Some, Result, Ok, Err, refl, ap, ◌∙◌, subst}
use Rattle.std.specs.Fmt.{digits}
use Rattle.std.specs.Prelude.{codes, IsOkAnd}
use Rattle.base_io.specs.Files.{Files}
use Rattle.outcomes.specs.Reads.{mapped}
use Rattle.outcomes.specs.declared.refusal.Refusal.{Refusal}
use Rattle.outcomes.specs.declared.refusal.Refusal.TheVariants as refusal
use Rattle.outcomes.specs.declared.status.Status.TheVariants as status
use Rattle.printed_texts.specs.Faults.{error_line}
use Rattle.safebound_top.specs.Call.{Call}
use Rattle.safebound_top.specs.Faults.{fault_text}
use Rattle.safebound_top.specs.Headline.{GrewWhole, Headline, status_of}
use Rattle.prepared_runs.specs.RunOutcome.{RunOutcome}
use Rattle.safebound_top.specs.OutcomeTexts.{notes_text, out_text}
use Rattle.safebound_laws.specs.Printed.{both_texts}
use Rattle.prepared_runs.specs.Verdict.{verdict}
use Rattle.worked_run.specs.Calls.{EachCallEnds, Ended, IsFaultless}
use Rattle.worked_run.specs.TwoTables.{small_files}

module _ (files : Files) (call : Call) (head : Headline call) (files_are_told : call.store.files ≡ Some files) (faultless : IsFaultless call) where
  -- if the verdict is an outcome, the call ends in Done with the texts of this outcome, or memory ran out
  ends_in_done : (outcome : RunOutcome) → verdict call.words files ≡ Ok outcome
      → Ended call status.Done (notes_text outcome) (out_text outcome) ⊎ (call.status ≡ status.NoMemory)
  ends_in_done outcome is = by (head.nothing_is_refused_without_cause.by_the_sinks faultless.store faultless.out faultless.notes files files_are_told) where
    grown : call.status ≡ status.Done → GrewWhole call.notes (notes_text outcome) × GrewWhole call.out (out_text outcome)
    grown done =
        subst (λ v. IsOkAnd v (λ o. GrewWhole call.notes (notes_text o) × GrewWhole call.out (out_text o))) is (head.done_is_exact done files files_are_told)

    by : (call.status ≡ status_of (verdict call.words files)) ⊎ (call.status ≡ status.NoMemory)
        → Ended call status.Done (notes_text outcome) (out_text outcome) ⊎ (call.status ≡ status.NoMemory)
    by (inl same) =
        let done : call.status ≡ status.Done = same ∙ ap status_of is in
        let texts = grown done in
        inl (record { status = done; notes = texts.0; out = texts.1 })
    by (inr memory) = inr memory

  -- if the verdict is a refusal, the call ends with the line of the refusal, or memory ran out
  ends_with_refusal : (r : Refusal) (line : List ℕ) → verdict call.words files ≡ Err r
      → fault_text (status.Refused r) call.words files ≡ line → Ended call (status.Refused r) (Some line) None ⊎ (call.status ≡ status.NoMemory)
  ends_with_refusal r line is text = by (head.nothing_is_refused_without_cause.by_the_sinks faultless.store faultless.out faultless.notes files files_are_told) where
    by : (call.status ≡ status_of (verdict call.words files)) ⊎ (call.status ≡ status.NoMemory)
        → Ended call (status.Refused r) (Some line) None ⊎ (call.status ≡ status.NoMemory)
    by (inl same) =
        let refusing : call.status ≡ status.Refused r = same ∙ ap status_of is in
        let meaning_of_test = head.refusals_are_the_verdict.told r refusing in
        let grown = (meaning_of_test.1 files files_are_told).1.whole faultless.notes in
        inl (record {
          status = refusing;
          notes = subst (λ (text : List ℕ). GrewWhole call.notes (Some text)) (ap (λ s. fault_text s call.words files) refusing ∙ text) grown;
          out = meaning_of_test.0;
        })
    by (inr memory) = inr memory

-- Suppose that the verdict on the words and files is an outcome with these texts. Then each call with these words ends in Done with these texts
pub each_call_is_done : (files : Files) (words : List (List ℕ)) (outcome : RunOutcome) (notes out : Option (List ℕ)) → verdict words files ≡ Ok outcome
    → notes_text outcome ≡ notes → out_text outcome ≡ out → EachCallEnds files words status.Done notes out
each_call_is_done files words outcome notes out is left right call head same told sound =
    subst (λ n. Ended call status.Done n out ⊎ (call.status ≡ status.NoMemory)) left
    (subst (λ o. Ended call status.Done (notes_text outcome) o ⊎ (call.status ≡ status.NoMemory)) right
    (ends_in_done files call head told sound outcome (ap (λ w. verdict w files) same ∙ is)))

outcome_with_printed_texts : (answer : Result RunOutcome Refusal) (texts : Option (List ℕ) × Option (List ℕ)) → mapped both_texts answer ≡ Ok texts
    → (outcome : RunOutcome) × (answer ≡ Ok outcome) × (both_texts outcome ≡ texts)
outcome_with_printed_texts (Ok outcome) texts is = (outcome, refl, cc)
outcome_with_printed_texts (Err r) texts is = absurd (cc)

-- if the verdict is known only by what it prints, each call with these words ends in Done with the printed texts
pub each_call_prints : (files : Files) (words : List (List ℕ)) (notes out : Option (List ℕ)) → mapped both_texts (verdict words files) ≡ Ok (notes, out)
    → EachCallEnds files words status.Done notes out
each_call_prints files words notes out is =
    let found = outcome_with_printed_texts (verdict words files) (notes, out) is in
    each_call_is_done files words found.0 notes out found.1 (ap (λ (t : Option (List ℕ) × Option (List ℕ)). t.0) found.2) (ap (λ (t : Option (List ℕ) × Option (List ℕ)). t.1) found.2)

budget_line : (words : List (List ℕ)) → fault_text (status.Refused (refusal.Budget 12)) words small_files ≡ codes "error budget 12\n"
unfolding error_line digits
budget_line words = refl

-- if the verdict is a refusal since the plan costs 12, each call with these words ends with the line `error budget 12`
pub each_call_exceeds_budget : (words : List (List ℕ)) → verdict words small_files ≡ Err (refusal.Budget 12)
    → EachCallEnds small_files words (status.Refused (refusal.Budget 12)) (Some (codes "error budget 12\n")) None
each_call_exceeds_budget words is call head same told sound =
    ends_with_refusal small_files call head told sound (refusal.Budget 12) (codes "error budget 12\n")
    (ap (λ w. verdict w small_files) same ∙ is) (budget_line call.words)

limit_line : (words : List (List ℕ)) → fault_text (status.Refused (refusal.MemoryLimit 531)) words small_files ≡ codes "error memory-limit 531\n"
unfolding error_line digits
limit_line words = refl

-- if the verdict is a refusal since the plan takes 531 bytes, each call with these words ends with the line `error memory-limit 531`
pub each_call_exceeds_limit : (words : List (List ℕ)) → verdict words small_files ≡ Err (refusal.MemoryLimit 531)
    → EachCallEnds small_files words (status.Refused (refusal.MemoryLimit 531)) (Some (codes "error memory-limit 531\n")) None
each_call_exceeds_limit words is call head same told sound =
    ends_with_refusal small_files call head told sound (refusal.MemoryLimit 531) (codes "error memory-limit 531\n")
    (ap (λ w. verdict w small_files) same ∙ is) (limit_line call.words)
