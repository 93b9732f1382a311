-- `result_from` is a result that the contract of `read_stats` allows for the bytes of a file, and never want of memory.
use Rattle.std.proofs.Common.{◌≡◌, ◌≢◌, ℕ, ◌+◌, Bool, true, false, List, [], ◌∷◌, ◌++◌, refl, ap, sym, subst, arith, append-nil, append_assoc}
use Rattle.std.specs.Prelude.{◌==◌, ◌&&◌, if◌then◌else◌, Result, Ok, Err}
use Rattle.std.proofs.lemmas.Bool.{both_ways}
use Rattle.schema_types.specs.declared.types.Schema.{Schema}
use Rattle.schema_types.specs.Validity.{IsValid}
use Rattle.stats_file.specs.declared.types.StatsError.{StatsError}
use Rattle.stats_file.specs.declared.types.StatsError.TheVariants as error
use Rattle.stats_file.specs.declared.types.StatsFile.{StatsFile}
use Rattle.stats_file.specs.Answers.{IsAllowedResult as FileAnswers}
use Rattle.stats_words.specs.Splits.{IsSplitAt, HasNoByte}
use Rattle.stats_words.proofs.SplitFacts.{both_without, front_without}
use Rattle.stats_reading.specs.declared.draft.Draft.{Draft}
use Rattle.stats_reading.specs.declared.fault.Fault.{Fault}
use Rattle.stats_reading.specs.declared.fault.Fault.TheVariants as fault
use Rattle.stats_reading.specs.declared.stages.Stage.{Stage}
use Rattle.stats_reading.specs.declared.stages.Stage.TheVariants as stage
use Rattle.stats_reading.specs.Drafts.{empty_draft}
use Rattle.stats_reading.specs.Remaining.{file_of_draft}
use Rattle.stats_reading.specs.Refusals.{refusal_of}
use Rattle.stats_reading.proofs.Reading.{all_read, read_more, refused, too_early, IsRead}
use Rattle.stats_lines.specs.LineForms.{is_empty}
use Rattle.stats_lines.specs.Results.{after_line, and_on, is_done, result_at_end, result_from}
use Rattle.stats_lines.proofs.Deciding.{tells_and, tells_equal, tells_same_numbers, Tells}
use Rattle.stats_lines.proofs.Steps.{is_after, IsAfter}

-- a result for a file of which some lines were read into the draft `s`. The remaining bytes are `left`, and the next line has the number `line`
record IsResult (schema : Schema) (s : Draft) (line : ℕ) (left : List ℕ) (result : Result StatsFile StatsError) : Type 0 where
  allowed : (bytes : List ℕ) → IsValid schema → IsRead schema bytes left s line → FileAnswers schema bytes result
  not_no_memory : result ≢ Err error.NoMemory

tells_done : (at : Stage) → Tells (is_done at) (at ≡ stage.Done)
tells_done stage.Start = record { yes = λ e. absurd (both_ways false refl e); no = λ e h. cc }
tells_done stage.Tables = record { yes = λ e. absurd (both_ways false refl e); no = λ e h. cc }
tells_done stage.Pairs = record { yes = λ e. absurd (both_ways false refl e); no = λ e h. cc }
tells_done stage.Whole = record { yes = λ e. absurd (both_ways false refl e); no = λ e h. cc }
tells_done stage.Frequent = record { yes = λ e. absurd (both_ways false refl e); no = λ e h. cc }
tells_done stage.Cuts = record { yes = λ e. absurd (both_ways false refl e); no = λ e h. cc }
tells_done stage.Nodes = record { yes = λ e. absurd (both_ways false refl e); no = λ e h. cc }
tells_done stage.Done = record { yes = λ e. refl; no = λ e h. both_ways true e refl }

at_end : (schema : Schema) (s : Draft) (line : ℕ) (left : List ℕ) → HasNoByte 10 left → IsResult schema s line left (result_at_end s line left)
at_end schema s line left none = by (is_done s.stage && is_empty left) (tells_and (tells_done s.stage) (tells_same_numbers left []))
  where
    by : (whole : Bool) → Tells whole ((s.stage ≡ stage.Done) × (left ≡ []))
        → IsResult schema s line left (if whole then Ok (file_of_draft s []) else Err (refusal_of line fault.Syntax))
    by true is =
        let whole = is.yes refl in
        record { allowed = λ bytes good h. all_read schema bytes left s line (file_of_draft s []) h whole.0 whole.1 refl; not_no_memory = λ e. cc }
    by false is = record { allowed = λ bytes good h. too_early schema bytes left s line h none (is.no refl); not_no_memory = λ e. cc }

abbrev refused_by : StatsError → Result StatsFile StatsError
refused_by why = Err why

not_memory : (line : ℕ) (f : Fault) → f ≢ fault.NoMemory → refused_by (refusal_of line f) ≢ refused_by error.NoMemory
not_memory line fault.Syntax other e = cc
not_memory line fault.Rule other e = cc
not_memory line fault.NoMemory other e = other refl

abbrev failed : Fault → Result Draft Fault
failed f = Err f

with_line : (schema : Schema) (s : Draft) (line : ℕ) (left text rest : List ℕ) → IsSplitAt 10 left text rest → (result : Result Draft Fault) → IsAfter schema s text result
    → (next : Draft → Result StatsFile StatsError) → ((t : Draft) → IsResult schema t (line + 1) rest (next t)) → IsResult schema s line left (and_on line result next)
with_line schema s line left text rest split (Ok t) after next further = record {
  allowed = λ bytes good h. (further t).allowed bytes good (read_more schema bytes left text rest s t line h split (after.taken t refl good h.valid));
  not_no_memory = (further t).not_no_memory;
}
with_line schema s line left text rest split (Err f) after next further = record {
  allowed = λ bytes good h. refused schema bytes left text rest s s line f h split (after.refused f refl good h.valid);
  not_no_memory = not_memory line f (λ e. after.not_no_memory (ap failed e));
}

empty_without_line_end : HasNoByte 10 []
empty_without_line_end k d lt = absurd (omega arith)

from_here : (schema : Schema) (s : Draft) (line : ℕ) (front rest : List ℕ) → HasNoByte 10 front → IsResult schema s line (front ++ rest) (result_from schema s line front rest)
unfolding result_from
from_here schema s line front [] none = subst (λ (left : List ℕ). IsResult schema s line left (result_at_end s line front)) (sym (append-nil front)) (at_end schema s line front none)
from_here schema s line front (c ∷ rest) none =
    by (c == 10) (tells_equal c 10) (λ t. from_here schema t (line + 1) [] rest empty_without_line_end) (from_here schema s line (front ++ c ∷ []) rest)
  where
    by : (ends : Bool) → Tells ends (c ≡ 10) → ((t : Draft) → IsResult schema t (line + 1) rest (result_from schema t (line + 1) [] rest))
        → (HasNoByte 10 (front ++ c ∷ []) → IsResult schema s line ((front ++ c ∷ []) ++ rest) (result_from schema s line (front ++ c ∷ []) rest))
        → IsResult schema s line (front ++ (c ∷ rest))
        (if ends then and_on line (after_line schema s front) (λ t. result_from schema t (line + 1) [] rest) else result_from schema s line (front ++ c ∷ []) rest)
    by true is further longer =
        with_line schema s line (front ++ (c ∷ rest)) front rest (record { first = none; whole = ap (λ (x : ℕ). front ++ (x ∷ rest)) (is.yes refl) }) (after_line schema s front) (is_after schema s front)
        (λ t. result_from schema t (line + 1) [] rest) further
    by false is further longer =
        subst (λ (left : List ℕ). IsResult schema s line left (result_from schema s line (front ++ c ∷ []) rest)) (append_assoc front (c ∷ []) rest)
        (longer (both_without 10 front (c ∷ []) none (front_without 10 c [] (is.no refl) empty_without_line_end)))

abbrev result_of : Schema → List ℕ → Result StatsFile StatsError
result_of schema bytes = result_from schema empty_draft 1 [] bytes

pub result_allowed : (schema : Schema) (bytes : List ℕ) → IsValid schema → FileAnswers schema bytes (result_of schema bytes)
result_allowed schema bytes good = (from_here schema empty_draft 1 [] bytes empty_without_line_end).allowed bytes good begun
  where
    begun : IsRead schema bytes bytes empty_draft 1
    begun = record {
      lines = [];
      whole = refl;
      here = refl;
      within_limit = omega arith;
      valid = refl;
      files = λ file more. (λ k. k, λ k. k);
      texts = λ more. (λ k. k, λ k. k);
    }

pub never_no_memory : (schema : Schema) (bytes : List ℕ) → result_of schema bytes ≢ Err error.NoMemory
never_no_memory schema bytes = (from_here schema empty_draft 1 [] bytes empty_without_line_end).not_no_memory
