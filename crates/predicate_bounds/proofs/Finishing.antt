-- The loop of `Members::finish`, which adds the steps of an AND's ranges, one range for each column.
use Rattle.std.proofs.Common.{◌≡◌, ℕ, ◌+◌, ◌<◌, Bool, true, false, ◌||◌, eqb, List, [], ◌∷◌, ◌++◌, map, length, take, get_or, ap, sym, ◌∙◌, append_assoc, arith}
use Rattle.std.specs.List.{list_any}
use Rattle.std.proofs.lemmas.List.{append-nil}
use Rattle.std.proofs.Math.Bool.{or-true}
use Rattle.filtered_lists.specs.Ranges.{intersection_of}
use Rattle.predicate_bounds.specs.declared.steps.Range.{Range}
use Rattle.predicate_bounds.specs.declared.steps.Step.{Step}
use Rattle.predicate_bounds.specs.declared.steps.Step.TheVariants as step
use Rattle.predicate_bounds.specs.declared.reading.Members.{Members}
use Rattle.predicate_bounds.specs.Added.{and_if_earlier, is_not_empty, more_steps}
use Rattle.predicate_bounds.specs.Steps.{literal_range_of, range_of, step_answers}
use Rattle.predicate_bounds.proofs.Adding.{more_steps-append, is_not_empty-append}
use Rattle.predicate_bounds.proofs.Narrow.{first_steps, old_column, new_column}

-- the loop has passed the first i ranges: the steps of their columns were added
pub record FinishedSoFar (before : Members) (old : List Step) (now : Members) (new : List Step) (count i : ℕ) : Type 0 where
  pub ranges : now.ranges ≡ before.ranges
  pub len : count ≡ length before.ranges
  pub steps : new ≡ old ++ more_steps before.has_answer (first_steps before.ranges i)
  pub has_answer : now.has_answer ≡ (before.has_answer || is_not_empty (first_steps before.ranges i))

pub finish_known_column : (before now : Members) (old new : List Step) (len i : ℕ) (r : Range) → FinishedSoFar before old now new len i → i < len → r ≡ get_or now.ranges i r
    → list_any (λ range. eqb range.column r.column) (take i now.ranges) ≡ true → FinishedSoFar before old now new len (i + 1)
finish_known_column before now old new len i r h is_below is there =
    let same : first_steps before.ranges (i + 1) ≡ first_steps before.ranges i =
    old_column before.ranges i r (omega (arith, h.len)) (is ∙ ap (λ (rs : List Range). get_or rs i r) h.ranges) (ap (λ (rs : List Range). list_any (λ range. eqb range.column r.column) (take i rs)) (sym h.ranges) ∙ there) in
    record {
      ranges = h.ranges;
      len = h.len;
      steps = h.steps ∙ ap (λ (s : List (List Step)). old ++ more_steps before.has_answer s) (sym same);
      has_answer = h.has_answer ∙ ap (λ (s : List (List Step)). before.has_answer || is_not_empty s) (sym same);
    }

pub finish_new_column : (before now after : Members) (old new mid last : List Step) (len i : ℕ) (r range : Range) → FinishedSoFar before old now new len i → i < len → r ≡ get_or now.ranges i r
    → list_any (λ range. eqb range.column r.column) (take i now.ranges) ≡ false → range ≡ literal_range_of (intersection_of (map range_of now.ranges) r.column)
    → mid ≡ new ++ step.Within range ∷ [] → last ≡ mid ++ and_if_earlier now.has_answer → after.has_answer ≡ true → after.ranges ≡ now.ranges
    → FinishedSoFar before old after last len (i + 1)
finish_new_column before now after old new mid last len i r range h is_below is there one more closed has_answer same =
    let x : List Step = step_answers.range (intersection_of (map range_of before.ranges) r.column) in
    let xs : List (List Step) = first_steps before.ranges i in
    let added : first_steps before.ranges (i + 1) ≡ xs ++ x ∷ [] =
    new_column before.ranges i r (omega (arith, h.len)) (is ∙ ap (λ (rs : List Range). get_or rs i r) h.ranges) (ap (λ (rs : List Range). list_any (λ range. eqb range.column r.column) (take i rs)) (sym h.ranges) ∙ there) in
    let within : step.Within range ∷ [] ≡ x = ap (λ (y : Range). step.Within y ∷ []) (one ∙ ap (λ (rs : List Range). literal_range_of (intersection_of (map range_of rs) r.column)) h.ranges) in
    record {
      ranges = same ∙ h.ranges;
      len = h.len;
      steps = closed ∙ ap (λ (s : List Step). s ++ and_if_earlier now.has_answer) (more ∙ ap (λ (s : List Step). s ++ step.Within range ∷ []) h.steps ∙ ap (λ (s : List Step). (old ++ more_steps before.has_answer xs) ++ s) within)
          ∙ append_assoc (old ++ more_steps before.has_answer xs) x (and_if_earlier now.has_answer) ∙ append_assoc old (more_steps before.has_answer xs) (x ++ and_if_earlier now.has_answer)
          ∙ ap (λ (b : Bool). old ++ (more_steps before.has_answer xs ++ (x ++ and_if_earlier b))) h.has_answer
          ∙ ap (λ (s : List Step). old ++ (more_steps before.has_answer xs ++ (x ++ s))) (sym (append-nil (and_if_earlier (before.has_answer || is_not_empty xs))))
          ∙ ap (λ (s : List Step). old ++ s) (sym (more_steps-append before.has_answer xs (x ∷ [])))
          ∙ ap (λ (s : List (List Step)). old ++ more_steps before.has_answer s) (sym added);
      has_answer = has_answer ∙ sym (ap (λ (s : List (List Step)). before.has_answer || is_not_empty s) added ∙ ap (λ (b : Bool). before.has_answer || b) (is_not_empty-append xs (x ∷ []))
          ∙ ap (λ (b : Bool). before.has_answer || b) (or-true (is_not_empty xs)) ∙ or-true before.has_answer);
    }

-- ---- `finish_known_column` and `finish_new_column`, restated with the loop's variables and tests

there_is : (items : List Range) (i : ℕ) (r : Range) (found told : Bool) → r ≡ get_or items i r → found ≡ list_any (λ range. eqb range.column (get_or items i r).column) (take i items) → found ≡ told
    → (rs : List Range) → items ≡ rs → list_any (λ range. eqb range.column r.column) (take i rs) ≡ told
there_is items i r found told is tests tells rs same =
    ap (λ (s : List Range). list_any (λ range. eqb range.column r.column) (take i s)) (sym same)
    ∙ ap (λ (x : Range). list_any (λ range. eqb range.column x.column) (take i items)) is ∙ sym tests ∙ tells

pub finish_loop_known_column : (before now now' : Members) (old new new' : List Step) (len i : ℕ) (r : Range) (items : List Range) (found : Bool) → FinishedSoFar before old now new len i → i < len
    → items ≡ now.ranges → r ≡ get_or items i r → found ≡ list_any (λ range. eqb range.column (get_or items i r).column) (take i items) → found ≡ true
    → now' ≡ now → new' ≡ new → FinishedSoFar before old now' new' len (i + 1)
finish_loop_known_column before now now' old new new' len i r items found h is_below same is tests tells self steps =
    rw (self, steps) (finish_known_column before now old new len i r h is_below (is ∙ ap (λ (s : List Range). get_or s i r) same) (there_is items i r found true is tests tells now.ranges same))

pub finish_loop_new_column : (before now after now' : Members) (old new mid last new' : List Step) (len i : ℕ) (r range : Range) (items : List Range) (found : Bool) → FinishedSoFar before old now new len i → i < len
    → items ≡ now.ranges → r ≡ get_or items i r → found ≡ list_any (λ range. eqb range.column (get_or items i r).column) (take i items) → found ≡ false
    → range ≡ literal_range_of (intersection_of (map range_of items) (get_or items i r).column)
    → mid ≡ new ++ step.Within range ∷ [] → last ≡ mid ++ and_if_earlier now.has_answer → after.has_answer ≡ true → after.ranges ≡ now.ranges
    → now' ≡ after → new' ≡ last → FinishedSoFar before old now' new' len (i + 1)
finish_loop_new_column before now after now' old new mid last new' len i r range items found h is_below same is tests tells one more closed has_answer kept self steps =
    rw (self, steps) (finish_new_column before now after old new mid last len i r range h is_below (is ∙ ap (λ (s : List Range). get_or s i r) same) (there_is items i r found false is tests tells now.ranges same)
    (one ∙ ap (λ (x : Range). literal_range_of (intersection_of (map range_of items) x.column)) (sym is) ∙ ap (λ (s : List Range). literal_range_of (intersection_of (map range_of s) r.column)) same) more closed has_answer kept)
