-- The steps of an AND and of an OR are added member by member. After each member the steps are the steps of the definition.
use Rattle.std.proofs.Common.{◌≡◌, ℕ, ◌+◌, ◌<◌, Bool, true, false, ◌||◌, List, [], ◌∷◌, ◌++◌, map, length, take, get_or, refl, ap, sym, ◌∙◌, subst, append_assoc}
use Rattle.std.proofs.lemmas.List.{take_more, map-append}
use Rattle.std.proofs.Math.Bool.{or-true, or-false}
use Rattle.query_types.specs.declared.types.Cond.{Cond}
use Rattle.filtered_lists.specs.Filters.{Conjunction, and_answer, and_more, all_of, or_more, or_answer, one_conjunction, of_answer}
use Rattle.filtered_lists.specs.Ranges as ranges
use Rattle.filtered_lists.specs.Ranges.{intersection_for_each_column}
use Rattle.predicate_bounds.specs.declared.steps.Range.{Range}
use Rattle.predicate_bounds.specs.declared.steps.Step.{Step}
use Rattle.predicate_bounds.specs.declared.steps.Step.TheVariants as step
use Rattle.predicate_bounds.specs.declared.reading.Members.{Members}
use Rattle.predicate_bounds.specs.Added.{IsConjunctionAdded, and_if_earlier, range_steps, is_not_empty, last_steps, more_steps}
use Rattle.predicate_bounds.specs.Steps.{literal_range_of, range_of, step_answers}
use Rattle.predicate_bounds.proofs.Literals.{ranges_of_ranges_in}

append_nil : (s : List Step) → s ++ [] ≡ s
append_nil [] = refl
append_nil (x ∷ s) = ap (λ (t : List Step). x ∷ t) (append_nil s)

-- ---- the steps of two lists of members, one after the other

pub more_steps-append : (has_answer : Bool) (xs ys : List (List Step)) → more_steps has_answer (xs ++ ys) ≡ more_steps has_answer xs ++ more_steps (has_answer || is_not_empty xs) ys
more_steps-append has_answer [] ys = ap (λ (b : Bool). more_steps b ys) (sym (or-false has_answer))
more_steps-append has_answer (x ∷ xs) ys =
    rw (more_steps-append true xs ys, or-true has_answer)
    (ap (λ (t : List Step). x ++ t) (sym (append_assoc (and_if_earlier has_answer) (more_steps true xs) (more_steps true ys)))
    ∙ sym (append_assoc x (and_if_earlier has_answer ++ more_steps true xs) (more_steps true ys)))

pub is_not_empty-append : (xs ys : List (List Step)) → is_not_empty (xs ++ ys) ≡ (is_not_empty xs || is_not_empty ys)
is_not_empty-append [] ys = refl
is_not_empty-append (x ∷ xs) ys = refl

and_more_steps : (so_far : List Step) (xs : List (List Step)) → and_more step_answers so_far xs ≡ so_far ++ more_steps true xs
and_more_steps so_far [] = sym (append_nil so_far)
and_more_steps so_far (x ∷ xs) =
    and_more_steps (so_far ++ (x ++ step.And ∷ [])) xs ∙ append_assoc so_far (x ++ step.And ∷ []) (more_steps true xs)
    ∙ ap (λ (t : List Step). so_far ++ t) (append_assoc x (step.And ∷ []) (more_steps true xs))

pub last_true : (ys : List (List Step)) → last_steps true ys ≡ more_steps true ys
last_true [] = refl
last_true (y ∷ ys) = refl

-- `ys` has the steps of the AND's ranges, which come last
all_steps : (xs ys : List (List Step)) → all_of step_answers (xs ++ ys) ≡ more_steps false xs ++ last_steps (is_not_empty xs) ys
all_steps [] [] = refl
all_steps [] (y ∷ ys) = and_more_steps y ys
all_steps (x ∷ xs) ys =
    and_more_steps x (xs ++ ys) ∙ ap (λ (t : List Step). x ++ t) (more_steps-append true xs ys)
    ∙ sym (append_assoc x (more_steps true xs) (more_steps true ys)) ∙ ap (λ (t : List Step). (x ++ more_steps true xs) ++ t) (sym (last_true ys))

-- ---- the members of one more conjunction

pub or_assoc : (a b c : Bool) → ((a || b) || c) ≡ (a || (b || c))
or_assoc true b c = refl
or_assoc false b c = refl

abbrev pub both_conjunctions : Conjunction (List Step) → Conjunction (List Step) → Conjunction (List Step)
both_conjunctions x y = record { ranges = x.ranges ++ y.ranges; others = x.others ++ y.others }

pub conjunctions_added : (before between after : Members) (old mid new : List Step) (x y : Conjunction (List Step))
    → IsConjunctionAdded before old between mid x → IsConjunctionAdded between mid after new y → IsConjunctionAdded before old after new (both_conjunctions x y)
conjunctions_added before between after old mid new x y h k = record {
  steps = k.steps ∙ ap (λ (s : List Step). s ++ more_steps between.has_answer y.others) h.steps ∙ append_assoc old (more_steps before.has_answer x.others) (more_steps between.has_answer y.others)
      ∙ ap (λ (b : Bool). old ++ (more_steps before.has_answer x.others ++ more_steps b y.others)) h.has_answer ∙ ap (λ (s : List Step). old ++ s) (sym (more_steps-append before.has_answer x.others y.others));
  ranges = k.ranges ∙ ap (λ (s : List Range). s ++ map literal_range_of y.ranges) h.ranges ∙ append_assoc before.ranges (map literal_range_of x.ranges) (map literal_range_of y.ranges)
      ∙ ap (λ (s : List Range). before.ranges ++ s) (sym (map-append literal_range_of x.ranges y.ranges));
  has_answer = k.has_answer ∙ ap (λ (b : Bool). b || is_not_empty y.others) h.has_answer ∙ or_assoc before.has_answer (is_not_empty x.others) (is_not_empty y.others) ∙ ap (λ (b : Bool). before.has_answer || b) (sym (is_not_empty-append x.others y.others));
}

pub one_conjunction_push : (cs : List (Conjunction (List Step))) (c : Conjunction (List Step)) → one_conjunction (cs ++ c ∷ []) ≡ both_conjunctions (one_conjunction cs) c
one_conjunction_push [] c = ap (λ (s : List ranges.Range). record { ranges = s; others = c.others ++ [] }) (nil c.ranges) ∙ ap (λ (s : List (List Step)). record { ranges = c.ranges; others = s }) (nils c.others)
  where
    nil : (s : List ranges.Range) → s ++ [] ≡ s
    nil [] = refl
    nil (x ∷ s) = ap (λ (t : List ranges.Range). x ∷ t) (nil s)

    nils : (s : List (List Step)) → s ++ [] ≡ s
    nils [] = refl
    nils (x ∷ s) = ap (λ (t : List (List Step)). x ∷ t) (nils s)
one_conjunction_push (d ∷ cs) c =
    rw (one_conjunction_push cs c)
    (ap (λ (s : List ranges.Range). record { ranges = s; others = d.others ++ ((one_conjunction cs).others ++ c.others) }) (sym (append_assoc d.ranges (one_conjunction cs).ranges c.ranges))
    ∙ ap (λ (s : List (List Step)). record { ranges = (d.ranges ++ (one_conjunction cs).ranges) ++ c.ranges; others = s }) (sym (append_assoc d.others (one_conjunction cs).others c.others)))

pub add_each_step : (f : Cond → Conjunction (List Step)) (conds : List Cond) (i : ℕ) (cond : Cond) (before between after : Members) (old mid new : List Step)
    → i < length conds → cond ≡ get_or conds i cond
    → IsConjunctionAdded before old between mid (one_conjunction (map f (take i conds))) → IsConjunctionAdded between mid after new (f cond) → IsConjunctionAdded before old after new (one_conjunction (map f (take (i + 1) conds)))
add_each_step f conds i cond before between after old mid new is_below is h k =
    let front : take (i + 1) conds ≡ take i conds ++ cond ∷ [] = take_more conds i cond is_below ∙ ap (λ (c : Cond). take i conds ++ c ∷ []) (sym is) in
    subst (IsConjunctionAdded before old after new)
    (sym (one_conjunction_push (map f (take i conds)) (f cond)) ∙ ap one_conjunction (sym (map-append f (take i conds) (cond ∷ [])) ∙ ap (map f) (sym front)))
    (conjunctions_added before between after old mid new (one_conjunction (map f (take i conds))) (f cond) h k)

pub answer_added : (before after : Members) (old mid new x : List Step) → mid ≡ old ++ x → new ≡ mid ++ and_if_earlier before.has_answer → after.has_answer ≡ true → after.ranges ≡ before.ranges
    → IsConjunctionAdded before old after new (of_answer x)
answer_added before after old mid new x is closed has_answer same = record {
  steps = closed ∙ ap (λ (s : List Step). s ++ and_if_earlier before.has_answer) is ∙ append_assoc old x (and_if_earlier before.has_answer) ∙ ap (λ (s : List Step). old ++ (x ++ s)) (sym (append_nil (and_if_earlier before.has_answer)));
  ranges = same ∙ sym (nil before.ranges);
  has_answer = has_answer ∙ sym (or-true before.has_answer);
}
  where
    nil : (s : List Range) → s ++ [] ≡ s
    nil [] = refl
    nil (y ∷ s) = ap (λ (t : List Range). y ∷ t) (nil s)

-- ---- if an AND has only the members of this conjunction and was ended, its steps are those of the conjunction's answer

pub answer_steps : (none after : Members) (old mid new : List Step) (c : Conjunction (List Step)) → none.has_answer ≡ false → none.ranges ≡ []
    → IsConjunctionAdded none old after mid c → new ≡ mid ++ range_steps after.has_answer after.ranges → new ≡ old ++ and_answer step_answers c
answer_steps none after old mid new c fresh empty h closed =
    let has_answer : after.has_answer ≡ is_not_empty c.others = h.has_answer ∙ ap (λ (b : Bool). b || is_not_empty c.others) fresh in
    let same_ranges : map range_of after.ranges ≡ c.ranges = ap (map range_of) (h.ranges ∙ ap (λ (s : List Range). s ++ map literal_range_of c.ranges) empty) ∙ ranges_of_ranges_in c.ranges in
    let steps : mid ≡ old ++ more_steps false c.others = h.steps ∙ ap (λ (b : Bool). old ++ more_steps b c.others) fresh in
    closed ∙ ap (λ (s : List Step). s ++ range_steps after.has_answer after.ranges) steps
    ∙ ap (λ (b : Bool). (old ++ more_steps false c.others) ++ range_steps b after.ranges) has_answer
    ∙ ap (λ (rs : List ranges.Range). (old ++ more_steps false c.others) ++ last_steps (is_not_empty c.others) (map step_answers.range (intersection_for_each_column rs))) same_ranges
    ∙ append_assoc old (more_steps false c.others) (last_steps (is_not_empty c.others) (map step_answers.range (intersection_for_each_column c.ranges)))
    ∙ ap (λ (s : List Step). old ++ s) (sym (all_steps c.others (map step_answers.range (intersection_for_each_column c.ranges))))

-- ---- the steps of an OR: NoRows, and then for each member its steps and Or

abbrev pub or_steps : List (List Step) → List Step
or_steps [] = []
or_steps (x ∷ xs) = x ++ (step.Or ∷ or_steps xs)

or_more_steps : (so_far : List Step) (xs : List (List Step)) → or_more step_answers so_far xs ≡ so_far ++ or_steps xs
or_more_steps so_far [] = sym (append_nil so_far)
or_more_steps so_far (x ∷ xs) =
    or_more_steps (so_far ++ (x ++ step.Or ∷ [])) xs ∙ append_assoc so_far (x ++ step.Or ∷ []) (or_steps xs)
    ∙ ap (λ (t : List Step). so_far ++ t) (append_assoc x (step.Or ∷ []) (or_steps xs))

or_steps_more : (xs : List (List Step)) (x : List Step) → or_steps (xs ++ x ∷ []) ≡ or_steps xs ++ (x ++ step.Or ∷ [])
or_steps_more [] x = refl
or_steps_more (y ∷ xs) x =
    rw (or_steps_more xs x) (sym (append_assoc y (step.Or ∷ or_steps xs) (x ++ step.Or ∷ [])))

pub add_any_step : (f : Cond → List Step) (conds : List Cond) (i : ℕ) (cond : Cond) (old mid next new : List Step) → i < length conds → cond ≡ get_or conds i cond
    → mid ≡ old ++ or_steps (map f (take i conds)) → next ≡ mid ++ f cond → new ≡ next ++ step.Or ∷ [] → new ≡ old ++ or_steps (map f (take (i + 1) conds))
add_any_step f conds i cond old mid next new is_below is so_far more last =
    let front : take (i + 1) conds ≡ take i conds ++ cond ∷ [] = take_more conds i cond is_below ∙ ap (λ (c : Cond). take i conds ++ c ∷ []) (sym is) in
    last ∙ ap (λ (s : List Step). s ++ step.Or ∷ []) more ∙ append_assoc mid (f cond) (step.Or ∷ []) ∙ ap (λ (s : List Step). s ++ (f cond ++ step.Or ∷ [])) so_far
    ∙ append_assoc old (or_steps (map f (take i conds))) (f cond ++ step.Or ∷ [])
    ∙ ap (λ (s : List Step). old ++ s) (sym (or_steps_more (map f (take i conds)) (f cond)))
    ∙ ap (λ (s : List (List Step)). old ++ or_steps s) (sym (map-append f (take i conds) (cond ∷ [])) ∙ ap (map f) (sym front))

pub or_answer_steps : (old mid new : List Step) (cs : List (Conjunction (List Step))) → mid ≡ old ++ step.NoRows ∷ [] → new ≡ mid ++ or_steps (map (and_answer step_answers) cs)
    → new ≡ old ++ or_answer step_answers cs
or_answer_steps old mid new cs first all =
    all ∙ ap (λ (s : List Step). s ++ or_steps (map (and_answer step_answers) cs)) first ∙ append_assoc old (step.NoRows ∷ []) (or_steps (map (and_answer step_answers) cs))
    ∙ ap (λ (s : List Step). old ++ s) (sym (or_more_steps (step.NoRows ∷ []) (map (and_answer step_answers) cs)))
