-- The steps that the members of an AND add, one member after another. Steps run over a stack of answers (see Steps).
use Rattle.std.specs.Prelude.{◌≡◌, Bool, true, false, ◌||◌, List, [], ◌∷◌, ◌++◌, map}
use Rattle.filtered_lists.specs.Filters.{Conjunction}
use Rattle.filtered_lists.specs.Ranges.{intersection_for_each_column}
use Rattle.predicate_bounds.specs.declared.steps.Range.{Range}
use Rattle.predicate_bounds.specs.declared.steps.Step.{Step}
use Rattle.predicate_bounds.specs.declared.steps.Step.TheVariants as step
use Rattle.predicate_bounds.specs.declared.reading.Members.{Members}
use Rattle.predicate_bounds.specs.Steps.{range_of, literal_range_of}

-- the steps that follow a member's steps. If an earlier member has left an answer on the stack, this is And; otherwise it is no step
abbrev pub and_if_earlier : Bool → List Step
and_if_earlier false = []
and_if_earlier true = step.And ∷ []

-- the steps of members, where `has_answer` says whether a member before them has left an answer on the stack
abbrev pub more_steps : Bool → List (List Step) → List Step
more_steps has_answer [] = []
more_steps has_answer (steps ∷ members) = steps ++ (and_if_earlier has_answer ++ more_steps true members)

abbrev pub is_not_empty : {A : Type 0} → List A → Bool
is_not_empty [] = false
is_not_empty (x ∷ xs) = true

-- The members of conjunction `c` were added to the members of an AND. The ranges of `c` come after the earlier ranges. The steps of the other
-- members of `c` come after the old steps
pub record IsConjunctionAdded (before : Members) (old : List Step) (after : Members) (new : List Step) (c : Conjunction (List Step)) : Type 0 where
  pub steps : new ≡ old ++ more_steps before.has_answer c.others
  pub ranges : after.ranges ≡ before.ranges ++ map literal_range_of c.ranges
  pub has_answer : after.has_answer ≡ (before.has_answer || is_not_empty c.others)

-- the steps that end an AND. The list has the steps of one range for each column that has ranges. An AND without a member lets every row pass: its
-- step is Whole
abbrev pub last_steps : Bool → List (List Step) → List Step
last_steps false [] = step.Whole ∷ []
last_steps true [] = []
last_steps has_answer (steps ∷ members) = more_steps has_answer (steps ∷ members)

-- the steps that end an AND with these ranges. Ranges of one column become one range first
abbrev pub range_steps : Bool → List Range → List Step
range_steps has_answer ranges = last_steps has_answer (map (λ range. step.Within (literal_range_of range) ∷ []) (intersection_for_each_column (map range_of ranges)))
