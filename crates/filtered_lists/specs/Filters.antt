-- How an entry's own conjuncts combine the answers to their comparisons. Answers are lists, numbers of rows, or tests of a row.
use Rattle.std.specs.Prelude.{ℕ, Bool, true, false, List, [], ◌∷◌, ◌++◌, map, Option, None, Some}
use Rattle.std.specs.List.{filter}
use Rattle.csv_tables.specs.Values.{Value}
use Rattle.query_grammar.specs.declared.tree.Op.{Op}
use Rattle.query_grammar.specs.declared.tree.Op.TheVariants as op
use Rattle.query_types.specs.declared.types.Cond.{Cond}
use Rattle.query_types.specs.declared.types.Cond.TheFolds.{fold-Cond}
use Rattle.query_types.specs.declared.types.Cond.TheOpen.{Cond-F}
use Rattle.query_types.specs.declared.types.Cond.TheOpen as layer
use Rattle.join_graph.specs.Conjuncts.{is_own_conjunct}
use Rattle.filtered_lists.specs.Comparisons.{Comparison, comparison_of, negated_operator}
use Rattle.filtered_lists.specs.Ranges.{Range, from_value, up_to_value, intersection_for_each_column}

-- The answers for all rows of an entry, for the rows with a value in a column, and for the rows in a range of a column. `both` joins two answers of
-- an AND, and `either` joins two answers of an OR. `none` is the OR of no answers
pub record ComparisonAnswers (A : Type 0) : Type 0 where
  pub whole : A
  pub equal : ℕ → Value → A
  pub range : Range → A
  pub both : A → A → A
  pub none : A
  pub either : A → A → A

-- The members of an AND. Each comparison with < <= > >= gives a range with one end. The other members have their answers in `others`
pub record Conjunction (A : Type 0) : Type 0 where
  pub ranges : List Range
  pub others : List A

abbrev pub of_range : {A : Type 0} → Range → Conjunction A
of_range range = record { ranges = range ∷ []; others = [] }

abbrev pub of_answer : {A : Type 0} → A → Conjunction A
of_answer answer = record { ranges = []; others = answer ∷ [] }

-- the members of several ANDs, as one AND
abbrev pub one_conjunction : {A : Type 0} → List (Conjunction A) → Conjunction A
one_conjunction [] = record { ranges = []; others = [] }
one_conjunction (member ∷ members) = record { ranges = member.ranges ++ (one_conjunction members).ranges; others = member.others ++ (one_conjunction members).others }

abbrev pub and_more : {A : Type 0} → ComparisonAnswers A → A → List A → A
and_more answers so_far [] = so_far
and_more answers so_far (x ∷ xs) = and_more answers (answers.both so_far x) xs

-- the answers joined by `both`; the answer for all rows, if there are no answers
abbrev pub all_of : {A : Type 0} → ComparisonAnswers A → List A → A
all_of answers [] = answers.whole
all_of answers (x ∷ xs) = and_more answers x xs

abbrev pub or_more : {A : Type 0} → ComparisonAnswers A → A → List A → A
or_more answers so_far [] = so_far
or_more answers so_far (x ∷ xs) = or_more answers (answers.either so_far x) xs

-- the answers joined by `either`
abbrev pub any_of : {A : Type 0} → ComparisonAnswers A → List A → A
any_of answers xs = or_more answers answers.none xs

-- the answer of an AND: its members' answers joined by `both`, after the ranges of each column are intersected
abbrev pub and_answer : {A : Type 0} → ComparisonAnswers A → Conjunction A → A
and_answer answers members = all_of answers (members.others ++ map answers.range (intersection_for_each_column members.ranges))

-- the answer of an OR: its members' answers joined by `either`
abbrev pub or_answer : {A : Type 0} → ComparisonAnswers A → List (Conjunction A) → A
or_answer answers members = any_of answers (map (and_answer answers) members)

-- a comparison of a column with a literal. <> is the OR of two ranges with one end each, and is intersected with no other range
abbrev pub of_comparison : {A : Type 0} → ComparisonAnswers A → Op → ℕ → Value → Conjunction A
of_comparison answers op.Eq column literal = of_answer (answers.equal column literal)
of_comparison answers op.Ne column literal =
    of_answer (answers.either (answers.range (up_to_value column literal)) (answers.range (from_value column literal)))
of_comparison answers op.Lt column literal = of_range (up_to_value column literal)
of_comparison answers op.Le column literal = of_range (up_to_value column literal)
of_comparison answers op.Gt column literal = of_range (from_value column literal)
of_comparison answers op.Ge column literal = of_range (from_value column literal)

-- a comparison that isn't between a column and a literal has the answer for all rows
abbrev pub of_comparison_or_whole : {A : Type 0} → ComparisonAnswers A → Option Comparison → Conjunction A
of_comparison_or_whole answers None = of_answer answers.whole
of_comparison_or_whole answers (Some c) = of_comparison answers c.op c.column c.literal

-- NOT is pushed down: if the Boolean is false, the opposite of the condition is read. Then AND becomes OR, OR becomes AND, and each comparison
-- becomes its opposite
abbrev pub conjunction_step : {A : Type 0} → ComparisonAnswers A → Cond-F (Bool → Conjunction A) → Bool → Conjunction A
conjunction_step answers (layer.And all) true = one_conjunction (map (λ member. member true) all)
conjunction_step answers (layer.And all) false = of_answer (or_answer answers (map (λ member. member false) all))
conjunction_step answers (layer.Or any) true = of_answer (or_answer answers (map (λ member. member true) any))
conjunction_step answers (layer.Or any) false = one_conjunction (map (λ member. member false) any)
conjunction_step answers (layer.Not inner) true = inner false
conjunction_step answers (layer.Not inner) false = inner true
conjunction_step answers (layer.Compare op left right) true = of_comparison_or_whole answers (comparison_of op left right)
conjunction_step answers (layer.Compare op left right) false = of_comparison_or_whole answers (comparison_of (negated_operator op) left right)

-- the ranges and answers that a condition gives to the AND around it; with `false`, those of its opposite
abbrev pub conjunction_of : {A : Type 0} → ComparisonAnswers A → Cond → Bool → Conjunction A
conjunction_of {A} answers = fold-Cond (Bool → Conjunction A) (conjunction_step answers)

-- the conjuncts that name an entry and no other entry
abbrev pub own_conjuncts : ℕ → List Cond → List Cond
own_conjuncts entry conjuncts = filter (is_own_conjunct entry) conjuncts

-- the answer of the AND of an entry's own conjuncts, joined by `both` with the answer for all rows
abbrev pub filtered : {A : Type 0} → ComparisonAnswers A → ℕ → List Cond → A
filtered answers entry conjuncts =
    answers.both (and_answer answers (one_conjunction (map (λ c. conjunction_of answers c true) (own_conjuncts entry conjuncts)))) answers.whole
