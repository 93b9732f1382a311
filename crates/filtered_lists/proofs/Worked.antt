-- The worked examples are proved by computation.
use Rattle.std.proofs.Common.{◌≡◌, ℕ, Bool, true, false, List, [], ◌∷◌, ◌++◌, None, Some, refl, ap}
use Rattle.degree_sequences.specs.ByRank.{rank_sum}
use Rattle.degree_sequences.specs.RunningSums.{lesser}
use Rattle.entry_sets.specs.Naming.{is_only_named}
use Rattle.query_grammar.specs.declared.tree.Op.{Op}
use Rattle.query_grammar.specs.declared.tree.Op.TheVariants as op
use Rattle.query_types.specs.declared.types.Operand.{Operand}
use Rattle.query_types.specs.declared.types.Cond.{Cond, And, Or, Not, Compare}
use Rattle.query_types.specs.declared.types.Cond.TheOpen as layer
use Rattle.query_types.specs.Named.{entries_of_operand}
use Rattle.query_types.proofs.CondFacts.{entries_and, entries_or, entries_not, entries_compare}
use Rattle.filtered_lists.specs.Examples.{column_x, column_y, list_where, number, range_x, range_y, six_rows, value, x_is, y_is}
use Rattle.filtered_lists.specs.Lists.{ColumnLists, list_answers}
use Rattle.filtered_lists.specs.Filters.{Conjunction, and_answer, one_conjunction, conjunction_of, conjunction_step}
use Rattle.filtered_lists.proofs.Parts.{conjunction_of_and, conjunction_of_or, conjunction_of_not, conjunction_of_compare}

-- `list_of_own_comparison` and `list_of_other_comparison` are the two cases of a single comparison: it names only entry 0, or it doesn't
pub list_of_own_comparison : (lists : ColumnLists) (o : Op) (left right : Operand) → is_only_named (entries_of_operand left ++ entries_of_operand right) 0 ≡ true
    → list_where lists (Compare o left right) ≡ lesser (and_answer (list_answers lists) (one_conjunction (conjunction_step (list_answers lists) (layer.Compare o left right) true ∷ []))) lists.whole
list_of_own_comparison lists o left right named = rw (entries_compare o left right, named, conjunction_of_compare (list_answers lists) o left right true) refl

pub list_of_other_comparison : (lists : ColumnLists) (o : Op) (left right : Operand) → is_only_named (entries_of_operand left ++ entries_of_operand right) 0 ≡ false
    → list_where lists (Compare o left right) ≡ lesser lists.whole lists.whole
list_of_other_comparison lists o left right named = rw (entries_compare o left right, named) refl

module _ (lists : ColumnLists) where
  x_of : (o : Op) (n : ℕ) (holds : Bool) → conjunction_of (list_answers lists) (x_is o n) holds ≡ conjunction_step (list_answers lists) (layer.Compare o column_x (number n)) holds
  x_of o n holds = conjunction_of_compare (list_answers lists) o column_x (number n) holds

  y_of : (o : Op) (n : ℕ) (holds : Bool) → conjunction_of (list_answers lists) (y_is o n) holds ≡ conjunction_step (list_answers lists) (layer.Compare o column_y (number n)) holds
  y_of o n holds = conjunction_of_compare (list_answers lists) o column_y (number n) holds

  pub not_at_least : list_where lists (Not (x_is op.Ge 5)) ≡ lesser (lists.range (range_x None (Some (value 5)))) lists.whole
  not_at_least = rw (entries_not (x_is op.Ge 5), entries_compare op.Ge column_x (number 5), conjunction_of_not (list_answers lists) (x_is op.Ge 5) true, x_of op.Ge 5 false) refl

  pub ends_swapped : list_where lists (And (x_is op.Gt 5 ∷ x_is op.Lt 2 ∷ [])) ≡ lesser (lists.range (range_x (Some (value 5)) (Some (value 2)))) lists.whole
  ends_swapped = rw (
    entries_and (x_is op.Gt 5 ∷ x_is op.Lt 2 ∷ []),
    entries_compare op.Gt column_x (number 5),
    entries_compare op.Lt column_x (number 2),
    conjunction_of_and (list_answers lists) (x_is op.Gt 5 ∷ x_is op.Lt 2 ∷ []) true,
    x_of op.Gt 5 true,
    x_of op.Lt 2 true,
  ) refl

  pub greatest_low : list_where lists (And (x_is op.Ge 3 ∷ x_is op.Gt 1 ∷ [])) ≡ lesser (lists.range (range_x (Some (value 3)) None)) lists.whole
  greatest_low = rw (
    entries_and (x_is op.Ge 3 ∷ x_is op.Gt 1 ∷ []),
    entries_compare op.Ge column_x (number 3),
    entries_compare op.Gt column_x (number 1),
    conjunction_of_and (list_answers lists) (x_is op.Ge 3 ∷ x_is op.Gt 1 ∷ []) true,
    x_of op.Ge 3 true,
    x_of op.Gt 1 true,
  ) refl

  abbrev both_columns : Cond
  both_columns = And (x_is op.Gt 1 ∷ y_is op.Lt 2 ∷ [])

  both_ranges : conjunction_of (list_answers lists) both_columns true ≡ record { ranges = range_x (Some (value 1)) None ∷ range_y None (Some (value 2)) ∷ []; others = [] }
  both_ranges = rw (conjunction_of_and (list_answers lists) (x_is op.Gt 1 ∷ y_is op.Lt 2 ∷ []) true, x_of op.Gt 1 true, y_of op.Lt 2 true) refl

  pub two_columns : list_where lists both_columns ≡ lesser (lesser (lists.range (range_x (Some (value 1)) None)) (lists.range (range_y None (Some (value 2))))) lists.whole
  two_columns = rw (entries_and (x_is op.Gt 1 ∷ y_is op.Lt 2 ∷ []), entries_compare op.Gt column_x (number 1), entries_compare op.Lt column_y (number 2))
      (ap (λ (c : Conjunction (List ℕ)). lesser (and_answer (list_answers lists) (one_conjunction (c ∷ []))) lists.whole) both_ranges)

  pub literals : list_where lists (And (Compare op.Eq (number 2) (number 2) ∷ x_is op.Eq 1 ∷ [])) ≡ lesser (lesser lists.whole (lists.equal 0 (value 1))) lists.whole
  literals = rw (
    entries_and (Compare op.Eq (number 2) (number 2) ∷ x_is op.Eq 1 ∷ []),
    entries_compare op.Eq (number 2) (number 2),
    entries_compare op.Eq column_x (number 1),
    conjunction_of_and (list_answers lists) (Compare op.Eq (number 2) (number 2) ∷ x_is op.Eq 1 ∷ []) true,
    conjunction_of_compare (list_answers lists) op.Eq (number 2) (number 2) true,
    x_of op.Eq 1 true,
  ) refl

  abbrev between_inner : Cond
  between_inner = And (x_is op.Ge 2 ∷ x_is op.Le 4 ∷ [])

  pub between : list_where lists (And (between_inner ∷ x_is op.Ne 3 ∷ []))
      ≡ lesser (lesser (rank_sum (lists.range (range_x None (Some (value 3)))) (lists.range (range_x (Some (value 3)) None))) (lists.range (range_x (Some (value 2)) (Some (value 4))))) lists.whole
  between = rw (
    entries_and (between_inner ∷ x_is op.Ne 3 ∷ []),
    entries_and (x_is op.Ge 2 ∷ x_is op.Le 4 ∷ []),
    entries_compare op.Ge column_x (number 2),
    entries_compare op.Le column_x (number 4),
    entries_compare op.Ne column_x (number 3),
    conjunction_of_and (list_answers lists) (between_inner ∷ x_is op.Ne 3 ∷ []) true,
    conjunction_of_and (list_answers lists) (x_is op.Ge 2 ∷ x_is op.Le 4 ∷ []) true,
    x_of op.Ge 2 true,
    x_of op.Le 4 true,
    x_of op.Ne 3 true,
  ) refl

  abbrev either_inner : Cond
  either_inner = Or (x_is op.Eq 2 ∷ y_is op.Eq 3 ∷ [])

  pub nested : list_where lists (Or (And (x_is op.Eq 1 ∷ either_inner ∷ []) ∷ x_is op.Eq 4 ∷ []))
      ≡ lesser (rank_sum (lesser (lists.equal 0 (value 1)) (rank_sum (lists.equal 0 (value 2)) (lists.equal 1 (value 3)))) (lists.equal 0 (value 4))) lists.whole
  nested = rw (
    entries_or (And (x_is op.Eq 1 ∷ either_inner ∷ []) ∷ x_is op.Eq 4 ∷ []),
    entries_and (x_is op.Eq 1 ∷ either_inner ∷ []),
    entries_or (x_is op.Eq 2 ∷ y_is op.Eq 3 ∷ []),
    entries_compare op.Eq column_x (number 1),
    entries_compare op.Eq column_x (number 2),
    entries_compare op.Eq column_y (number 3),
    entries_compare op.Eq column_x (number 4),
    conjunction_of_or (list_answers lists) (And (x_is op.Eq 1 ∷ either_inner ∷ []) ∷ x_is op.Eq 4 ∷ []) true,
    conjunction_of_and (list_answers lists) (x_is op.Eq 1 ∷ either_inner ∷ []) true,
    conjunction_of_or (list_answers lists) (x_is op.Eq 2 ∷ y_is op.Eq 3 ∷ []) true,
    x_of op.Eq 1 true,
    x_of op.Eq 2 true,
    y_of op.Eq 3 true,
    x_of op.Eq 4 true,
  ) refl

  pub not_and : list_where lists (Not (And (x_is op.Eq 1 ∷ y_is op.Lt 2 ∷ [])))
      ≡ lesser (rank_sum (rank_sum (lists.range (range_x None (Some (value 1)))) (lists.range (range_x (Some (value 1)) None))) (lists.range (range_y (Some (value 2)) None))) lists.whole
  not_and = rw (
    entries_not (And (x_is op.Eq 1 ∷ y_is op.Lt 2 ∷ [])),
    entries_and (x_is op.Eq 1 ∷ y_is op.Lt 2 ∷ []),
    entries_compare op.Eq column_x (number 1),
    entries_compare op.Lt column_y (number 2),
    conjunction_of_not (list_answers lists) (And (x_is op.Eq 1 ∷ y_is op.Lt 2 ∷ [])) true,
    conjunction_of_and (list_answers lists) (x_is op.Eq 1 ∷ y_is op.Lt 2 ∷ []) false,
    x_of op.Eq 1 false,
    y_of op.Lt 2 false,
  ) refl

pub thrice : list_where six_rows (Or (x_is op.Eq 1 ∷ x_is op.Eq 1 ∷ x_is op.Eq 1 ∷ [])) ≡ 3 ∷ 3 ∷ []
thrice = rw (
  entries_or (x_is op.Eq 1 ∷ x_is op.Eq 1 ∷ x_is op.Eq 1 ∷ []),
  entries_compare op.Eq column_x (number 1),
  conjunction_of_or (list_answers six_rows) (x_is op.Eq 1 ∷ x_is op.Eq 1 ∷ x_is op.Eq 1 ∷ []) true,
  x_of six_rows op.Eq 1 true,
) refl

pub not_in : list_where six_rows (Not (Or (x_is op.Eq 1 ∷ x_is op.Eq 3 ∷ []))) ≡ 3 ∷ 3 ∷ []
not_in = rw (
  entries_not (Or (x_is op.Eq 1 ∷ x_is op.Eq 3 ∷ [])),
  entries_or (x_is op.Eq 1 ∷ x_is op.Eq 3 ∷ []),
  entries_compare op.Eq column_x (number 1),
  entries_compare op.Eq column_x (number 3),
  conjunction_of_not (list_answers six_rows) (Or (x_is op.Eq 1 ∷ x_is op.Eq 3 ∷ [])) true,
  conjunction_of_or (list_answers six_rows) (x_is op.Eq 1 ∷ x_is op.Eq 3 ∷ []) false,
  x_of six_rows op.Eq 1 false,
  x_of six_rows op.Eq 3 false,
) refl
