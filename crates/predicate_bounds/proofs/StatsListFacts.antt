-- The list and the row bound that an entry's statistics give are `filtered_list` and `row_bound`.
use Rattle.std.proofs.Common.{◌≡◌, ℕ, suc, ◌-◌, ◌^◌, ◌<◌, ◌≤◌, min, true, eqb, leb, leb-true, IsSome, List, [], ◌∷◌, ◌++◌, map, length, drop, get_or, Option, Some, option_map, slice_get, find, sum, refl, ap, sym, ◌∙◌, subst, Result, IfOk, arith}
use Rattle.std.specs.List.{list_all}
use Rattle.std.proofs.Math.Seq.{drop-cons}
use Rattle.std.proofs.lemmas.Bool.{and_parts, eq-eqb}
use Rattle.std.proofs.lemmas.Result.{IfOk-weaker}
use Rattle.degree_sequences.specs.Domination.{DominatesKeys}
use Rattle.query_types.specs.declared.types.Query.{Query}
use Rattle.sql_meaning.specs.Tables.{Tables}
use Rattle.filtered_lists.specs.Filters.{and_answer, one_conjunction, conjunction_of, own_conjuncts}
use Rattle.filtered_lists.specs.Lists.{ColumnLists, RowCounts, list_answers, filtered_list, row_bound}
use Rattle.filtered_lists.specs.Standing.{ListsStandFor, SumTo, scan_of}
use Rattle.filtered_lists.proofs.Counting.{list_dominates, sum_is_enough}
use Rattle.filtered_lists.proofs.Lists.{sum-filtered, sum-lesser}
use Rattle.predicate_bounds.specs.declared.columns.ColumnSteps.{ColumnSteps}
use Rattle.predicate_bounds.specs.declared.columns.QueryStats.{QueryStats}
use Rattle.predicate_bounds.specs.declared.running.ListStep.{ListStep}
use Rattle.predicate_bounds.specs.declared.steps.Step.{Step}
use Rattle.predicate_bounds.specs.declared.steps.Step.TheVariants as step
use Rattle.predicate_bounds.specs.ListRuns.{after_list_steps, is_small, with_list, top_list}
use Rattle.predicate_bounds.specs.Steps.{step_answers}
use Rattle.predicate_bounds.specs.StatsLists.{HasLists, HasRowLists, steps_with_lists, column_steps, columns_of, first_steps, list_on_top, list_in_stats}
use Rattle.predicate_bounds.proofs.Answering.{lists_answer}

-- ---- the search for a column

abbrev pub found : ℕ → List ColumnSteps → Option (List ListStep)
found column items = option_map (λ one. one.steps) (find (λ one. eqb one.column column) items)

pub found_here : (items : List ColumnSteps) (i column : ℕ) (one : ColumnSteps) → i < length items → one ≡ get_or items i one → one.column ≡ column → found column (drop i items) ≡ Some one.steps
found_here items i column one is_below is same =
    ap (found column) (drop-cons items i one is_below ∙ ap (λ (x : ColumnSteps). x ∷ drop (suc i) items) (sym is)) ∙ rw (eq-eqb one.column column same) refl

-- ---- the list that steps leave is the filtered list, which dominates the scanned rows

pub list_from_steps : {E : Type 0} (query : Query) (from : ℕ) (lists : ColumnLists) (steps : List ListStep) (r : Result (List ℕ) E) → steps ≡ steps_with_lists query from lists
    → IfOk r (λ list. list ≡ top_list (after_list_steps steps [])) → IfOk r (λ list. list ≡ filtered_list lists from query.conjuncts)
list_from_steps query from lists steps r is h =
    IfOk-weaker r (λ list. list ≡ top_list (after_list_steps steps [])) (λ list. list ≡ filtered_list lists from query.conjuncts)
    (λ list e. e ∙ ap (λ (s : List ListStep). top_list (after_list_steps s [])) is ∙ ap top_list (lists_answer lists from query.conjuncts)) h

pub list_from_steps_dominates : {E : Type 0} (query : Query) (from : ℕ) (lists : ColumnLists) (tables : Tables) (key : ℕ → ℕ) (r : Result (List ℕ) E) → ListsStandFor lists tables from key
    → IfOk r (λ list. list ≡ filtered_list lists from query.conjuncts) → IfOk r (λ list. DominatesKeys list (map key (scan_of tables from query.conjuncts)))
list_from_steps_dominates query from lists tables key r stands h =
    IfOk-weaker r (λ list. list ≡ filtered_list lists from query.conjuncts) (λ list. DominatesKeys list (map key (scan_of tables from query.conjuncts)))
    (λ list e. subst (λ (s : List ℕ). DominatesKeys s (map key (scan_of tables from query.conjuncts))) (sym e) (list_dominates lists tables from key query.conjuncts stands)) h

equal_if_both_some : (steps asked : List ListStep) (o : Option (List ListStep)) → o ≡ Some steps → o ≡ Some asked → steps ≡ asked
equal_if_both_some steps asked o h k = cc

pub list_answer : {E : Type 0} (query : Query) (stats : QueryStats) (from column : ℕ) (lists : ColumnLists) (steps : List ListStep) (r : Result (List ℕ) E)
    → column_steps stats from column ≡ Some steps → HasLists query stats from column lists
    → IfOk r (λ list. list ≡ top_list (after_list_steps steps [])) → IfOk r (λ list. list ≡ filtered_list lists from query.conjuncts)
list_answer query stats from column lists steps r here tells h =
    list_from_steps query from lists steps r (equal_if_both_some steps (steps_with_lists query from lists) (column_steps stats from column) here tells) h

pub list_here : {E : Type 0} (stats : QueryStats) (from column : ℕ) (steps : List ListStep) (r : Result (List ℕ) E) → column_steps stats from column ≡ Some steps
    → IfOk r (λ list. list ≡ top_list (after_list_steps steps [])) → IfOk r (λ list. list ≡ list_in_stats stats from column)
list_here stats from column steps r here h =
    IfOk-weaker r (λ list. list ≡ top_list (after_list_steps steps [])) (λ list. list ≡ list_in_stats stats from column)
    (λ list e. e ∙ sym (ap list_on_top here)) h

-- ---- the row bound

whole_list_among_steps : (lists : ColumnLists) (xs : List Step) → list_all is_small (map (with_list lists) (xs ++ (step.Whole ∷ (step.And ∷ [])))) ≡ true → sum lists.whole ≤ 2 ^ 32
whole_list_among_steps lists [] h = leb-true (sum lists.whole) (2 ^ 32) (and_parts (leb (sum lists.whole) (2 ^ 32)) true h).0
whole_list_among_steps lists (x ∷ xs) h = whole_list_among_steps lists xs (and_parts (is_small (with_list lists x)) (list_all is_small (map (with_list lists) (xs ++ (step.Whole ∷ (step.And ∷ []))))) h).1

whole_is_small : (query : Query) (from : ℕ) (lists : ColumnLists) (steps : List ListStep) → steps ≡ steps_with_lists query from lists → list_all is_small steps ≡ true → sum lists.whole ≤ 2 ^ 32
whole_is_small query from lists steps is h =
    whole_list_among_steps lists (and_answer step_answers (one_conjunction (map (λ c. conjunction_of step_answers c true) (own_conjuncts from query.conjuncts)))) (ap (list_all is_small) (sym is) ∙ h)

-- the filtered list sums to at most 2^32, so that `min` with 2^64 - 1 changes nothing
filtered_rows_fit : (query : Query) (from : ℕ) (lists : ColumnLists) (steps : List ListStep) → steps ≡ steps_with_lists query from lists → list_all is_small steps ≡ true
    → sum (filtered_list lists from query.conjuncts) ≤ 2 ^ 32
filtered_rows_fit query from lists steps is small =
    omega (arith, whole_is_small query from lists steps is small, sum-lesser (and_answer (list_answers lists) (one_conjunction (map (λ c. conjunction_of (list_answers lists) c true) (own_conjuncts from query.conjuncts)))) lists.whole)

pub rows_from_steps : (query : Query) (stats : QueryStats) (from : ℕ) (lists : ColumnLists) (steps : List ListStep) (list : List ℕ) (rows : ℕ) → first_steps stats from ≡ Some steps → HasRowLists query stats from lists
    → list_all is_small steps ≡ true → list ≡ top_list (after_list_steps steps []) → rows ≡ min (sum list) (2 ^ 64 - 1) → rows ≡ sum (filtered_list lists from query.conjuncts)
rows_from_steps query stats from lists steps list rows here tells small left is =
    let asked : steps ≡ steps_with_lists query from lists = equal_if_both_some steps (steps_with_lists query from lists) (first_steps stats from) here tells in
    let same : list ≡ filtered_list lists from query.conjuncts =
    left ∙ ap (λ (s : List ListStep). top_list (after_list_steps s [])) asked ∙ ap top_list (lists_answer lists from query.conjuncts) in
    omega (arith, is, ap sum same, filtered_rows_fit query from lists steps asked small)

pub counted_rows : (query : Query) (from : ℕ) (lists : ColumnLists) (counts : RowCounts) (rows : ℕ) → SumTo lists counts → rows ≡ sum (filtered_list lists from query.conjuncts)
    → rows ≡ row_bound counts from query.conjuncts
counted_rows query from lists counts rows sums is = is ∙ sum-filtered lists counts from query.conjuncts sums

pub row_bound_at_least_scan : (query : Query) (from : ℕ) (lists : ColumnLists) (tables : Tables) (key : ℕ → ℕ) (rows : ℕ) → ListsStandFor lists tables from key → rows ≡ sum (filtered_list lists from query.conjuncts)
    → length (scan_of tables from query.conjuncts) ≤ rows
row_bound_at_least_scan query from lists tables key rows stands is = omega (arith, sum_is_enough lists tables from key query.conjuncts stands, is)

pub first_here : (stats : QueryStats) (from : ℕ) (items : List ColumnSteps) (one : ColumnSteps) (steps : List ListStep) → items ≡ columns_of stats from → IsSome (first_steps stats from)
    → one ≡ get_or items 0 one → steps ≡ one.steps → first_steps stats from ≡ Some steps
first_here stats from items one steps same known is these =
    ap (λ (s : List ColumnSteps). option_map (λ (x : ColumnSteps). x.steps) (slice_get s 0)) (sym same)
    ∙ first items one (subst (λ (s : List ColumnSteps). IsSome (option_map (λ (x : ColumnSteps). x.steps) (slice_get s 0))) (sym same) known) is ∙ ap Some (sym these)
  where
    first : (items : List ColumnSteps) (one : ColumnSteps) → IsSome (option_map (λ (x : ColumnSteps). x.steps) (slice_get items 0)) → one ≡ get_or items 0 one
        → option_map (λ (x : ColumnSteps). x.steps) (slice_get items 0) ≡ Some one.steps
    first [] one known is = absurd (cc)
    first (x ∷ items) one known is = ap (λ (y : ColumnSteps). Some y.steps) (sym is)
