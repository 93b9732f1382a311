-- What the statistics of a query say of its entries: a list for each joined column, and a row bound.
use Rattle.std.specs.Prelude.{◌≡◌, ℕ, ◌-◌, ◌^◌, ◌==◌, min, List, [], map, Option, None, Some, option_map, slice_get, slice_index_or, find}
use Rattle.std.specs.List.{sum}
use Rattle.query_types.specs.declared.types.Query.{Query}
use Rattle.filtered_lists.specs.Lists.{ColumnLists}
use Rattle.predicate_bounds.specs.declared.columns.ColumnSteps.{ColumnSteps}
use Rattle.predicate_bounds.specs.declared.columns.EntryStats.{EntryStats}
use Rattle.predicate_bounds.specs.declared.columns.QueryStats.{QueryStats}
use Rattle.predicate_bounds.specs.declared.running.ListStep.{ListStep}
use Rattle.predicate_bounds.specs.ListRuns.{after_list_steps, with_list, top_list}
use Rattle.predicate_bounds.specs.Steps.{steps_of}

abbrev pub no_columns : EntryStats
no_columns = record { columns = [] }

-- the joined columns of entry `from`, each with its steps. An entry that joins no column has one column here all the same, for its row bound
abbrev pub columns_of : QueryStats → ℕ → List ColumnSteps
columns_of stats from = (slice_index_or stats.entries from no_columns).columns

-- the steps of a joined column of an entry
abbrev pub column_steps : QueryStats → ℕ → ℕ → Option (List ListStep)
column_steps stats from column = option_map (λ joined. joined.steps) (find (λ joined. joined.column == column) (columns_of stats from))

-- the steps of the first column of entry `from`. The entry's row bound is made from these steps
abbrev pub first_steps : QueryStats → ℕ → Option (List ListStep)
first_steps stats from = option_map (λ joined. joined.steps) (slice_get (columns_of stats from) 0)

-- the list that steps leave on top of the stack, or the empty list if there are no steps
abbrev pub list_on_top : Option (List ListStep) → List ℕ
list_on_top None = []
list_on_top (Some steps) = top_list (after_list_steps steps [])

-- the list that the steps of a joined column leave
abbrev pub list_in_stats : QueryStats → ℕ → ℕ → List ℕ
list_in_stats stats from column = list_on_top (column_steps stats from column)

-- the row bound of an entry: the sum of the list that the steps of its first column leave, but at most 2^64 - 1
abbrev pub row_bound_in_stats : QueryStats → ℕ → ℕ
row_bound_in_stats stats from = min (sum (list_on_top (first_steps stats from))) (2 ^ 64 - 1)

-- the steps of an entry's own conjuncts, each with the list of `lists` that the step asks for
abbrev pub steps_with_lists : Query → ℕ → ColumnLists → List ListStep
steps_with_lists query from lists = map (with_list lists) (steps_of from query.conjuncts)

-- the statistics of a joined column have the lists of `lists` that the entry's own conjuncts ask for
abbrev pub HasLists : Query → QueryStats → ℕ → ℕ → ColumnLists → Type 0
HasLists query stats from column lists = column_steps stats from column ≡ Some (steps_with_lists query from lists)

-- the statistics for an entry's row bound have the lists of `lists` that the entry's own conjuncts ask for
abbrev pub HasRowLists : Query → QueryStats → ℕ → ColumnLists → Type 0
HasRowLists query stats from lists = first_steps stats from ≡ Some (steps_with_lists query from lists)
