-- The work of a call for all bounds. Work is a measure for a limit, and not a number of steps.
use Rattle.std.specs.Prelude.{ℕ, ◌+◌, ◌*◌, ◌^◌, List, map, find, Option, Some, None}
use Rattle.std.specs.List.{range_with_len, sum}
use Rattle.berge_tree.specs.declared.edges.Edge.{Edge}
use Rattle.berge_tree.specs.declared.edges.Place.{Place}
use Rattle.join_graph.specs.Kept.{equalities_within, turn_count}
use Rattle.safebound_bounds.specs.declared.arguments.ColumnList.{ColumnList}
use Rattle.safebound_bounds.specs.Arguments.{is_list_of_column}

-- how many runs the list of a column has
abbrev pub run_count_of : Option ColumnList → ℕ
run_count_of None = 0
run_count_of (Some list) = list.length

abbrev pub runs_listed : List ColumnList → Place → ℕ
runs_listed lists p = run_count_of (find (is_list_of_column p.entry p.column) lists)

-- how many runs the lists of an equality's two columns have together
abbrev pub runs_joined : List ColumnList → Edge → ℕ
runs_joined lists e = runs_listed lists e.left + runs_listed lists e.right

-- the work of a turn of a set: 1 plus the number of runs in both lists of each of the set's equalities
abbrev pub work_of_turn : List ColumnList → List Edge → ℕ → ℕ
work_of_turn lists es subset = 1 + sum (map (runs_joined lists) (equalities_within subset es))

abbrev pub work_of_set : List ColumnList → List Edge → ℕ → ℕ
work_of_set lists es subset = turn_count subset es * work_of_turn lists es subset

-- the work of all sets of n entries
abbrev pub work_of : List ColumnList → List Edge → ℕ → ℕ
work_of lists es n = sum (map (work_of_set lists es) (range_with_len 0 (2 ^ n)))
