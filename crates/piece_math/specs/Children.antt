-- The children of a table, whose lists are kept as pieces.
use Rattle.std.specs.Prelude.{ℕ, List}
use Rattle.std.specs.List.{sum_by}
use Rattle.degree_sequences.specs.Composition.{ChildLists}
use Rattle.degree_sequences.specs.Runs.{runs}
use Rattle.piece_math.specs.declared.weights.Child.{Child}

-- the two lists of a child
abbrev pub lists_of : Child → ChildLists
lists_of child = record { column = child.column; class = child.class }

-- how many runs all class lists have together
abbrev pub class_runs : List Child → ℕ
class_runs children = sum_by (λ child. runs child.class) children
