-- Tables of two columns.
use Rattle.std.specs.Prelude.{ℕ, List, [], ◌∷◌, length}
use Rattle.schema_types.specs.declared.types.Kind.{Kind}
use Rattle.schema_types.specs.declared.types.Kind.TheVariants as kind
use Rattle.csv_tables.specs.declared.types.Cells.{Cells}

-- a filter column of this kind, and a joined column of numbers
abbrev pub table_of : Kind → List ℕ → List ℕ → Cells
table_of kind_of_filter filter joined = record { kinds = kind_of_filter ∷ kind.Int ∷ []; columns = filter ∷ joined ∷ []; rows = length filter }
