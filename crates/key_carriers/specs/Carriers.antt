-- The entries that carry their own conjuncts to other entries, along references to keys that a schema declares.
use Rattle.std.specs.Prelude.{ℕ, Bool, false, ◌&&◌, ◌==◌, List, [], ◌∷◌, filter, slice_index_or}
use Rattle.std.specs.List.{list_any}
use Rattle.schema_types.specs.declared.types.Reference.{Reference}
use Rattle.schema_types.specs.declared.types.Schema.{Schema}
use Rattle.schema_types.specs.declared.types.Table.{Table}
use Rattle.query_types.specs.declared.types.Query.{Query}
use Rattle.query_types.specs.declared.types.Source.{Source}
use Rattle.berge_tree.specs.declared.edges.Edge.{Edge}
use Rattle.join_graph.specs.Conjuncts.{equalities_of, is_own_conjunct}
use Rattle.join_graph.specs.Kept.{equalities_within}

-- ---- keys and references that a schema declares

abbrev pub no_table : Table
no_table = record { name = []; columns = []; keys = []; references = [] }

abbrev pub table_at : Schema → ℕ → Table
table_at schema table = slice_index_or schema.tables table no_table

-- whether the list has only this column
abbrev pub is_only_column : ℕ → List ℕ → Bool
is_only_column column [] = false
is_only_column column (first ∷ []) = first == column
is_only_column column (first ∷ (second ∷ columns)) = false

-- the column by itself is a PRIMARY KEY or UNIQUE of the table
abbrev pub is_declared_key : Schema → ℕ → ℕ → Bool
is_declared_key schema table column = list_any (is_only_column column) (table_at schema table).keys

-- whether the reference has only this column, and its target is only the column `target` of the table
abbrev pub is_reference_from_to : ℕ → ℕ → ℕ → Reference → Bool
is_reference_from_to column table target reference = is_only_column column reference.columns && (reference.table == table && is_only_column target reference.targets)

-- the schema declares a reference from this column of the table to column `target` of table `other`
abbrev pub refers : Schema → ℕ → ℕ → ℕ → ℕ → Bool
refers schema table column other target = list_any (is_reference_from_to column other target) (table_at schema table).references

-- ---- keys and references between a query's entries

abbrev pub no_source : Source
no_source = record { table = 0; alias = [] }

-- the table of an entry, by its number in the schema
abbrev pub table_of : Query → ℕ → ℕ
table_of query entry = (slice_index_or query.from entry no_source).table

-- the schema declares that the left column refers to the right column, and that the right column is a key
abbrev pub refers_to_key : Schema → Query → Edge → Bool
refers_to_key schema query e =
    refers schema (table_of query e.left.entry) e.left.column (table_of query e.right.entry) e.right.column
    && is_declared_key schema (table_of query e.right.entry) e.right.column

-- some conjunct names this entry and no other entry
abbrev pub has_own_conjunct : Query → ℕ → Bool
has_own_conjunct query entry = list_any (is_own_conjunct entry) query.conjuncts

-- the right entry carries its own conjuncts to the left entry: it has own conjuncts, and the left column refers to its key
abbrev pub carries : Schema → Query → Edge → Bool
carries schema query e = refers_to_key schema query e && has_own_conjunct query e.right.entry

-- an equality with its sides exchanged
abbrev pub exchanged : Edge → Edge
exchanged e = record { left = e.right; right = e.left }

-- each equality, followed by the equality with its sides exchanged
abbrev pub with_exchanged_sides : List Edge → List Edge
with_exchanged_sides [] = []
with_exchanged_sides (e ∷ es) = e ∷ (exchanged e ∷ with_exchanged_sides es)

-- the equalities along which conjuncts are carried. The conjuncts are carried to the left entry of each equality
abbrev pub carrying_equalities : Schema → Query → List Edge
carrying_equalities schema query = filter (carries schema query) (with_exchanged_sides (equalities_of query))

-- the equalities of `es` along which conjuncts are carried to `entry` within a set. Both entries are in the set, and `entry` is on the left
abbrev pub carriers_to : List Edge → ℕ → ℕ → List Edge
carriers_to es subset entry = filter (λ e. e.left.entry == entry) (equalities_within subset es)
