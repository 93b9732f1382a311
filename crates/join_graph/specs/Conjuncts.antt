-- The conjuncts of a query, in parts: those that name one entry, the equalities that join two entries, and all others.
use Rattle.std.specs.Prelude.{ℕ, ◌+◌, Bool, false, not, ◌&&◌, ◌==◌, if◌then◌else◌, List, [], ◌∷◌, map, length, Option, Some, None, is_none, is_some, filter}
use Rattle.std.specs.List.{filter_map, list_all, range_with_len}
use Rattle.entry_sets.specs.Naming.{is_only_named}
use Rattle.berge_tree.specs.declared.edges.Edge.{Edge}
use Rattle.berge_tree.specs.Equalities.{place}
use Rattle.query_grammar.specs.declared.tree.Op.{Op}
use Rattle.query_grammar.specs.declared.tree.Op.TheVariants as op
use Rattle.query_types.specs.declared.types.ColumnRef.{ColumnRef}
use Rattle.query_types.specs.declared.types.Operand.{Operand}
use Rattle.query_types.specs.declared.types.Operand.TheVariants as operand
use Rattle.query_types.specs.declared.types.Cond.{Cond}
use Rattle.query_types.specs.declared.types.Cond.TheOpen.{Cond-F}
use Rattle.query_types.specs.declared.types.Cond.TheViews.{out-Cond}
use Rattle.query_types.specs.Named.{entries_named}
use Rattle.query_types.specs.declared.types.Query.{Query}

-- ---- the part of a conjunct

-- the condition names this entry and no other entry
abbrev pub is_own_conjunct : ℕ → Cond → Bool
is_own_conjunct entry cond = is_only_named (entries_named cond) entry

abbrev pub column_operand : ℕ → ℕ → Operand
column_operand from column = operand.Column (record { from = from; column = column })

abbrev pub column_of : Operand → Option ColumnRef
column_of (operand.Column column) = Some column
column_of (operand.Int number) = None
column_of (operand.Text text) = None

-- the equality of two columns, if both exist and their entries differ
abbrev pub equality_between : Option ColumnRef → Option ColumnRef → Option Edge
equality_between None right = None
equality_between (Some left) None = None
equality_between (Some left) (Some right) =
    if left.from == right.from then None else Some (record { left = place left.from left.column; right = place right.from right.column })

abbrev pub compared : Op → Option ColumnRef → Option ColumnRef → Option Edge
compared op.Eq left right = equality_between left right
compared op.Ne left right = None
compared op.Lt left right = None
compared op.Le left right = None
compared op.Gt left right = None
compared op.Ge left right = None

abbrev pub equality_in : Cond-F Cond → Option Edge
equality_in (Cond-F.And members) = None
equality_in (Cond-F.Or members) = None
equality_in (Cond-F.Not member) = None
equality_in (Cond-F.Compare op left right) = compared op (column_of left) (column_of right)

-- the condition as an equality, if it compares columns of two different entries by =
abbrev pub equality_of : Cond → Option Edge
equality_of cond = equality_in (out-Cond cond)

-- whether the list isn't empty, and all its elements are the same entry
abbrev pub have_one_entry : List ℕ → Bool
have_one_entry [] = false
have_one_entry (entry ∷ entries) = list_all (λ e. e == entry) entries

-- whether the condition is residual: it isn't an equality of two entries, and it names no entry or several entries
abbrev pub is_residual : Cond → Bool
is_residual cond = is_none (equality_of cond) && not (have_one_entry (entries_named cond))

-- ---- the parts

abbrev pub once_if : Bool → ℕ
once_if holds = if holds then 1 else 0

-- in how many parts a condition is. The parts are the equalities, the own conjuncts of each FROM entry (the query has `entries` of them), and the
-- residual conjuncts
abbrev pub count_of_parts : ℕ → Cond → ℕ
count_of_parts entries cond =
    once_if (is_some (equality_of cond)) + length (filter (λ entry. is_own_conjunct entry cond) (range_with_len 0 entries))
    + once_if (is_residual cond)

-- the numbers of the elements that pass the test. The list's elements are numbered from `first`
abbrev pub numbers_where : {A : Type 0} → (A → Bool) → ℕ → List A → List ℕ
numbers_where test first [] = []
numbers_where test first (x ∷ xs) = if test x then first ∷ numbers_where test (first + 1) xs else numbers_where test (first + 1) xs

-- for each FROM entry, the numbers of the conjuncts that name it and no other entry
abbrev pub local_of : Query → List (List ℕ)
local_of query = map (λ entry. numbers_where (is_own_conjunct entry) 0 query.conjuncts) (range_with_len 0 (length query.from))

-- the equalities that join two entries, in text order
abbrev pub equalities_of : Query → List Edge
equalities_of query = filter_map equality_of query.conjuncts

-- the numbers of the residual conjuncts
abbrev pub residual_of : Query → List ℕ
residual_of query = numbers_where is_residual 0 query.conjuncts
