-- These lemmas compute `equality_of` for each form of a condition. It gives an equality only for a comparison by = of columns of two entries.
use Rattle.std.proofs.Common.{◌≡◌, ◌≢◌, ℕ, List, Option, Some, None, refl, ap, sym, ◌∙◌}
use Rattle.std.proofs.lemmas.Bool.{eq-eqb, ne_eqb}
use Rattle.berge_tree.specs.Testing.{edge_of}
use Rattle.query_grammar.specs.declared.tree.Op.{Op}
use Rattle.query_grammar.specs.declared.tree.Op.TheVariants as op
use Rattle.query_types.specs.declared.types.ColumnRef.{ColumnRef}
use Rattle.query_types.specs.declared.types.Operand.{Operand}
use Rattle.query_types.specs.declared.types.Cond.{Cond, And, Or, Not, Compare, out-roll-Cond}
use Rattle.query_types.specs.declared.types.Cond.TheOpen as layer
use Rattle.query_types.specs.declared.types.Cond.TheVariants.{rolls-And, rolls-Or, rolls-Not, rolls-Compare}
use Rattle.join_graph.specs.Conjuncts.{column_of, column_operand, equality_between, compared, equality_in, equality_of}

pub equality_and : (members : List Cond) → equality_of (And members) ≡ None
equality_and members = ap equality_of (sym (rolls-And members)) ∙ ap equality_in (out-roll-Cond (layer.And members))

pub equality_or : (members : List Cond) → equality_of (Or members) ≡ None
equality_or members = ap equality_of (sym (rolls-Or members)) ∙ ap equality_in (out-roll-Cond (layer.Or members))

pub equality_not : (member : Cond) → equality_of (Not member) ≡ None
equality_not member = ap equality_of (sym (rolls-Not member)) ∙ ap equality_in (out-roll-Cond (layer.Not member))

equality_compare : (o : Op) (left right : Operand) → equality_of (Compare o left right) ≡ compared o (column_of left) (column_of right)
equality_compare o left right = ap equality_of (sym (rolls-Compare o left right)) ∙ ap equality_in (out-roll-Cond (layer.Compare o left right))

no_column : (left : Option ColumnRef) → equality_between left None ≡ None
no_column None = refl
no_column (Some left) = refl

pub equality_literal : (left right : Operand) → column_of right ≡ None → equality_of (Compare op.Eq left right) ≡ None
equality_literal left right e = equality_compare op.Eq left right ∙ ap (equality_between (column_of left)) e ∙ no_column (column_of left)

pub equality_literal_left : (left right : Operand) → column_of left ≡ None → equality_of (Compare op.Eq left right) ≡ None
equality_literal_left left right e = equality_compare op.Eq left right ∙ ap (λ c. equality_between c (column_of right)) e

pub equality_one : (entry a b : ℕ) → equality_of (Compare op.Eq (column_operand entry a) (column_operand entry b)) ≡ None
equality_one entry a b = equality_compare op.Eq (column_operand entry a) (column_operand entry b) ∙ rw (eq-eqb entry entry refl) refl

pub equality_two : (left a right b : ℕ) → left ≢ right → equality_of (Compare op.Eq (column_operand left a) (column_operand right b)) ≡ Some (edge_of left a right b)
equality_two left a right b differ = equality_compare op.Eq (column_operand left a) (column_operand right b) ∙ rw (ne_eqb left right differ) refl
