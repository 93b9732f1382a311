-- When a condition compares numbers with numbers and texts with texts. The relation `IsColumn` says which columns exist, and whether a column has
-- texts. Two relations are used for `IsColumn`: one for the columns of a schema, and one for the columns of a database.
use Rattle.std.specs.Prelude.{◌≡◌, Bool, true, false, ⊤}
use Rattle.query_types.specs.declared.types.ColumnRef.{ColumnRef}
use Rattle.query_types.specs.declared.types.Operand.{Operand}
use Rattle.query_types.specs.declared.types.Operand.TheVariants as operand
use Rattle.query_types.specs.declared.types.Cond.{Cond, every-Cond}
use Rattle.query_types.specs.declared.types.Cond.TheOpen.{Cond-F}

-- the operand is a text if `text` is true, and a number if it is false. If the operand is a column, the relation says that it exists and is
-- of this kind
abbrev pub IsOfKind : (ColumnRef → Bool → Type 0) → Operand → Bool → Type 0
IsOfKind IsColumn (operand.Column column) text = IsColumn column text
IsOfKind IsColumn (operand.Int number) text = text ≡ false
IsOfKind IsColumn (operand.Text value) text = text ≡ true

-- both operands of a comparison are of one kind
pub record Compares (IsColumn : ColumnRef → Bool → Type 0) (left right : Operand) : Type 0 where
  pub text : Bool
  pub left_kind : IsOfKind IsColumn left text
  pub right_kind : IsOfKind IsColumn right text

abbrev pub IsTypedLayer : (ColumnRef → Bool → Type 0) → Cond-F Cond → Type 0
IsTypedLayer IsColumn (Cond-F.And all) = ⊤
IsTypedLayer IsColumn (Cond-F.Or any) = ⊤
IsTypedLayer IsColumn (Cond-F.Not inner) = ⊤
IsTypedLayer IsColumn (Cond-F.Compare op left right) = Compares IsColumn left right

-- every comparison in a condition names columns that exist, and its operands are of one kind
abbrev pub IsTyped : (ColumnRef → Bool → Type 0) → Cond → Type 0
IsTyped IsColumn cond = every-Cond (IsTypedLayer IsColumn) cond
