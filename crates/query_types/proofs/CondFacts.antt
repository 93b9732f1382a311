-- Facts about a condition from its parts: the entries that it names, and properties of every layer. A layer is an operator of the condition with its
-- operands.
use Rattle.std.proofs.Common.{◌≡◌, ℕ, Bool, List, [], ◌∷◌, ◌++◌, map, ap, sym, ◌∙◌, subst}
use Rattle.std.specs.List.{flat_map, All, AllByRecursion}
use Rattle.std.proofs.lemmas.List.Elements.{All-from_recursion}
use Rattle.query_grammar.specs.declared.tree.Op.{Op}
use Rattle.query_types.specs.declared.types.ColumnRef.{ColumnRef}
use Rattle.query_types.specs.declared.types.Operand.{Operand}
use Rattle.query_types.specs.declared.types.Operand.TheVariants as operand
use Rattle.query_types.specs.declared.types.Cond.{Cond, And, Or, Not, Compare, every-Cond, every_held-Cond, every_here-Cond, map-Cond, out-Cond, out-roll-Cond, roll-Cond}
use Rattle.query_types.specs.declared.types.Cond.TheFolds.{fold-roll-Cond, ind-Cond}
use Rattle.query_types.specs.declared.types.Cond.TheOpen.{Cond-F}
use Rattle.query_types.specs.declared.types.Cond.TheOpen as layer
use Rattle.query_types.specs.declared.types.Cond.TheVariants.{rolls-And, rolls-Or, rolls-Not, rolls-Compare}
use Rattle.query_types.specs.Named.{entries_named, entries_of_operand, entries_step}
use Rattle.query_types.specs.Typing.{IsOfKind, IsTyped, IsTypedLayer}

-- ---- the entries that a condition names, from its parts

pub entries_and : (all : List Cond) → entries_named (And all) ≡ flat_map (λ inner. inner) (map entries_named all)
entries_and all = ap entries_named (sym (rolls-And all)) ∙ fold-roll-Cond (List ℕ) entries_step (layer.And all)

pub entries_or : (any : List Cond) → entries_named (Or any) ≡ flat_map (λ inner. inner) (map entries_named any)
entries_or any = ap entries_named (sym (rolls-Or any)) ∙ fold-roll-Cond (List ℕ) entries_step (layer.Or any)

pub entries_not : (inner : Cond) → entries_named (Not inner) ≡ entries_named inner
entries_not inner = ap entries_named (sym (rolls-Not inner)) ∙ fold-roll-Cond (List ℕ) entries_step (layer.Not inner)

-- ---- a property Q of every layer

out_and : (all : List Cond) → out-Cond (And all) ≡ layer.And all
out_and all = ap out-Cond (sym (rolls-And all)) ∙ out-roll-Cond (layer.And all)

module _ (Q : Cond-F Cond → Type 0) where
  firsts : (ys : List ((x : Cond) × every-Cond Q x)) → AllByRecursion (every-Cond Q) (map (λ e. e.0) ys)
  firsts [] = tt
  firsts (y ∷ ys) = (y.1, firsts ys)

  members_and : (x : Cond-F ((x : Cond) × every-Cond Q x)) (all : List Cond) → map-Cond ((x : Cond) × every-Cond Q x) Cond (λ e. e.0) x ≡ layer.And all → AllByRecursion (every-Cond Q) all
  members_and (layer.And ys) all e = let same : map (λ e. e.0) ys ≡ all = cc in subst (AllByRecursion (every-Cond Q)) same (firsts ys)
  members_and (layer.Or ys) all e = cc
  members_and (layer.Not y) all e = cc
  members_and (layer.Compare op left right) all e = cc

  pub every_and : (all : List Cond) → every-Cond Q (And all) → AllByRecursion (every-Cond Q) all
  every_and all h = let held = every_held-Cond Q (And all) h in members_and held.0 all (held.1 ∙ out_and all)

  out_or : (any : List Cond) → out-Cond (Or any) ≡ layer.Or any
  out_or any = ap out-Cond (sym (rolls-Or any)) ∙ out-roll-Cond (layer.Or any)

  out_not : (inner : Cond) → out-Cond (Not inner) ≡ layer.Not inner
  out_not inner = ap out-Cond (sym (rolls-Not inner)) ∙ out-roll-Cond (layer.Not inner)

  members_or : (x : Cond-F ((x : Cond) × every-Cond Q x)) (any : List Cond) → map-Cond ((x : Cond) × every-Cond Q x) Cond (λ e. e.0) x ≡ layer.Or any → AllByRecursion (every-Cond Q) any
  members_or (layer.Or ys) any e = let same : map (λ e. e.0) ys ≡ any = cc in subst (AllByRecursion (every-Cond Q)) same (firsts ys)
  members_or (layer.And ys) any e = cc
  members_or (layer.Not y) any e = cc
  members_or (layer.Compare op left right) any e = cc

  pub every_or : (any : List Cond) → every-Cond Q (Or any) → AllByRecursion (every-Cond Q) any
  every_or any h = let held = every_held-Cond Q (Or any) h in members_or held.0 any (held.1 ∙ out_or any)

  inner_not : (x : Cond-F ((x : Cond) × every-Cond Q x)) (inner : Cond) → map-Cond ((x : Cond) × every-Cond Q x) Cond (λ e. e.0) x ≡ layer.Not inner → every-Cond Q inner
  inner_not (layer.Not y) inner e = let same : y.0 ≡ inner = cc in subst (every-Cond Q) same y.1
  inner_not (layer.And ys) inner e = cc
  inner_not (layer.Or ys) inner e = cc
  inner_not (layer.Compare op left right) inner e = cc

  pub every_not : (inner : Cond) → every-Cond Q (Not inner) → every-Cond Q inner
  every_not inner h = let held = every_held-Cond Q (Not inner) h in inner_not held.0 inner (held.1 ∙ out_not inner)

-- ---- facts about a comparison

pub entries_compare : (op : Op) (left right : Operand) → entries_named (Compare op left right) ≡ entries_of_operand left ++ entries_of_operand right
entries_compare op left right = ap entries_named (sym (rolls-Compare op left right)) ∙ fold-roll-Cond (List ℕ) entries_step (layer.Compare op left right)

pub every_compare : (Q : Cond-F Cond → Type 0) (op : Op) (left right : Operand) → every-Cond Q (Compare op left right) → Q (layer.Compare op left right)
every_compare Q op left right h =
    subst Q (ap out-Cond (sym (rolls-Compare op left right)) ∙ out-roll-Cond (layer.Compare op left right)) (every_here-Cond Q (Compare op left right) h)

-- ---- a property P of all entries that a condition names

pub all_in_append : (P : ℕ → Type 0) (a b : List ℕ) → AllByRecursion P a → AllByRecursion P b → AllByRecursion P (a ++ b)
all_in_append P [] b h k = k
all_in_append P (x ∷ a) b h k = (h.0, all_in_append P a b h.1 k)

module _ (Q : Cond-F Cond → Type 0) (P : ℕ → Type 0) (one : (op : Op) (left right : Operand) → Q (layer.Compare op left right) → AllByRecursion P (entries_of_operand left ++ entries_of_operand right)) where
  abbrev NamesOnly : Cond → Type 0
  NamesOnly c = every-Cond Q c → AllByRecursion P (entries_named c)

  members : (ys : List ((c : Cond) × NamesOnly c)) → AllByRecursion (every-Cond Q) (map (λ y. y.0) ys) → AllByRecursion P (flat_map (λ inner. inner) (map entries_named (map (λ y. y.0) ys)))
  members [] h = tt
  members (y ∷ ys) h = all_in_append P (entries_named y.0) (flat_map (λ inner. inner) (map entries_named (map (λ y. y.0) ys))) (y.1 h.0) (members ys h.1)

  layers : (y : Cond-F ((c : Cond) × NamesOnly c)) → every-Cond Q (roll-Cond (map-Cond ((c : Cond) × NamesOnly c) Cond (λ e. e.0) y)) → AllByRecursion P (entries_step (map-Cond Cond (List ℕ) entries_named (map-Cond ((c : Cond) × NamesOnly c) Cond (λ e. e.0) y)))
  layers (layer.And ys) h = members ys (every_and Q (map (λ y. y.0) ys) (subst (every-Cond Q) (rolls-And (map (λ y. y.0) ys)) h))
  layers (layer.Or ys) h = members ys (every_or Q (map (λ y. y.0) ys) (subst (every-Cond Q) (rolls-Or (map (λ y. y.0) ys)) h))
  layers (layer.Not y) h = y.1 (every_not Q y.0 (subst (every-Cond Q) (rolls-Not y.0) h))
  layers (layer.Compare op left right) h = one op left right (every_compare Q op left right (subst (every-Cond Q) (rolls-Compare op left right) h))

  pub all_named : (c : Cond) → NamesOnly c
  all_named = ind-Cond NamesOnly (λ x y is. subst (λ x. NamesOnly (roll-Cond x)) is (λ h.
      let inner : Cond-F Cond = map-Cond ((c : Cond) × NamesOnly c) Cond (λ e. e.0) y in
      subst (AllByRecursion P) (sym (fold-roll-Cond (List ℕ) entries_step inner)) (layers y h)))

module _ (IsColumn : ColumnRef → Bool → Type 0) (P : ℕ → Type 0) (column_entry : (column : ColumnRef) (text : Bool) → IsColumn column text → P column.from) where
  operand_entry : (o : Operand) (text : Bool) → IsOfKind IsColumn o text → AllByRecursion P (entries_of_operand o)
  operand_entry (operand.Column column) text h = (column_entry column text h, tt)
  operand_entry (operand.Int number) text h = tt
  operand_entry (operand.Text value) text h = tt

  pub entries_typed : (cond : Cond) → IsTyped IsColumn cond → All P (entries_named cond)
  entries_typed cond h = All-from_recursion P (entries_named cond)
      (all_named (IsTypedLayer IsColumn) P
      (λ op left right can. all_in_append P (entries_of_operand left) (entries_of_operand right) (operand_entry left can.text can.left_kind) (operand_entry right can.text can.right_kind))
      cond h)
