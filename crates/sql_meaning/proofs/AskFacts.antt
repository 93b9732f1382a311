-- Whether a condition holds depends only on the rows of the entries that it names.
use Rattle.std.proofs.Common.{◌≡◌, ℕ, Bool, true, not, eqb, List, [], ◌∷◌, ◌++◌, map, refl, ap, sym, ◌∙◌, subst, inl, inr}
use Rattle.std.specs.List.{flat_map, list_any, AllByRecursion}
use Rattle.std.proofs.lemmas.Bool.{cases_Bool, eq-eqb, or_right}
use Rattle.query_types.specs.declared.types.Operand.{Operand}
use Rattle.query_types.specs.declared.types.Operand.TheVariants as operand
use Rattle.query_types.specs.declared.types.Cond.{Cond, map-Cond, roll-Cond}
use Rattle.query_types.specs.declared.types.Cond.TheFolds.{fold-roll-Cond, ind-Cond}
use Rattle.query_types.specs.declared.types.Cond.TheOpen.{Cond-F}
use Rattle.query_types.specs.declared.types.Cond.TheOpen as layer
use Rattle.sql_meaning.specs.Answers.{conjunct_of}
use Rattle.sql_meaning.specs.Conditions.{all_of, any_of, cond_holds, holds_step, operand_value}
use Rattle.query_types.specs.Named.{entries_named, entries_of_operand, entries_step}
use Rattle.sql_meaning.specs.Levels.{DependsOnNamed}
use Rattle.sql_meaning.specs.Tables.{Tables}

abbrev is_in : List ℕ → ℕ → Bool
is_in entries entry = list_any (λ e. eqb entry e) entries

abbrev pub Agree : (ℕ → ℕ) → (ℕ → ℕ) → List ℕ → Type 0
Agree f g entries = (entry : ℕ) → is_in entries entry ≡ true → f entry ≡ g entry

in_left : (a b : List ℕ) (x : ℕ) → is_in a x ≡ true → is_in (a ++ b) x ≡ true
in_left [] b x h = cc
in_left (e ∷ a) b x h = elim (cases_Bool (eqb x e)) [
  | inl hit ↦ rw hit refl
  | inr other ↦ (let rest : is_in a x ≡ true = rw other at h in rw other (in_left a b x rest))
]

in_right : (a b : List ℕ) (x : ℕ) → is_in b x ≡ true → is_in (a ++ b) x ≡ true
in_right [] b x h = h
in_right (e ∷ a) b x h = or_right (eqb x e) (is_in (a ++ b) x) (in_right a b x h)

module _ (tables : Tables) (f g : ℕ → ℕ) where
  same_value : (o : Operand) → Agree f g (entries_of_operand o) → operand_value tables f o ≡ operand_value tables g o
  same_value (operand.Column column) agree =
      let named : is_in (column.from ∷ []) column.from ≡ true = rw (eq-eqb column.from column.from refl) refl in
      let same : f column.from ≡ g column.from = agree column.from named in
      rw same refl
  same_value (operand.Int number) agree = refl
  same_value (operand.Text text) agree = refl

abbrev DependsOnNamedRows : Tables → Cond → Type 0
DependsOnNamedRows tables cond = (f g : ℕ → ℕ) → Agree f g (entries_named cond) → cond_holds tables f cond ≡ cond_holds tables g cond

module _ (tables : Tables) where
  same_members : (f g : ℕ → ℕ) (ys : List ((c : Cond) × DependsOnNamedRows tables c)) → Agree f g (flat_map (λ inner. inner) (map entries_named (map (λ y. y.0) ys)))
      → map (cond_holds tables f) (map (λ y. y.0) ys) ≡ map (cond_holds tables g) (map (λ y. y.0) ys)
  same_members f g [] agree = refl
  same_members f g (y ∷ ys) agree =
      let rest : List ℕ = flat_map (λ inner. inner) (map entries_named (map (λ y. y.0) ys)) in
      let first : cond_holds tables f y.0 ≡ cond_holds tables g y.0 = y.1 f g (λ x h. agree x (in_left (entries_named y.0) rest x h)) in
      let others : map (cond_holds tables f) (map (λ y. y.0) ys) ≡ map (cond_holds tables g) (map (λ y. y.0) ys) = same_members f g ys (λ x h. agree x (in_right (entries_named y.0) rest x h)) in
      rw (first, others) refl

  abbrev from_layer : (x : Cond-F Cond) (f g : ℕ → ℕ) → Type 0
  from_layer x f g = holds_step tables f (map-Cond Cond Bool (cond_holds tables f) x) ≡ holds_step tables g (map-Cond Cond Bool (cond_holds tables g) x)

  layer_depends_on_named : (y : Cond-F ((c : Cond) × DependsOnNamedRows tables c)) (f g : ℕ → ℕ)
      → Agree f g (entries_step (map-Cond Cond (List ℕ) entries_named (map-Cond ((c : Cond) × DependsOnNamedRows tables c) Cond (λ e. e.0) y))) → from_layer (map-Cond ((c : Cond) × DependsOnNamedRows tables c) Cond (λ e. e.0) y) f g
  layer_depends_on_named (layer.And ys) f g agree = ap all_of (same_members f g ys agree)
  layer_depends_on_named (layer.Or ys) f g agree = ap any_of (same_members f g ys agree)
  layer_depends_on_named (layer.Not y) f g agree = ap not (y.1 f g agree)
  layer_depends_on_named (layer.Compare op left right) f g agree =
      let one : operand_value tables f left ≡ operand_value tables g left = same_value tables f g left (λ x h. agree x (in_left (entries_of_operand left) (entries_of_operand right) x h)) in
      let two : operand_value tables f right ≡ operand_value tables g right = same_value tables f g right (λ x h. agree x (in_right (entries_of_operand left) (entries_of_operand right) x h)) in
      rw (one, two) refl

  pub depends_on_named : (cond : Cond) → DependsOnNamedRows tables cond
  depends_on_named = ind-Cond (DependsOnNamedRows tables) (λ x y is. subst (λ x. DependsOnNamedRows tables (roll-Cond x)) is (λ f g agree.
      let inner : Cond-F Cond = map-Cond ((c : Cond) × DependsOnNamedRows tables c) Cond (λ e. e.0) y in
      fold-roll-Cond Bool (holds_step tables f) inner
      ∙ layer_depends_on_named y f g (subst (Agree f g) (fold-roll-Cond (List ℕ) entries_step inner) agree)
      ∙ sym (fold-roll-Cond Bool (holds_step tables g) inner)))

  pub depend_on_named : (conds : List Cond) → AllByRecursion DependsOnNamed (map (conjunct_of tables) conds)
  depend_on_named [] = tt
  depend_on_named (cond ∷ conds) = (depends_on_named cond, depend_on_named conds)
