-- `conjunction_of` for AND, OR, NOT and a comparison, computed from the `conjunction_of` of the members.
use Rattle.std.proofs.Common.{◌≡◌, Bool, List, map, ap, sym, ◌∙◌}
use Rattle.query_grammar.specs.declared.tree.Op.{Op}
use Rattle.query_types.specs.declared.types.Operand.{Operand}
use Rattle.query_types.specs.declared.types.Cond.{Cond, And, Or, Not, Compare}
use Rattle.query_types.specs.declared.types.Cond.TheFolds.{fold-roll-Cond}
use Rattle.query_types.specs.declared.types.Cond.TheOpen as layer
use Rattle.query_types.specs.declared.types.Cond.TheVariants.{rolls-And, rolls-Or, rolls-Not, rolls-Compare}
use Rattle.filtered_lists.specs.Filters.{ComparisonAnswers, Conjunction, conjunction_step, conjunction_of}

module _ {A : Type 0} (answers : ComparisonAnswers A) where
  pub conjunction_of_and : (all : List Cond) (holds : Bool) → conjunction_of answers (And all) holds ≡ conjunction_step answers (layer.And (map (conjunction_of answers) all)) holds
  conjunction_of_and all holds = ap (λ (c : Cond). conjunction_of answers c holds) (sym (rolls-And all)) ∙ ap (λ (f : Bool → Conjunction A). f holds) (fold-roll-Cond (Bool → Conjunction A) (conjunction_step answers) (layer.And all))

  pub conjunction_of_or : (any : List Cond) (holds : Bool) → conjunction_of answers (Or any) holds ≡ conjunction_step answers (layer.Or (map (conjunction_of answers) any)) holds
  conjunction_of_or any holds = ap (λ (c : Cond). conjunction_of answers c holds) (sym (rolls-Or any)) ∙ ap (λ (f : Bool → Conjunction A). f holds) (fold-roll-Cond (Bool → Conjunction A) (conjunction_step answers) (layer.Or any))

  pub conjunction_of_not : (inner : Cond) (holds : Bool) → conjunction_of answers (Not inner) holds ≡ conjunction_step answers (layer.Not (conjunction_of answers inner)) holds
  conjunction_of_not inner holds = ap (λ (c : Cond). conjunction_of answers c holds) (sym (rolls-Not inner)) ∙ ap (λ (f : Bool → Conjunction A). f holds) (fold-roll-Cond (Bool → Conjunction A) (conjunction_step answers) (layer.Not inner))

  pub conjunction_of_compare : (op : Op) (left right : Operand) (holds : Bool) → conjunction_of answers (Compare op left right) holds ≡ conjunction_step answers (layer.Compare op left right) holds
  conjunction_of_compare op left right holds = ap (λ (c : Cond). conjunction_of answers c holds) (sym (rolls-Compare op left right)) ∙ ap (λ (f : Bool → Conjunction A). f holds) (fold-roll-Cond (Bool → Conjunction A) (conjunction_step answers) (layer.Compare op left right))
