-- If the parts of a condition name only columns that exist, the condition names only columns that exist.
use Rattle.std.proofs.Common.{◌≡◌, All, List, [], ◌∷◌, map, refl, ap, subst}
use Rattle.std.proofs.lemmas.List.Elements.{All-head, All-tail}
use Rattle.schema_types.specs.declared.types.Schema.{Schema}
use Rattle.query_grammar.specs.declared.tree.Op.{Op}
use Rattle.query_types.specs.declared.types.Operand.{Operand}
use Rattle.query_types.specs.declared.types.Source.{Source}
use Rattle.query_types.specs.declared.types.Cond.{Cond, every_made-Cond}
use Rattle.query_types.specs.declared.types.Cond.TheVariants as cond
use Rattle.query_types.specs.declared.types.Cond.TheVariants.{rolls-And, rolls-Or, rolls-Not, rolls-Compare}
use Rattle.query_types.specs.declared.types.Cond.TheOpen as layer
use Rattle.query_types.specs.Validity.{IsCondOf, IsColumnOf}
use Rattle.query_types.specs.Typing.{Compares, IsTypedLayer}

module _ (schema : Schema) (from : List Source) where
  abbrev Held : Type 0
  Held = (c : Cond) × IsCondOf schema from c

  paired : (cs : List Cond) → All (IsCondOf schema from) cs → (held : List Held) × (map (λ (e : Held). e.0) held ≡ cs)
  paired [] h = ([], refl)
  paired (c ∷ cs) h =
      let others = paired cs (All-tail (IsCondOf schema from) c cs h) in
      ((c, All-head (IsCondOf schema from) c cs h) ∷ others.0, ap (λ x. c ∷ x) others.1)

  pub compare_of : (how : Op) (left right : Operand) → Compares (IsColumnOf schema from) left right → IsCondOf schema from (cond.Compare how left right)
  compare_of how left right h =
      subst (IsCondOf schema from) (rolls-Compare how left right)
      (every_made-Cond (IsTypedLayer (IsColumnOf schema from)) (layer.Compare how left right) (layer.Compare how left right) refl h)

  pub not_of : (c : Cond) → IsCondOf schema from c → IsCondOf schema from (cond.Not c)
  not_of c h = subst (IsCondOf schema from) (rolls-Not c) (every_made-Cond (IsTypedLayer (IsColumnOf schema from)) (layer.Not c) (layer.Not (c, h)) refl tt)

  pub and_of : (cs : List Cond) → All (IsCondOf schema from) cs → IsCondOf schema from (cond.And cs)
  and_of cs h =
      let pairs = paired cs h in
      subst (IsCondOf schema from) (rolls-And cs) (every_made-Cond (IsTypedLayer (IsColumnOf schema from)) (layer.And cs) (layer.And pairs.0) (ap (λ (x : List Cond). layer.And x) pairs.1) tt)

  pub or_of : (cs : List Cond) → All (IsCondOf schema from) cs → IsCondOf schema from (cond.Or cs)
  or_of cs h =
      let pairs = paired cs h in
      subst (IsCondOf schema from) (rolls-Or cs) (every_made-Cond (IsTypedLayer (IsColumnOf schema from)) (layer.Or cs) (layer.Or pairs.0) (ap (λ (x : List Cond). layer.Or x) pairs.1) tt)
