-- A walk goes from an entry through a class to another entry. If the equalities close no cycle, each step leads to an entry that isn't among the
-- entries above it (`IsReached`).
use Rattle.std.proofs.Common.{◌≡◌, ◌≢◌, ℕ, Bool, true, false, not, List, [], ◌∷◌, ◌<◌, suc, arith, refl, ap, sym, ◌∙◌, subst, ◌⊎◌, inl, inr, Option, Some, None}
use Rattle.std.specs.Prelude.{⊤}
use Rattle.std.specs.List.{Contains}
use Rattle.std.proofs.lemmas.Bool.{cases_Bool, eq-eqb, false≢true}
use Rattle.entry_sets.proofs.Listing.{in_rest, in_front, not_in_empty, in_front_or_rest}
use Rattle.berge_tree.specs.declared.edges.Place.{Place}
use Rattle.berge_tree.specs.Equalities.{same_place, side_of_column, IsBridge}
use Rattle.berge_tree.proofs.NoCycle.{same_place-true}
use Rattle.berge_tree.specs.Equalities.{HasNoCycle}

pub not_itself : (b : Bool) → b ≡ not b → ⊥
not_itself true e = false≢true (sym e)
not_itself false e = false≢true e

pub same_place-refl : (p : Place) → same_place p p ≡ true
same_place-refl p = rw (eq-eqb p.entry p.entry refl, eq-eqb p.column p.column refl) refl

pub same_place-is : (p q : Place) → p ≡ q → same_place p q ≡ true
same_place-is p q e = subst (λ u. same_place p u ≡ true) e (same_place-refl p)

pub are_same : (p q : Place) → (p ≡ q) ⊎ (p ≢ q)
are_same p q = elim (cases_Bool (same_place p q)) [
  | inl t ↦ inl (same_place-true p q t)
  | inr n ↦ inr (λ e. false≢true (sym n ∙ same_place-is p q e))
]

pub seen_off : (side : ℕ → Bool) (p q : Place) → q ≢ p → side_of_column side p q ≡ side q.entry
seen_off side p q ne = elim (cases_Bool (same_place q p)) [
  | inl t ↦ absurd (ne (same_place-true q p t))
  | inr n ↦ rw n refl
]

pub seen_at : (side : ℕ → Bool) (p : Place) → side_of_column side p p ≡ not (side p.entry)
seen_at side p = rw (same_place-refl p) refl

pub another : (c : ℕ) → Some c ≢ Some (suc c)
another c e = less (subst (λ o. below o) e arith_own)
  where
    below : Option ℕ → Type 0
    below None = ⊤
    below (Some d) = d < suc c

    arith_own : c < suc c
    arith_own = omega arith

    less : suc c < suc c → ⊥
    less l = omega (arith, l)

pub none_some : (c : ℕ) → None ≢ Some c
none_some c e = subst (λ (o : Option ℕ). is_none o) e tt
  where
    is_none : Option ℕ → Type 0
    is_none None = ⊤
    is_none (Some d) = ⊥

-- ---- the walk has come to entry y through y's column `above`; P has the entries above y

pub record IsReached (class : Place → Place) (P : List ℕ) (y : ℕ) (above : Option ℕ) : Type 0 where
  pub connected : (side : ℕ → Bool) → ((u v : Place) → class u ≡ class v → Contains P u.entry → side u.entry ≡ side v.entry) → (a : ℕ) → Contains P a → side a ≡ side y
  pub fresh : (r : Place) → r.entry ≡ y → above ≢ Some r.column → (p : Place) → Contains P p.entry → class p ≡ class r → ⊥

pub root_reached : (class : Place → Place) (y : ℕ) → IsReached class [] y None
root_reached class y = record { connected = λ side h a k. absurd (not_in_empty a k); fresh = λ r at off p k e. not_in_empty p.entry k }

pub avoided : (class : Place → Place) (P : List ℕ) (y : ℕ) (above : Option ℕ) → IsReached class P y above → Contains P y → ⊥
avoided class P y None h k = h.fresh (record { entry = y; column = 0 }) refl (none_some 0) (record { entry = y; column = 0 }) k refl
avoided class P y (Some c) h k = h.fresh (record { entry = y; column = suc c }) refl (another c) (record { entry = y; column = suc c }) k refl

pub off_class : (class : Place → Place) (r : Place) (b : IsBridge class r) (u v : Place) → class u ≡ class v → class u ≢ class r → b.side u.entry ≡ b.side v.entry
off_class class r b u v e differ =
    sym (seen_off b.side r u (λ is. differ (ap class is))) ∙ b.together u v e ∙ seen_off b.side r v (λ is. differ (e ∙ ap class is))

pub on_other_side : (class : Place → Place) (r : Place) (b : IsBridge class r) (s : Place) → class r ≡ class s → s ≢ r → b.side s.entry ≡ not (b.side r.entry)
on_other_side class r b s same ne = sym (seen_off b.side r s ne) ∙ b.together s r (sym same) ∙ seen_at b.side r

pub step : (class : Place → Place) → HasNoCycle class → (P : List ℕ) (y : ℕ) (above : Option ℕ) → IsReached class P y above → (r s : Place) → r.entry ≡ y → above ≢ Some r.column
    → class r ≡ class s → s ≢ r → IsReached class (y ∷ P) s.entry (Some s.column)
step class nc P y above old r s r_at r_off same ne = record { connected = connected; fresh = fresh }
  where
    b : IsBridge class r
    b = nc.bridges r

    far_side : b.side s.entry ≡ not (b.side y)
    far_side = on_other_side class r b s same ne ∙ ap (λ x. not (b.side x)) r_at

    connected : (side : ℕ → Bool) → ((u v : Place) → class u ≡ class v → Contains (y ∷ P) u.entry → side u.entry ≡ side v.entry) → (a : ℕ) → Contains (y ∷ P) a → side a ≡ side s.entry
    connected side h a k =
        let here : side y ≡ side s.entry = ap side (sym r_at) ∙ h r s same (in_front y P r.entry r_at) in
        elim (in_front_or_rest y P a k) [
          | inl in_P ↦ old.connected side (λ u v e m. h u v e (in_rest y P u.entry m)) a in_P ∙ here
          | inr is ↦ ap side is ∙ here
        ]

    fresh : (t : Place) → t.entry ≡ s.entry → Some s.column ≢ Some t.column → (p : Place) → Contains (y ∷ P) p.entry → class p ≡ class t → ⊥
    fresh t t_at t_off p k e = elim (in_front_or_rest y P p.entry k) [
      | inl in_P ↦
          let differ : class p ≢ class r = λ is. old.fresh r r_at r_off p in_P is in
          let to_y : b.side p.entry ≡ b.side y = old.connected b.side (λ u v f m. off_class class r b u v f (λ is. old.fresh r r_at r_off u m is)) p.entry in_P in
          not_itself (b.side y) (sym to_y ∙ off_class class r b p t e differ ∙ ap b.side t_at ∙ far_side)
      | inr is ↦ elim (are_same (class p) (class r)) [
        | inl agree ↦ t_off (ap (λ (u : Place). Some u.column) (sym (nc.one_column t s (sym e ∙ agree ∙ same) t_at)))
        | inr differ ↦ not_itself (b.side y) (ap b.side (sym is) ∙ off_class class r b p t e differ ∙ ap b.side t_at ∙ far_side)
      ]
    ]
