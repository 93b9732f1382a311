-- If each equality of a set joins columns of one class of the kept equalities of turn 0, all turns of the set are alike.
use Rattle.std.proofs.Common.{◌≡◌, ◌≢◌, ◌⊎◌, ℕ, ◌-◌, Bool, true, false, not, ◌&&◌, ◌||◌, eqb, List, [], ◌∷◌, refl, ap, sym, ◌∙◌, subst, inl, inr}
use Rattle.std.specs.List.{AllByRecursion, Contains}
use Rattle.std.proofs.lemmas.Bool.{cases_Bool, eqb-true, eqb-false, eq-eqb}
use Rattle.entry_sets.proofs.Listing.{in_front, not_in_empty, in_rest, in_front_or_rest}
use Rattle.berge_tree.specs.declared.edges.Edge.{Edge}
use Rattle.berge_tree.specs.declared.edges.Place.{Place}
use Rattle.berge_tree.specs.Equalities.{HasNoCycle, class_of, places_of, same_place}
use Rattle.berge_tree.proofs.Joining.{class_of-joined}
use Rattle.berge_tree.proofs.NoCycle.{has_no_cycle, same_place-true}
use Rattle.berge_tree.proofs.Steps.{are_same, on_other_side, same_place-is, seen_off}
use Rattle.join_graph.specs.Kept.{AreConnected, KeepsAfter, at_end, equalities_within, joins_within, keeps, kept_of, leaves_out, order_of_turn, turn_count}
use Rattle.join_graph.proofs.Connecting.{keeps_computed, own_components}
use Rattle.tree_bounds.specs.SetBounds.{bound_of_set, bound_of_turn}
use Rattle.tree_bounds.specs.TreeBounds.{EntryBounds, bound_of_trees}
use Rattle.tree_bounds.proofs.Turns.{closes}
use Rattle.set_bounds.specs.Alike.{AreAlike, IsWithinOneClass}
use Rattle.set_bounds.proofs.ColumnClasses.{alike_by_classes}
use Rattle.set_bounds.proofs.Forests.{AreAmong, all_among, all_in, among_rotated, each, rotated_among}
use Rattle.set_bounds.proofs.SameTrees.{alike_trees, least_alike}

-- ---- truth values

both : (a b : Bool) → a ≡ true → b ≡ true → (a && b) ≡ true
both true true s t = refl
both true false s t = absurd (cc t)
both false b s t = absurd (cc s)

first_of : (a b : Bool) → (a && b) ≡ true → a ≡ true
first_of true b t = refl
first_of false b t = absurd (cc t)

second_of : (a b : Bool) → (a && b) ≡ true → b ≡ true
second_of true b t = t
second_of false b t = absurd (cc t)

either : (a b : Bool) → (a || b) ≡ true → (a ≡ true) ⊎ (b ≡ true)
either true b t = inl refl
either false b t = inr t

on_left : (a b : Bool) → a ≡ true → (a || b) ≡ true
on_left true b t = refl
on_left false b t = absurd (cc t)

on_right : (a b : Bool) → b ≡ true → (a || b) ≡ true
on_right true b t = refl
on_right false b t = t

by_truth : (a b : Bool) → (a ≡ true → b ≡ true) → (b ≡ true → a ≡ true) → a ≡ b
by_truth true true f g = refl
by_truth true false f g = sym (f refl)
by_truth false true f g = g refl
by_truth false false f g = refl

abbrev is_same_bool : Bool → Bool → Bool
is_same_bool true b = b
is_same_bool false b = not b

same_bool_refl : (b : Bool) → is_same_bool b b ≡ true
same_bool_refl true = refl
same_bool_refl false = refl

not_same_bool : (a b : Bool) → b ≡ not a → is_same_bool a b ≡ true → ⊥
not_same_bool true true e t = cc e
not_same_bool true false e t = cc t
not_same_bool false true e t = cc t
not_same_bool false false e t = cc e

-- ---- columns that equalities name

left_named : (es : List Edge) (e : Edge) → Contains es e → Contains (places_of es) e.left
left_named [] e k = absurd (not_in_empty e k)
left_named (f ∷ fs) e k = elim (in_front_or_rest f fs e k) [
  | inl old ↦ in_rest f.left (f.right ∷ places_of fs) e.left (in_rest f.right (places_of fs) e.left (left_named fs e old))
  | inr is ↦ in_front f.left (f.right ∷ places_of fs) e.left (ap (λ (x : Edge). x.left) is)
]

right_named : (es : List Edge) (e : Edge) → Contains es e → Contains (places_of es) e.right
right_named [] e k = absurd (not_in_empty e k)
right_named (f ∷ fs) e k = elim (in_front_or_rest f fs e k) [
  | inl old ↦ in_rest f.left (f.right ∷ places_of fs) e.right (in_rest f.right (places_of fs) e.right (right_named fs e old))
  | inr is ↦ in_rest f.left (f.right ∷ places_of fs) e.right (in_front f.right (places_of fs) e.right (ap (λ (x : Edge). x.right) is))
]

-- ---- equalities that connect two entries of one class put their columns into one class

-- The classes make no cycle, and each of the equalities `fs` is within a class. `u` and `w` are columns of one class, and `fs` connect their entries.
module _ (class : Place → Place) (no_cycle : HasNoCycle class) (fs : List Edge) (within : AllByRecursion (λ e. class e.left ≡ class e.right) fs)
    (u w : Place) (same : class u ≡ class w) (connected : AreConnected fs u.entry w.entry) where
  module _ (key : ℕ → ℕ → ℕ) (all : AllByRecursion (λ e. key e.left.entry e.left.column ≡ key e.right.entry e.right.column) fs) where
    abbrev side_of : Place → ℕ → Bool
    side_of p = (no_cycle.bridges p).side

    -- entry x can be reached from p's entry without passing through p's class
    abbrev is_near : Place → ℕ → Bool
    is_near p x = is_same_bool (side_of p p.entry) (side_of p x)

    -- p is in the class of u, and has the same key
    abbrev has_same_key : Place → Bool
    has_same_key p = same_place (class p) (class u) && eqb (key p.entry p.column) (key u.entry u.column)

    abbrev is_near_one : List Place → ℕ → Bool
    is_near_one [] x = false
    is_near_one (p ∷ ps) x = (has_same_key p && is_near p x) || is_near_one ps x

    has_same_key_if : (p : Place) → class p ≡ class u → key p.entry p.column ≡ key u.entry u.column → has_same_key p ≡ true
    has_same_key_if p c k = both (same_place (class p) (class u)) (eqb (key p.entry p.column) (key u.entry u.column)) (same_place-is (class p) (class u) c) (eq-eqb (key p.entry p.column) (key u.entry u.column) k)

    its_class : (p : Place) → has_same_key p ≡ true → class p ≡ class u
    its_class p t = same_place-true (class p) (class u) (first_of (same_place (class p) (class u)) (eqb (key p.entry p.column) (key u.entry u.column)) t)

    its_key : (p : Place) → has_same_key p ≡ true → key p.entry p.column ≡ key u.entry u.column
    its_key p t = eqb-true (key p.entry p.column) (key u.entry u.column) (second_of (same_place (class p) (class u)) (eqb (key p.entry p.column) (key u.entry u.column)) t)

    near_one : (ps : List Place) (p : Place) (x : ℕ) → Contains ps p → has_same_key p ≡ true → is_near p x ≡ true → is_near_one ps x ≡ true
    near_one [] p x k c t = absurd (not_in_empty p k)
    near_one (q ∷ qs) p x k c t = elim (in_front_or_rest q qs p k) [
      | inl old ↦ on_right (has_same_key q && is_near q x) (is_near_one qs x) (near_one qs p x old c t)
      | inr is ↦ on_left (has_same_key q && is_near q x) (is_near_one qs x) (subst (λ z. (has_same_key z && is_near z x) ≡ true) is (both (has_same_key p) (is_near p x) c t))
    ]

    one_near : (ps : List Place) (x : ℕ) → is_near_one ps x ≡ true → (p : Place) × Contains ps p × (has_same_key p ≡ true) × (is_near p x ≡ true)
    one_near [] x t = absurd (cc t)
    one_near (q ∷ qs) x t = elim (either (has_same_key q && is_near q x) (is_near_one qs x) t) [
      | inl here ↦ (q, in_front q qs q refl, first_of (has_same_key q) (is_near q x) here, second_of (has_same_key q) (is_near q x) here)
      | inr there ↦ (let found : (p : Place) × Contains qs p × (has_same_key p ≡ true) × (is_near p x ≡ true) = one_near qs x there in
          (found.0, in_rest q qs found.0 found.1, found.2, found.3))
    ]

    abbrev named : List Place
    named = u ∷ places_of fs

    one_way : (a b : Place) → Contains named b → class a ≡ class b → key a.entry a.column ≡ key b.entry b.column
        → is_near_one named a.entry ≡ true → is_near_one named b.entry ≡ true
    one_way a b k c e t =
        let found : (p : Place) × Contains named p × (has_same_key p ≡ true) × (is_near p a.entry ≡ true) = one_near named a.entry t in
        let p : Place = found.0 in
        elim (are_same a p) as (λ x. is_near_one named b.entry ≡ true) [
          | inl at ↦ near_one named b b.entry k
              (has_same_key_if b (sym c ∙ ap class at ∙ its_class p found.2) (sym e ∙ ap (λ (q : Place). key q.entry q.column) at ∙ its_key p found.2)) (same_bool_refl (side_of b b.entry))
          | inr off ↦ elim (are_same b p) as (λ x. is_near_one named b.entry ≡ true) [
            | inl at ↦ near_one named b b.entry k (subst (λ q. has_same_key q ≡ true) (sym at) found.2) (same_bool_refl (side_of b b.entry))
            | inr off_too ↦ near_one named p b.entry found.1 found.2
                (ap (is_same_bool (side_of p p.entry)) (sym (seen_off (side_of p) p b off_too) ∙ sym ((no_cycle.bridges p).together a b c) ∙ seen_off (side_of p) p a off) ∙ found.3)
          ]
        ]

    along : AllByRecursion (λ e. is_near_one named e.left.entry ≡ is_near_one named e.right.entry) fs
    along = all_in (λ e. is_near_one named e.left.entry ≡ is_near_one named e.right.entry) fs (λ e k.
        let c : class e.left ≡ class e.right = each (λ f. class f.left ≡ class f.right) fs within e k in
        let s : key e.left.entry e.left.column ≡ key e.right.entry e.right.column = each (λ f. key f.left.entry f.left.column ≡ key f.right.entry f.right.column) fs all e k in
        by_truth (is_near_one named e.left.entry) (is_near_one named e.right.entry)
        (one_way e.left e.right (in_rest u (places_of fs) e.right (right_named fs e k)) c s)
        (one_way e.right e.left (in_rest u (places_of fs) e.left (left_named fs e k)) (sym c) (sym s)))

    near_first : is_near_one named u.entry ≡ true
    near_first = near_one named u u.entry (in_front u (places_of fs) u refl) (has_same_key_if u refl refl) (same_bool_refl (side_of u u.entry))

    not_near : key w.entry w.column ≢ key u.entry u.column → is_near_one named w.entry ≡ true → ⊥
    not_near differ t =
        let found : (p : Place) × Contains named p × (has_same_key p ≡ true) × (is_near p w.entry ≡ true) = one_near named w.entry t in
        let p : Place = found.0 in
        not_same_bool (side_of p p.entry) (side_of p w.entry)
        (on_other_side class p (no_cycle.bridges p) w (its_class p found.2 ∙ same) (λ is. differ (ap (λ (q : Place). key q.entry q.column) is ∙ its_key p found.2))) found.3

    same_key : key u.entry u.column ≡ key w.entry w.column
    same_key = elim (cases_Bool (eqb (key w.entry w.column) (key u.entry u.column))) [
      | inl t ↦ sym (eqb-true (key w.entry w.column) (key u.entry u.column) t)
      | inr n ↦ absurd (not_near (eqb-false (key w.entry w.column) (key u.entry u.column) n) (sym (connected (is_near_one named) along) ∙ near_first))
    ]

  joined_there : class_of fs u ≡ class_of fs w
  joined_there = class_of-joined fs u w (λ key all. same_key key all)

-- ---- kept equalities are among those of the set, and connect what these connect

kept_among : {earlier es kept : List Edge} → KeepsAfter earlier es kept → AreAmong kept es
kept_among (at_end earlier) f k = k
kept_among (keeps earlier e es kept apart more) f k = elim (in_front_or_rest e kept f k) [ inl old ↦ in_rest e es f (kept_among more f old) | inr is ↦ in_front e es f is ]
kept_among (leaves_out earlier e es kept joined more) f k = in_rest e es f (kept_among more f k)

kept_connect : {earlier es kept : List Edge} → KeepsAfter earlier es kept → (side : ℕ → Bool) → AllByRecursion (λ e. side e.left.entry ≡ side e.right.entry) earlier
    → AllByRecursion (λ e. side e.left.entry ≡ side e.right.entry) kept → AllByRecursion (λ e. side e.left.entry ≡ side e.right.entry) es
kept_connect (at_end earlier) side before h = tt
kept_connect (keeps earlier e es kept apart more) side before h = (h.0, kept_connect more side (h.0, before) h.1)
kept_connect (leaves_out earlier e es kept joined more) side before h = (joined side before, kept_connect more side before h)

module _ (es : List Edge) (subset turn : ℕ) where
  of_turn : KeepsAfter [] (order_of_turn subset turn es) (kept_of subset turn es)
  of_turn = keeps_computed (λ x. x) [] (order_of_turn subset turn es) own_components

  of_set : AreAmong (kept_of subset turn es) (equalities_within subset es)
  of_set e k = rotated_among turn (equalities_within subset es) e (kept_among of_turn e k)

  connects : (e : Edge) → Contains (equalities_within subset es) e → AreConnected (kept_of subset turn es) e.left.entry e.right.entry
  connects e k side h =
      each (λ f. side f.left.entry ≡ side f.right.entry) (order_of_turn subset turn es) (kept_connect of_turn side tt h) e
      (among_rotated turn (equalities_within subset es) e k)

-- ---- every turn

pub all_within : (Q : Edge → Type 0) (subset : ℕ) (es : List Edge) → AllByRecursion Q es → AllByRecursion Q (equalities_within subset es)
all_within Q subset [] h = tt
all_within Q subset (e ∷ es) h = elim (cases_Bool (joins_within subset e)) [
  | inl t ↦ rw t (h.0, all_within Q subset es h.1)
  | inr n ↦ rw n (all_within Q subset es h.1)
]

module _ (es : List Edge) (subset : ℕ) (closed_classes : AllByRecursion (IsWithinOneClass (kept_of subset 0 es)) (equalities_within subset es)) where
  turn_alike : (turn : ℕ) → AreAlike (kept_of subset turn es) (kept_of subset 0 es)
  turn_alike turn =
      let first : List Edge = kept_of subset 0 es in
      let there : AllByRecursion (IsWithinOneClass first) (kept_of subset turn es) =
      all_among (IsWithinOneClass first) (kept_of subset turn es) (equalities_within subset es) (of_set es subset turn) closed_classes in
      alike_by_classes (kept_of subset turn es) first (closes es subset turn) (closes es subset 0)
      (all_in (IsWithinOneClass (kept_of subset turn es)) first (λ e k.
      joined_there (class_of first) (has_no_cycle first (closes es subset 0)) (kept_of subset turn es) there e.left e.right
      (each (IsWithinOneClass first) (equalities_within subset es) closed_classes e (of_set es subset 0 e k)) (connects es subset turn e (of_set es subset 0 e k))))
      there

  pub each_turn_is_turn_0 : (b : EntryBounds) (turn : ℕ) → bound_of_turn b es subset turn ≡ bound_of_turn b es subset 0
  each_turn_is_turn_0 b turn = ap (bound_of_trees b) (alike_trees es subset turn 0 (turn_alike turn))

  pub set_is_turn_0 : (b : EntryBounds) → bound_of_set b es subset ≡ bound_of_turn b es subset 0
  set_is_turn_0 b = least_alike (bound_of_turn b es subset) (turn_count subset es - 1) (each_turn_is_turn_0 b)
