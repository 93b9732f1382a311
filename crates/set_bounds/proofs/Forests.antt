-- If equalities close no cycle, they close no cycle when they are rotated, or when some are left out. So a turn keeps all of them.
use Rattle.std.proofs.Common.{◌≡◌, ◌≢◌, ◌⊎◌, ℕ, Bool, true, false, not, List, [], ◌∷◌, ◌++◌, take, drop, refl, ap, sym, ◌∙◌, subst, inl, inr}
use Rattle.std.specs.Prelude.{filter}
use Rattle.std.specs.List.{AllByRecursion, Contains}
use Rattle.std.proofs.lemmas.Bool.{cases_Bool}
use Rattle.std.proofs.lemmas.List.{append_assoc, append-nil, take-append-drop}
use Rattle.std.proofs.lemmas.List.Elements.{Contains-append_cases, Contains-append_left, Contains-append_right}
use Rattle.entry_sets.proofs.Listing.{in_front, not_in_empty, in_rest, in_front_or_rest}
use Rattle.berge_tree.specs.declared.edges.Edge.{Edge}
use Rattle.berge_tree.specs.Equalities.{AreApart, ClosesNoCycle, ClosesNoCycleAfter}
use Rattle.join_graph.specs.Kept.{KeepsAfter, at_end, equalities_within, rotated, joins_within, keeps, kept_in_order, kept_of}
use Rattle.join_graph.proofs.Connecting.{kept_are_computed, own_components}
use Rattle.entry_sets.specs.Sets.{IsSubset}
use Rattle.set_bounds.proofs.Listing.{joins_more}

-- ---- a property of all members of a list

module _ {X : Type 0} (Q : X → Type 0) where
  pub each : (xs : List X) → AllByRecursion Q xs → (x : X) → Contains xs x → Q x
  each [] h x k = absurd (not_in_empty x k)
  each (y ∷ ys) h x k = elim (in_front_or_rest y ys x k) [ inl old ↦ each ys h.1 x old | inr is ↦ subst Q (sym is) h.0 ]

  pub all_in : (xs : List X) → ((x : X) → Contains xs x → Q x) → AllByRecursion Q xs
  all_in [] h = tt
  all_in (y ∷ ys) h = (h y (in_front y ys y refl), all_in ys (λ x k. h x (in_rest y ys x k)))

both_hold : {X : Type 0} (Q R T : X → Type 0) → ((x : X) → Q x → R x → T x) → (xs : List X) → AllByRecursion Q xs → AllByRecursion R xs → AllByRecursion T xs
both_hold Q R T so [] h k = tt
both_hold Q R T so (x ∷ xs) h k = (so x h.0 k.0, both_hold Q R T so xs h.1 k.1)

abbrev pub AreAmong : List Edge → List Edge → Type 0
AreAmong xs ys = (e : Edge) → Contains xs e → Contains ys e

pub all_among : (Q : Edge → Type 0) (xs ys : List Edge) → AreAmong xs ys → AllByRecursion Q ys → AllByRecursion Q xs
all_among Q xs ys among h = all_in Q xs (λ e k. each Q ys h e (among e k))

with_one : (e : Edge) (xs ys : List Edge) → AreAmong xs ys → AreAmong (e ∷ xs) (e ∷ ys)
with_one e xs ys among f k = elim (in_front_or_rest e xs f k) [ inl old ↦ in_rest e ys f (among f old) | inr is ↦ in_front e ys f is ]

pub other_order : (xs ys : List Edge) → AreAmong (xs ++ ys) (ys ++ xs)
other_order xs ys e k = elim (Contains-append_cases xs ys e k) [
  | inl front ↦ Contains-append_right ys xs e front
  | inr behind ↦ Contains-append_left ys xs e behind
]

-- ---- if equalities don't connect two entries (`AreApart`), a part of these equalities doesn't connect them either

abbrev Together : (ℕ → Bool) → Edge → Type 0
Together side e = side e.left.entry ≡ side e.right.entry

apart_fewer : (xs ys : List Edge) (a b : ℕ) → AreAmong xs ys → AreApart ys a b → AreApart xs a b
apart_fewer xs ys a b among s = record { side = s.side; together = all_among (Together s.side) xs ys among s.together; across = s.across }

fewer_before : (earlier fewer es : List Edge) → AreAmong fewer earlier → ClosesNoCycleAfter earlier es → ClosesNoCycleAfter fewer es
fewer_before earlier fewer [] among h = tt
fewer_before earlier fewer (e ∷ es) among h =
    (apart_fewer fewer earlier e.left.entry e.right.entry among h.0, fewer_before (e ∷ earlier) (e ∷ fewer) es (with_one e fewer earlier among) h.1)

closes_filtered : (p : Edge → Bool) (earlier fewer es : List Edge) → AreAmong fewer earlier → ClosesNoCycleAfter earlier es → ClosesNoCycleAfter fewer (filter p es)
closes_filtered p earlier fewer [] among h = tt
closes_filtered p earlier fewer (e ∷ es) among h = elim (cases_Bool (p e)) [
  | inl t ↦ rw t (apart_fewer fewer earlier e.left.entry e.right.entry among h.0, closes_filtered p (e ∷ earlier) (e ∷ fewer) es (with_one e fewer earlier among) h.1)
  | inr n ↦ rw n (closes_filtered p (e ∷ earlier) fewer es (λ f k. in_rest e earlier f (among f k)) h.1)
]

-- ---- an equality is moved to the end of the list

abbrev not_if : Bool → Bool → Bool
not_if true x = not x
not_if false x = x

abbrev agree : Bool → Bool → Bool
agree true b = b
agree false b = not b

same_or_not : (a b : Bool) → (a ≡ b) ⊎ (a ≢ b)
same_or_not true true = inl refl
same_or_not true false = inr (λ e. cc e)
same_or_not false true = inr (λ e. cc e)
same_or_not false false = inl refl

comes_together : (p q x y : Bool) → p ≢ q → x ≢ y → not_if (agree p q) x ≡ not_if (agree q q) y
comes_together true true x y h k = absurd (h refl)
comes_together false false x y h k = absurd (h refl)
comes_together true false true true h k = absurd (k refl)
comes_together true false false false h k = absurd (k refl)
comes_together true false true false h k = refl
comes_together true false false true h k = refl
comes_together false true true true h k = absurd (k refl)
comes_together false true false false h k = absurd (k refl)
comes_together false true true false h k = refl
comes_together false true false true h k = refl

turned_back : (t x y : Bool) → not_if t x ≡ not_if t y → x ≡ y
turned_back false x y e = e
turned_back true true true e = refl
turned_back true true false e = absurd (cc e)
turned_back true false true e = absurd (cc e)
turned_back true false false e = refl

-- adjacent equalities e and f can be exchanged
still_apart : (earlier : List Edge) (e f : Edge) → AreApart earlier e.left.entry e.right.entry → AreApart (e ∷ earlier) f.left.entry f.right.entry → AreApart (f ∷ earlier) e.left.entry e.right.entry
still_apart earlier e f s t = elim (same_or_not (s.side f.left.entry) (s.side f.right.entry)) [
  | inl same ↦ record { side = s.side; together = (same, s.together); across = s.across }
  | inr differ ↦ record {
    side = side;
    together = (
      comes_together (t.side f.left.entry) (t.side f.right.entry) (s.side f.left.entry) (s.side f.right.entry) t.across differ,
      both_hold (Together s.side) (Together t.side) (Together side) (λ g one other. so g.left.entry g.right.entry one other) earlier s.together t.together.1,
    );
    across = λ same. s.across (turned_back (agree (t.side e.left.entry) (t.side f.right.entry)) (s.side e.left.entry) (s.side e.right.entry)
        (same ∙ ap (λ v. not_if (agree v (t.side f.right.entry)) (s.side e.right.entry)) (sym t.together.0)));
  }
]
  where
    side : ℕ → Bool
    side x = not_if (agree (t.side x) (t.side f.right.entry)) (s.side x)

    so : (x y : ℕ) → s.side x ≡ s.side y → t.side x ≡ t.side y → side x ≡ side y
    so x y one other = ap (λ v. not_if (agree v (t.side f.right.entry)) (s.side x)) other ∙ ap (not_if (agree (t.side y) (t.side f.right.entry))) one

abbrev pub onto : List Edge → List Edge → List Edge
onto earlier [] = earlier
onto earlier (e ∷ es) = onto (e ∷ earlier) es

swapped : (e f : Edge) (xs : List Edge) → AreAmong (e ∷ (f ∷ xs)) (f ∷ (e ∷ xs))
swapped e f xs g k = elim (in_front_or_rest e (f ∷ xs) g k) [
  | inr is ↦ in_rest f (e ∷ xs) g (in_front e xs g is)
  | inl old ↦ elim (in_front_or_rest f xs g old) [
    | inr is ↦ in_front f (e ∷ xs) g is
    | inl older ↦ in_rest f (e ∷ xs) g (in_rest e xs g older)
  ]
]

apart_last : (earlier es : List Edge) (e : Edge) → AreApart earlier e.left.entry e.right.entry → ClosesNoCycleAfter (e ∷ earlier) es → AreApart (onto earlier es) e.left.entry e.right.entry
apart_last earlier [] e s h = s
apart_last earlier (f ∷ fs) e s h = apart_last (f ∷ earlier) fs e (still_apart earlier e f s h.0) (fewer_before (f ∷ (e ∷ earlier)) (e ∷ (f ∷ earlier)) fs (swapped e f earlier) h.1)

put_last : (earlier es : List Edge) (e : Edge) → ClosesNoCycleAfter earlier es → AreApart (onto earlier es) e.left.entry e.right.entry → ClosesNoCycleAfter earlier (es ++ e ∷ [])
put_last earlier [] e h s = (s, tt)
put_last earlier (f ∷ fs) e h s = (h.0, put_last (f ∷ earlier) fs e h.1 s)

moved_last : (e : Edge) (es : List Edge) → ClosesNoCycle (e ∷ es) → ClosesNoCycle (es ++ e ∷ [])
moved_last e es h = put_last [] es e (fewer_before (e ∷ []) [] es (λ f k. absurd (not_in_empty f k)) h.1) (apart_last [] es e h.0 h.1)

rotates : (front behind : List Edge) → ClosesNoCycle (front ++ behind) → ClosesNoCycle (behind ++ front)
rotates [] behind h = subst ClosesNoCycle (sym (append-nil behind)) h
rotates (e ∷ front) behind h =
    subst ClosesNoCycle (append_assoc behind (e ∷ []) front)
    (rotates front (behind ++ e ∷ []) (subst ClosesNoCycle (append_assoc front behind (e ∷ [])) (moved_last e (front ++ behind) h)))

-- ---- if equalities close no cycle, all of them are kept

all_kept : (earlier es : List Edge) → ClosesNoCycleAfter earlier es → KeepsAfter earlier es es
all_kept earlier [] h = at_end earlier
all_kept earlier (e ∷ es) h = keeps earlier e es es h.0 (all_kept (e ∷ earlier) es h.1)

keeps_all : (es : List Edge) → ClosesNoCycle es → kept_in_order es ≡ es
keeps_all es h = sym (kept_are_computed (all_kept [] es h) (λ x. x) own_components)

pub forest_kept : (es : List Edge) (subset turn : ℕ) → ClosesNoCycle (equalities_within subset es) → kept_of subset turn es ≡ rotated turn (equalities_within subset es)
forest_kept es subset turn h =
    let of_set : List Edge = equalities_within subset es in
    keeps_all (rotated turn of_set) (rotates (take turn of_set) (drop turn of_set) (subst ClosesNoCycle (sym (take-append-drop turn of_set)) h))

pub rotated_among : (turn : ℕ) (es : List Edge) → AreAmong (rotated turn es) es
rotated_among turn es e k = subst (λ (xs : List Edge). Contains xs e) (take-append-drop turn es) (other_order (drop turn es) (take turn es) e k)

pub among_rotated : (turn : ℕ) (es : List Edge) → AreAmong es (rotated turn es)
among_rotated turn es e k = other_order (take turn es) (drop turn es) e (subst (λ (xs : List Edge). Contains xs e) (sym (take-append-drop turn es)) k)

-- ---- fewer entries: the equalities within a smaller set close no cycle either

no_more_within : (subset whole : ℕ) → IsSubset subset whole → (e : Edge) → joins_within whole e ≡ false → joins_within subset e ≡ false
no_more_within subset whole within e out = elim (cases_Bool (joins_within subset e)) [
  | inl t ↦ absurd (true_false (sym (joins_more subset whole within e t) ∙ out))
  | inr n ↦ n
]
  where
    true_false : true ≡ false → ⊥
    true_false e = cc e

pub within_of : (subset whole : ℕ) → IsSubset subset whole → (es : List Edge) → equalities_within subset es ≡ filter (joins_within subset) (equalities_within whole es)
within_of subset whole within [] = refl
within_of subset whole within (e ∷ es) = elim (cases_Bool (joins_within whole e)) [
  | inl t ↦ rw t (elim (cases_Bool (joins_within subset e)) [
    | inl u ↦ rw u (ap (λ (s : List Edge). e ∷ s) (within_of subset whole within es))
    | inr n ↦ rw n (within_of subset whole within es)
  ])
  | inr n ↦ rw (n, no_more_within subset whole within e n) (within_of subset whole within es)
]

pub forest_within : (es : List Edge) (subset whole : ℕ) → IsSubset subset whole → ClosesNoCycle (equalities_within whole es) → ClosesNoCycle (equalities_within subset es)
forest_within es subset whole within h =
    subst ClosesNoCycle (sym (within_of subset whole within es)) (closes_filtered (joins_within subset) [] [] (equalities_within whole es) (λ f k. k) h)
