-- Equalities that close no cycle between entries make no cycle of entries and classes.
use Rattle.std.proofs.Common.{◌≡◌, ◌≢◌, ℕ, Bool, true, false, cond, not, eqb, List, [], ◌∷◌, refl, ap, sym, ◌∙◌, subst, inl, inr}
use Rattle.std.specs.List.{AllByRecursion}
use Rattle.std.proofs.lemmas.Bool.{cases_Bool, eq-eqb, eqb-true, eqb-false, and_parts}
use Rattle.berge_tree.specs.declared.edges.Place.{Place}
use Rattle.berge_tree.specs.declared.edges.Edge.{Edge}
use Rattle.berge_tree.specs.Equalities.{same_place, merged, classes_from, class_of, side_of_column, IsBridge, HasNoCycle, AreApart, ClosesNoCycleAfter, ClosesNoCycle}

-- `name` gives names of components. After a and b are joined, the component of b takes the name of the component of a
abbrev pub merged_by : {A : Type 0} → (A → A → Bool) → (A → A) → A → A → A → A
merged_by same name a b x = cond (same (name x) (name b)) (name a) (name x)

place_by : (p q : Place) → p.entry ≡ q.entry → p.column ≡ q.column → p ≡ q
place_by p q e f = rw (e, f) refl

pub same_place-true : (p q : Place) → same_place p q ≡ true → p ≡ q
same_place-true p q h =
    let t : (eqb p.entry q.entry ≡ true) × (eqb p.column q.column ≡ true) = and_parts (eqb p.entry q.entry) (eqb p.column q.column) h in
    place_by p q (eqb-true p.entry q.entry t.0) (eqb-true p.column q.column t.1)

pub merged-yes : {A : Type 0} (same : A → A → Bool) (name : A → A) (a b x : A) → same (name x) (name b) ≡ true → merged_by same name a b x ≡ name a
merged-yes same name a b x e = rw e refl

pub merged-no : {A : Type 0} (same : A → A → Bool) (name : A → A) (a b x : A) → same (name x) (name b) ≡ false → merged_by same name a b x ≡ name x
merged-no same name a b x e = rw e refl

merged-first : {A : Type 0} (same : A → A → Bool) (name : A → A) (a b x : A) → name x ≡ name a → merged_by same name a b x ≡ name a
merged-first same name a b x e = elim (cases_Bool (same (name x) (name b))) [
  | inl yes_b ↦ merged-yes same name a b x yes_b
  | inr no_b ↦ merged-no same name a b x no_b ∙ e
]

merged-same : {A : Type 0} (same : A → A → Bool) (name : A → A) (a b x y : A) → name x ≡ name y → merged_by same name a b x ≡ merged_by same name a b y
merged-same same name a b x y e = ap (λ n. cond (same n (name b)) (name a) n) e

-- ---- division of the entries into two sides

abbrev flip : Bool → Bool → Bool
flip true b = not b
flip false b = b

flip-flip : (a b : Bool) → flip (flip a b) b ≡ a
flip-flip true true = refl
flip-flip true false = refl
flip-flip false true = refl
flip-flip false false = refl

flip-not : (d b : Bool) → not (flip d b) ≡ flip d (not b)
flip-not true b = refl
flip-not false b = refl

-- after some equalities were read, `g` names the component of each entry, and `h` the class of each column
record Sound (g : ℕ → ℕ) (h : Place → Place) : Type 0 where
  part : (p q : Place) → h p ≡ h q → g p.entry ≡ g q.entry
  one : (p q : Place) → h p ≡ h q → p.entry ≡ q.entry → p ≡ q
  bridge : (p : Place) → IsBridge h p

module _ (g : ℕ → ℕ) (h : Place → Place) (l r : Place) (s : Sound g h) (new : eqb (g l.entry) (g r.entry) ≡ false) where
  abbrev g' : ℕ → ℕ
  g' = merged_by eqb g l.entry r.entry

  abbrev h' : Place → Place
  h' = merged_by same_place h l r

  -- the three ways in which two columns can be in the same class after an equality between l and r was read
  data JoinedBy (p q : Place) : Type 0 where
    before : h p ≡ h q → JoinedBy p q
    first : h p ≡ h r → h q ≡ h l → JoinedBy p q
    second : h p ≡ h l → h q ≡ h r → JoinedBy p q

  how_joined : (p q : Place) → h' p ≡ h' q → JoinedBy p q
  how_joined p q e = elim (cases_Bool (same_place (h p) (h r))) [
    | inl pr ↦ elim (cases_Bool (same_place (h q) (h r))) [
      | inl qr ↦ before (same_place-true (h p) (h r) pr ∙ sym (same_place-true (h q) (h r) qr))
      | inr qn ↦ first (same_place-true (h p) (h r) pr) (sym (merged-no same_place h l r q qn) ∙ sym e ∙ merged-yes same_place h l r p pr)
    ]
    | inr pn ↦ elim (cases_Bool (same_place (h q) (h r))) [
      | inl qr ↦ second (sym (merged-no same_place h l r p pn) ∙ e ∙ merged-yes same_place h l r q qr) (same_place-true (h q) (h r) qr)
      | inr qn ↦ before (sym (merged-no same_place h l r p pn) ∙ e ∙ merged-no same_place h l r q qn)
    ]
  ]

  in_second : (p : Place) → h p ≡ h r → eqb (g p.entry) (g r.entry) ≡ true
  in_second p e = eq-eqb (g p.entry) (g r.entry) (s.part p r e)

  not_second : (p : Place) → h p ≡ h l → eqb (g p.entry) (g r.entry) ≡ false
  not_second p e = subst (λ n. eqb n (g r.entry) ≡ false) (sym (s.part p l e)) new

  part_of : (p q : Place) → JoinedBy p q → g' p.entry ≡ g' q.entry
  part_of p q (before e) = merged-same eqb g l.entry r.entry p.entry q.entry (s.part p q e)
  part_of p q (first e f) = merged-yes eqb g l.entry r.entry p.entry (in_second p e) ∙ sym (merged-first eqb g l.entry r.entry q.entry (s.part q l f))
  part_of p q (second e f) = merged-first eqb g l.entry r.entry p.entry (s.part p l e) ∙ sym (merged-yes eqb g l.entry r.entry q.entry (in_second q f))

  apart : (p q : Place) → h p ≡ h r → h q ≡ h l → p.entry ≡ q.entry → ⊥
  apart p q e f same = eqb-false (g l.entry) (g r.entry) new (sym (s.part q l f) ∙ ap g (sym same) ∙ s.part p r e)

  one_of : (p q : Place) → JoinedBy p q → p.entry ≡ q.entry → p ≡ q
  one_of p q (before e) same = s.one p q e same
  one_of p q (first e f) same = absurd (apart p q e f same)
  one_of p q (second e f) same = absurd (apart q p f e (sym same))

  module _ (p : Place) (b : IsBridge h p) where
    abbrev flips : Bool
    flips = flip (side_of_column b.side p l) (side_of_column b.side p r)

    abbrev side' : ℕ → Bool
    side' x = cond (eqb (g x) (g r.entry)) (flip flips (b.side x)) (b.side x)

    seen_turned : (q : Place) → eqb (g q.entry) (g r.entry) ≡ true → side_of_column side' p q ≡ flip flips (side_of_column b.side p q)
    seen_turned q e = elim (cases_Bool (same_place q p)) [
      | inl at_p ↦ rw (at_p, e) (flip-not flips (b.side q.entry))
      | inr off_p ↦ rw (off_p, e) refl
    ]

    seen_same : (q : Place) → eqb (g q.entry) (g r.entry) ≡ false → side_of_column side' p q ≡ side_of_column b.side p q
    seen_same q e = elim (cases_Bool (same_place q p)) [
      | inl at_p ↦ rw (at_p, e) refl
      | inr off_p ↦ rw (off_p, e) refl
    ]

    across : (q u : Place) → h q ≡ h r → h u ≡ h l → side_of_column side' p q ≡ side_of_column side' p u
    across q u e f =
        seen_turned q (in_second q e) ∙ ap (flip flips) (b.together q r e)
        ∙ flip-flip (side_of_column b.side p l) (side_of_column b.side p r) ∙ sym (b.together u l f) ∙ sym (seen_same u (not_second u f))

    together_of : (q u : Place) → JoinedBy q u → side_of_column side' p q ≡ side_of_column side' p u
    together_of q u (before e) = elim (cases_Bool (eqb (g q.entry) (g r.entry))) [
      | inl t ↦ (let t' : eqb (g u.entry) (g r.entry) ≡ true = subst (λ n. eqb n (g r.entry) ≡ true) (s.part q u e) t in
          seen_turned q t ∙ ap (flip flips) (b.together q u e) ∙ sym (seen_turned u t'))
      | inr t ↦ (let t' : eqb (g u.entry) (g r.entry) ≡ false = subst (λ n. eqb n (g r.entry) ≡ false) (s.part q u e) t in
          seen_same q t ∙ b.together q u e ∙ sym (seen_same u t'))
    ]
    together_of q u (first e f) = across q u e f
    together_of q u (second e f) = sym (across u q f e)

    bridge_of : IsBridge h' p
    bridge_of = record { side = side'; together = λ q u e. together_of q u (how_joined q u e) }

  joined_sound : Sound g' h'
  joined_sound = record {
    part = λ p q e. part_of p q (how_joined p q e);
    one = λ p q e same. one_of p q (how_joined p q e) same;
    bridge = λ p. bridge_of p (s.bridge p);
  }

abbrev pub LiesTogether : (ℕ → Bool) → List Edge → Type 0
LiesTogether side es = AllByRecursion (λ e. side e.left.entry ≡ side e.right.entry) es

-- `g x` names the component of x by one of its entries. In every division into two sides that splits no earlier equality, `x` and `g x` are on the
-- same side
abbrev AreParts : (ℕ → ℕ) → List Edge → Type 0
AreParts g earlier = (side : ℕ → Bool) → LiesTogether side earlier → (x : ℕ) → side (g x) ≡ side x

parts_more : (g : ℕ → ℕ) (earlier : List Edge) (e : Edge) → AreParts g earlier → AreParts (merged_by eqb g e.left.entry e.right.entry) (e ∷ earlier)
parts_more g earlier e parts side all x = elim (cases_Bool (eqb (g x) (g e.right.entry))) [
  | inl t ↦ ap side (merged-yes eqb g e.left.entry e.right.entry x t) ∙ parts side all.1 e.left.entry ∙ all.0 ∙ sym (parts side all.1 e.right.entry)
      ∙ ap side (sym (eqb-true (g x) (g e.right.entry) t)) ∙ parts side all.1 x
  | inr n ↦ ap side (merged-no eqb g e.left.entry e.right.entry x n) ∙ parts side all.1 x
]

parts_differ : (g : ℕ → ℕ) (earlier : List Edge) (a b : ℕ) → AreParts g earlier → AreApart earlier a b → eqb (g a) (g b) ≡ false
parts_differ g earlier a b parts apart = elim (cases_Bool (eqb (g a) (g b))) [
  | inl t ↦ absurd (apart.across (sym (parts apart.side apart.together a) ∙ ap apart.side (eqb-true (g a) (g b) t) ∙ parts apart.side apart.together b))
  | inr n ↦ n
]

sound_after : (g : ℕ → ℕ) (h : Place → Place) (earlier es : List Edge) → Sound g h → AreParts g earlier → ClosesNoCycleAfter earlier es → (c : ℕ → ℕ) × Sound c (classes_from h es)
sound_after g h earlier [] s parts closes = (g, s)
sound_after g h earlier (e ∷ es) s parts closes =
    sound_after (merged_by eqb g e.left.entry e.right.entry) (merged h e.left e.right) (e ∷ earlier) es
    (joined_sound g h e.left e.right s (parts_differ g earlier e.left.entry e.right.entry parts closes.0)) (parts_more g earlier e parts) closes.1

start_sound : Sound (λ e. e) (λ p. p)
start_sound = record {
  part = λ p q e. ap (λ (u : Place). u.entry) e;
  one = λ p q e same. e;
  bridge = λ p. record { side = λ x. true; together = λ q u e. ap (side_of_column (λ x. true) p) e };
}

pub has_no_cycle : (es : List Edge) → ClosesNoCycle es → HasNoCycle (class_of es)
has_no_cycle es closes =
    let sound : (c : ℕ → ℕ) × Sound c (class_of es) = sound_after (λ e. e) (λ p. p) [] es start_sound (λ side all x. refl) closes in
    record { one_column = sound.1.one; bridges = sound.1.bridge }

pub ends_differ : (earlier es : List Edge) → ClosesNoCycleAfter earlier es → AllByRecursion (λ e. e.left.entry ≢ e.right.entry) es
ends_differ earlier [] closes = tt
ends_differ earlier (e ∷ es) closes = ((λ same. closes.0.across (ap closes.0.side same)), ends_differ (e ∷ earlier) es closes.1)

pub apart_by : (es : List Edge) (a b : ℕ) (name : ℕ → ℕ) → AllByRecursion (λ e. name e.left.entry ≡ name e.right.entry) es → name a ≢ name b → AreApart es a b
apart_by es a b name same differ = record {
  side = λ x. eqb (name x) (name a);
  together = sides es same;
  across = λ e. differ (sym (eqb-true (name b) (name a) (sym e ∙ eq-eqb (name a) (name a) refl)));
}
  where
    sides : (es : List Edge) → AllByRecursion (λ e. name e.left.entry ≡ name e.right.entry) es → AllByRecursion (λ e. eqb (name e.left.entry) (name a) ≡ eqb (name e.right.entry) (name a)) es
    sides [] h = tt
    sides (e ∷ es) h = (ap (λ n. eqb n (name a)) h.0, sides es h.1)
