-- A tree that follows the equalities has each entry that the equalities join to an entry of the tree.
use Rattle.std.proofs.Common.{◌≡◌, ◌≢◌, ℕ, List, [], ◌∷◌, ◌++◌, refl, ap, sym, ◌∙◌, subst, ◌⊎◌, inl, inr, Option, Some, None}
use Rattle.std.specs.List.{Contains}
use Rattle.std.proofs.lemmas.Bool.{cases_Bool}
use Rattle.std.proofs.lemmas.List.Elements.{Contains-append_left, Contains-append_right, Contains-append_cases}
use Rattle.entry_sets.proofs.Listing.{in_rest, in_front, not_in_empty, in_front_or_rest}
use Rattle.berge_tree.specs.Trees.{Classes, no_class, and_class, Members, one_member, and_member, BergeTree}
use Rattle.berge_tree.specs.Trees.{entries_below, entries_within, entries}
use Rattle.berge_tree.specs.declared.edges.Place.{Place}
use Rattle.berge_tree.specs.declared.edges.Edge.{Edge}
use Rattle.berge_tree.specs.Equalities.{same_place, merged, classes_from, class_of}
use Rattle.berge_tree.specs.Equalities.{place, places_of}
use Rattle.berge_tree.specs.Rooted.{class_columns, member_places, AreItsColumns, AreItsOthers, FollowsBelow, FollowsWithin}
use Rattle.berge_tree.proofs.NoCycle.{same_place-true, merged-yes, merged-no}
use Rattle.berge_tree.proofs.Steps.{are_same, none_some}

-- ---- if a column is in a class with another column, an equality names it

abbrev pub IsAlone : (Place → Place) → Place → Type 0
IsAlone h u = (h u ≡ u) × ((p : Place) → p ≢ u → h p ≢ u)

merged_alone : (h : Place → Place) (l r u : Place) → IsAlone h u → u ≢ l → u ≢ r → IsAlone (merged h l r) u
merged_alone h l r u alone not_l not_r = (own, other)
  where
    own : merged h l r u ≡ u
    own = elim (cases_Bool (same_place (h u) (h r))) [
      | inl t ↦ absurd (alone.1 r (λ is. not_r (sym is)) (sym (same_place-true (h u) (h r) t) ∙ alone.0))
      | inr n ↦ merged-no same_place h l r u n ∙ alone.0
    ]

    other : (p : Place) → p ≢ u → merged h l r p ≢ u
    other p ne is = elim (cases_Bool (same_place (h p) (h r))) [
      | inl t ↦ alone.1 l (λ e. not_l (sym e)) (sym (merged-yes same_place h l r p t) ∙ is)
      | inr n ↦ alone.1 p ne (sym (merged-no same_place h l r p n) ∙ is)
    ]

pub named_or_alone : (es : List Edge) (h : Place → Place) (u : Place) → IsAlone h u → Contains (places_of es) u ⊎ IsAlone (classes_from h es) u
named_or_alone [] h u alone = inr alone
named_or_alone (e ∷ es) h u alone = elim (are_same u e.left) [
  | inl is ↦ inl (in_front e.left (e.right ∷ places_of es) u is)
  | inr not_l ↦ elim (are_same u e.right) [
    | inl is ↦ inl (in_rest e.left (e.right ∷ places_of es) u (in_front e.right (places_of es) u is))
    | inr not_r ↦ elim (named_or_alone es (merged h e.left e.right) u (merged_alone h e.left e.right u alone not_l not_r)) [
      | inl k ↦ inl (in_rest e.left (e.right ∷ places_of es) u (in_rest e.right (places_of es) u k))
      | inr a ↦ inr a
    ]
  ]
]

pub named_if_not_alone : (es : List Edge) (u v : Place) → class_of es u ≡ class_of es v → u ≢ v → Contains (places_of es) u
named_if_not_alone es u v e ne = elim (named_or_alone es (λ p. p) u (refl, λ p d. d)) [
  | inl k ↦ k
  | inr a ↦ absurd (a.1 v (λ is. ne (sym is)) (sym e ∙ a.0))
]

-- ---- if the tree has an entry of a class, it has all entries of the class

member_in : (ms : Members) (q : Place) → Contains (member_places ms) q → Contains (entries_within ms) q.entry
member_in (one_member entry column below) q k = elim (in_front_or_rest (place entry column) [] q k) [
  | inl old ↦ absurd (not_in_empty q old)
  | inr is ↦ in_front entry (entries_below below) q.entry (ap (λ (u : Place). u.entry) is)
]
member_in (and_member entry column below rest) q k = elim (in_front_or_rest (place entry column) (member_places rest) q k) [
  | inl old ↦ in_rest entry (entries_below below ++ entries_within rest) q.entry (Contains-append_right (entries_below below) (entries_within rest) q.entry (member_in rest q old))
  | inr is ↦ in_front entry (entries_below below ++ entries_within rest) q.entry (ap (λ (u : Place). u.entry) is)
]

module _ (es : List Edge) where
  within_class : (r : Place) (ms : Members) → AreItsOthers es r ms → (q : Place) → class_of es r ≡ class_of es q → Contains (entries_within ms) q.entry ⊎ (q.entry ≡ r.entry)
  within_class r ms h q e = elim (are_same q r) [
    | inl is ↦ inr (ap (λ (u : Place). u.entry) is)
    | inr ne ↦ inl (member_in ms q (h.all q (named_if_not_alone es q r (sym e) ne) e ne))
  ]

  reach_below : (y : ℕ) (cs : Classes) → FollowsBelow es y cs → (c : ℕ) → Contains (class_columns cs) c → (q : Place) → class_of es (place y c) ≡ class_of es q
      → Contains (entries_below cs) q.entry ⊎ (q.entry ≡ y)
  reach_below y no_class f c k q e = absurd (not_in_empty c k)
  reach_below y (and_class column members rest) f c k q e = elim (in_front_or_rest column (class_columns rest) c k) [
    | inl old ↦ elim (reach_below y rest f.2 c old q e) [
      | inl m ↦ inl (Contains-append_right (entries_within members) (entries_below rest) q.entry m)
      | inr is ↦ inr is
    ]
    | inr is ↦ elim (within_class (place y column) members f.0 q (subst (λ d. class_of es (place y d) ≡ class_of es q) is e)) [
      | inl m ↦ inl (Contains-append_left (entries_within members) (entries_below rest) q.entry m)
      | inr at ↦ inr at
    ]
  ]

  at_entry : (z : ℕ) (above : Option ℕ) (below : Classes) → AreItsColumns es z above (class_columns below) → FollowsBelow es z below → (q q' : Place) → q.entry ≡ z → class_of es q ≡ class_of es q'
      → above ≢ Some q.column → Contains (entries_below below) q'.entry ⊎ (q'.entry ≡ z)
  at_entry z above below columns f q q' q_at e off = elim (are_same q q') [
    | inl is ↦ inr (ap (λ (u : Place). u.entry) (sym is) ∙ q_at)
    | inr ne ↦ reach_below z below f q.column
        (columns.all q.column (subst (λ a. Contains (places_of es) (place a q.column)) q_at (named_if_not_alone es q q' e ne)) off) q'
        (subst (λ a. class_of es (place a q.column) ≡ class_of es q') q_at e)
  ]

  abbrev Leads : List ℕ → List Place → Place → Type 0
  Leads E ps q = Contains E q.entry ⊎ ((s : Place) × Contains ps s × (class_of es s ≡ class_of es q))

  column_differs : (s q : Place) → q.entry ≡ s.entry → q ≢ s → Some s.column ≢ Some q.column
  column_differs s q at ne is = ne (place_by q s at (sym (of_some s.column q.column is)))
    where
      of_some : (a b : ℕ) → Some a ≡ Some b → a ≡ b
      of_some a b e = sym (subst (λ o. or_a o ≡ a) e refl_a)
        where
          or_a : Option ℕ → ℕ
          or_a None = a
          or_a (Some d) = d

          refl_a : a ≡ a
          refl_a = refl

      place_by : (p r : Place) → p.entry ≡ r.entry → p.column ≡ r.column → p ≡ r
      place_by p r e f = ap (λ a. place a p.column) e ∙ ap (λ c. place r.entry c) f

  mutual
    closed_below : (y : ℕ) (cs : Classes) → FollowsBelow es y cs → (e : ℕ) → Contains (entries_below cs) e → (q q' : Place) → q.entry ≡ e → class_of es q ≡ class_of es q'
        → Contains (entries_below cs) q'.entry ⊎ (q'.entry ≡ y)
    closed_below y no_class f e k q q' at g = absurd (not_in_empty e k)
    closed_below y (and_class column members rest) f e k q q' at g = elim (Contains-append_cases (entries_within members) (entries_below rest) e k) [
      | inl m ↦ elim (closed_within members f.1 e m q q' at g) [
        | inl n ↦ inl (Contains-append_left (entries_within members) (entries_below rest) q'.entry n)
        | inr s ↦ elim (within_class (place y column) members f.0 q' ((f.0.some s.0 s.1).1 ∙ s.2)) [
          | inl n ↦ inl (Contains-append_left (entries_within members) (entries_below rest) q'.entry n)
          | inr is ↦ inr is
        ]
      ]
      | inr m ↦ elim (closed_below y rest f.2 e m q q' at g) [
        | inl n ↦ inl (Contains-append_right (entries_within members) (entries_below rest) q'.entry n)
        | inr is ↦ inr is
      ]
    ]

    closed_within : (ms : Members) → FollowsWithin es ms → (e : ℕ) → Contains (entries_within ms) e → (q q' : Place) → q.entry ≡ e → class_of es q ≡ class_of es q'
        → Leads (entries_within ms) (member_places ms) q'
    closed_within (one_member entry column below) f e k q q' at g = elim (in_front_or_rest entry (entries_below below) e k) [
      | inl m ↦ elim (closed_below entry below f.1 e m q q' at g) [
        | inl n ↦ inl (in_rest entry (entries_below below) q'.entry n)
        | inr is ↦ inl (in_front entry (entries_below below) q'.entry is)
      ]
      | inr e_is ↦ elim (are_same q (place entry column)) [
        | inl q_is ↦ inr (place entry column, in_front (place entry column) [] (place entry column) refl, ap (class_of es) (sym q_is) ∙ g)
        | inr ne ↦ elim (at_entry entry (Some column) below f.0 f.1 q q' (at ∙ e_is) g (column_differs (place entry column) q (at ∙ e_is) ne)) [
          | inl n ↦ inl (in_rest entry (entries_below below) q'.entry n)
          | inr is ↦ inl (in_front entry (entries_below below) q'.entry is)
        ]
      ]
    ]
    closed_within (and_member entry column below rest) f e k q q' at g =
        let E : List ℕ = entries_below below ++ entries_within rest in
        elim (in_front_or_rest entry E e k) [
          | inl m ↦ elim (Contains-append_cases (entries_below below) (entries_within rest) e m) [
            | inl m_b ↦ elim (closed_below entry below f.1 e m_b q q' at g) [
              | inl n ↦ inl (in_rest entry E q'.entry (Contains-append_left (entries_below below) (entries_within rest) q'.entry n))
              | inr is ↦ inl (in_front entry E q'.entry is)
            ]
            | inr m_r ↦ elim (closed_within rest f.2 e m_r q q' at g) [
              | inl n ↦ inl (in_rest entry E q'.entry (Contains-append_right (entries_below below) (entries_within rest) q'.entry n))
              | inr s ↦ inr (s.0, in_rest (place entry column) (member_places rest) s.0 s.1, s.2)
            ]
          ]
          | inr e_is ↦ elim (are_same q (place entry column)) [
            | inl q_is ↦ inr (place entry column, in_front (place entry column) (member_places rest) (place entry column) refl, ap (class_of es) (sym q_is) ∙ g)
            | inr ne ↦ elim (at_entry entry (Some column) below f.0 f.1 q q' (at ∙ e_is) g (column_differs (place entry column) q (at ∙ e_is) ne)) [
              | inl n ↦ inl (in_rest entry E q'.entry (Contains-append_left (entries_below below) (entries_within rest) q'.entry n))
              | inr is ↦ inl (in_front entry E q'.entry is)
            ]
          ]
        ]

  pub closed_tree : (t : BergeTree) → AreItsColumns es t.root None (class_columns t.below) → FollowsBelow es t.root t.below → (q q' : Place) → Contains (entries t) q.entry → class_of es q ≡ class_of es q'
      → Contains (entries t) q'.entry
  closed_tree t columns f q q' k e = elim (in_front_or_rest t.root (entries_below t.below) q.entry k) [
    | inl m ↦ elim (closed_below t.root t.below f q.entry m q q' refl e) [
      | inl n ↦ in_rest t.root (entries_below t.below) q'.entry n
      | inr is ↦ in_front t.root (entries_below t.below) q'.entry is
    ]
    | inr at ↦ elim (at_entry t.root None t.below columns f q q' at e (none_some q.column)) [
      | inl n ↦ in_rest t.root (entries_below t.below) q'.entry n
      | inr is ↦ in_front t.root (entries_below t.below) q'.entry is
    ]
  ]
