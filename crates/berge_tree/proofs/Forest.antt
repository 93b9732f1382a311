-- `forest` makes one tree for each component of the entries: the trees have each entry once.
use Rattle.std.proofs.Common.{◌≡◌, ◌≢◌, ℕ, true, false, eqb, List, [], ◌∷◌, ◌++◌, ◌+◌, ◌<◌, ◌≤◌, arith, refl, sym, ◌∙◌, subst, ◌⊎◌, inl, inr, None}
use Rattle.std.specs.List.{Contains, AllByRecursion, AllPairs}
use Rattle.std.specs.List.Sorted.{IsStrictlyIncreasing}
use Rattle.std.proofs.lemmas.Bool.{cases_Bool, eq-eqb, eqb-true, false≢true}
use Rattle.std.proofs.lemmas.List.Elements.{Contains-append_left, Contains-append_right, Contains-append_cases}
use Rattle.std.proofs.lemmas.List.Kept.{AllPairs-from_increasing}
use Rattle.std.specs.Cmp.{both_ways}
use Rattle.entry_sets.proofs.Listing.{increasing_with_front, in_rest, in_front, not_in_empty, at_member, in_front_or_rest}
use Rattle.berge_tree.specs.Trees.{BergeTree}
use Rattle.berge_tree.specs.Trees.{entries, entries_below, entries_of_all}
use Rattle.berge_tree.specs.declared.edges.Place.{Place}
use Rattle.berge_tree.specs.declared.edges.Edge.{Edge}
use Rattle.berge_tree.specs.declared.columns.Column.{Column}
use Rattle.berge_tree.specs.Equalities.{class_of}
use Rattle.berge_tree.specs.Equalities.{places_of}
use Rattle.berge_tree.specs.Rooted.{class_columns, AreItsColumns, FollowsBelow, IsTreeOf, AreAllTreesOf, roots}
use Rattle.berge_tree.proofs.NoCycle.{has_no_cycle, ends_differ}
use Rattle.berge_tree.specs.Equalities.{ClosesNoCycle, AreWithin}
use Rattle.berge_tree.specs.Walk.{AreSortedColumnsOf, classes_below, tree_at, is_among, forest}
use Rattle.berge_tree.proofs.Steps.{are_same, root_reached}
use Rattle.berge_tree.proofs.Separate.{Distinct, all_append, all_map, later_above, pairs_tail, once_tree, one_side, pairs_from}
use Rattle.berge_tree.proofs.Closed.{named_if_not_alone, closed_tree}
use Rattle.berge_tree.proofs.Made.{walked_follows}

pub among : (xs : List ℕ) (x : ℕ) → is_among xs x ≡ true → Contains xs x
among [] x = λ e. absurd (false≢true e)
among (y ∷ ys) x = elim (cases_Bool (eqb y x)) [
  | inl t ↦ (λ e. in_front y ys x (sym (eqb-true y x t)))
  | inr n ↦ rw n (λ e. in_rest y ys x (among ys x e))
]

pub is_in : (xs : List ℕ) (x : ℕ) → Contains xs x → is_among xs x ≡ true
is_in [] x k = absurd (not_in_empty x k)
is_in (y ∷ ys) x k = elim (cases_Bool (eqb y x)) [
  | inl t ↦ rw t refl
  | inr n ↦ rw n (elim (in_front_or_rest y ys x k) [
    | inl old ↦ is_in ys x old
    | inr is ↦ absurd (false≢true (sym n ∙ eq-eqb y x (sym is)))
  ])
]

pub all_in : (Q : ℕ → Type 0) (xs : List ℕ) → ((x : ℕ) → Contains xs x → Q x) → AllByRecursion Q xs
all_in Q [] h = tt
all_in Q (x ∷ xs) h = (h x (in_front x xs x refl), all_in Q xs (λ y k. h y (in_rest x xs y k)))

distinct_avoiding : (xs ys : List ℕ) → Distinct xs → Distinct ys → AllByRecursion (λ e. Contains xs e → ⊥) ys → Distinct (xs ++ ys)
distinct_avoiding [] ys dx dy h = dy
distinct_avoiding (x ∷ xs) ys dx dy h = (
  all_append (λ y. x ≢ y) xs ys dx.0 (all_map (λ e. Contains (x ∷ xs) e → ⊥) (λ y. x ≢ y) (λ e k is. k (in_front x xs e (sym is))) ys h),
  distinct_avoiding xs ys dx.1 dy (all_map (λ e. Contains (x ∷ xs) e → ⊥) (λ e. Contains xs e → ⊥) (λ e k m. k (in_rest x xs e m)) ys h),
)

-- if the set has one entry of a class, it has all entries of the class
abbrev pub IsClosed : List Edge → List ℕ → Type 0
IsClosed es done = (u v : Place) → class_of es u ≡ class_of es v → Contains done u.entry → Contains done v.entry

pub closed_side : (es : List Edge) (done : List ℕ) → IsClosed es done → (u v : Place) → class_of es u ≡ class_of es v → is_among done u.entry ≡ is_among done v.entry
closed_side es done h u v e = both_ways (is_among done u.entry) (is_among done v.entry)
    (λ t. is_in done v.entry (h u v e (among done u.entry t)))
    (λ t. is_in done u.entry (h v u (sym e) (among done v.entry t)))

pub within_place : (set : List ℕ) (es : List Edge) → AreWithin set es → (p : Place) → Contains (places_of es) p → Contains set p.entry
within_place set [] h p k = absurd (not_in_empty p k)
within_place set (e ∷ es) h p k = elim (in_front_or_rest e.left (e.right ∷ places_of es) p k) [
  | inr is ↦ subst (λ (u : Place). Contains set u.entry) (sym is) h.0.0
  | inl old ↦ elim (in_front_or_rest e.right (places_of es) p old) [
    | inr is ↦ subst (λ (u : Place). Contains set u.entry) (sym is) h.0.1
    | inl older ↦ within_place set es h.1 p older
  ]
]

module _ (es : List Edge) (closes : ClosesNoCycle es) (columns : List Column) (are : AreSortedColumnsOf es columns) (set : List ℕ) (n : ℕ) (inside : AreWithin set es) (all_below : AllByRecursion (λ x. x < n) set) where
  pub follows : (x : ℕ) → Contains set x → AreItsColumns es x None (class_columns (classes_below n columns x None)) × FollowsBelow es x (classes_below n columns x None)
  follows x k =
      walked_follows es (has_no_cycle es closes) (ends_differ [] es closes) columns are n (λ p m. at_member (λ y. y < n) set all_below p.entry (within_place set es inside p m)) n [] x None (root_reached (class_of es) x) tt tt
      (at_member (λ y. y < n) set all_below x k) (omega arith)

  pub set_closed : IsClosed es set
  set_closed u v e k = elim (are_same v u) [
    | inl is ↦ subst (λ (w : Place). Contains set w.entry) (sym is) k
    | inr ne ↦ within_place set es inside v (named_if_not_alone es v u (sym e) ne)
  ]

  record IsForest (done xs : List ℕ) (ts : List BergeTree) : Type 0 where
    trees : AllByRecursion (IsTreeOf es) ts
    ascending : IsStrictlyIncreasing (roots ts)
    rooted : AllByRecursion (Contains xs) (roots ts)
    once : Distinct (entries_of_all ts)
    avoids : AllByRecursion (λ e. Contains done e → ⊥) (entries_of_all ts)
    covers : (s : ℕ) → Contains set s → Contains done s ⊎ Contains (entries_of_all ts) s
    within : AllByRecursion (Contains set) (entries_of_all ts)

  abbrev Splits : List ℕ → List ℕ → Type 0
  Splits done xs = (s : ℕ) → Contains set s → Contains done s ⊎ Contains xs s

  skip : (done : List ℕ) (x : ℕ) (xs : List ℕ) (ts : List BergeTree) → IsForest done xs ts → IsForest done (x ∷ xs) ts
  skip done x xs ts h = record {
    trees = h.trees;
    ascending = h.ascending;
    rooted = all_map (Contains xs) (Contains (x ∷ xs)) (λ y k. in_rest x xs y k) (roots ts) h.rooted;
    once = h.once;
    avoids = h.avoids;
    covers = h.covers;
    within = h.within;
  }

  plant : (done : List ℕ) (x : ℕ) (xs : List ℕ) (ts : List BergeTree) → AllPairs (λ a b. a < b) (x ∷ xs) → IsClosed es done → Splits done (x ∷ xs) → Contains set x → is_among done x ≡ false
      → IsForest (entries (tree_at n columns x) ++ done) xs ts → IsForest done (x ∷ xs) (tree_at n columns x ∷ ts)
  plant done x xs ts pairs closed splits x_in new h = record {
    trees = (record { columns = f.0; follows = f.1; least = all_in (λ e. x ≤ e) E least }, h.trees);
    ascending = increasing_with_front x (roots ts) (all_map (Contains xs) (λ y. x < y) (λ y k. later_above x xs pairs y k) (roots ts) h.rooted) h.ascending;
    rooted = (in_front x xs x refl, all_map (Contains xs) (Contains (x ∷ xs)) (λ y k. in_rest x xs y k) (roots ts) h.rooted);
    once = distinct_avoiding E (entries_of_all ts) (once_tree es (has_no_cycle es closes) t f.0 f.1) h.once
        (all_map (λ e. Contains (E ++ done) e → ⊥) (λ e. Contains E e → ⊥) (λ e k m. k (Contains-append_left E done e m)) (entries_of_all ts) h.avoids);
    avoids = all_append (λ e. Contains done e → ⊥) E (entries_of_all ts) (all_in (λ e. Contains done e → ⊥) E off_done)
        (all_map (λ e. Contains (E ++ done) e → ⊥) (λ e. Contains done e → ⊥) (λ e k m. k (Contains-append_right E done e m)) (entries_of_all ts) h.avoids);
    covers = λ s k. elim (h.covers s k) [
      | inl old ↦ elim (Contains-append_cases E done s old) [
        | inl m ↦ inr (Contains-append_left E (entries_of_all ts) s m)
        | inr m ↦ inl m
      ]
      | inr m ↦ inr (Contains-append_right E (entries_of_all ts) s m)
    ];
    within = all_append (Contains set) E (entries_of_all ts) (all_in (Contains set) E in_set) h.within;
  }
    where
      t : BergeTree
      t = tree_at n columns x

      E : List ℕ
      E = entries t

      f : AreItsColumns es x None (class_columns (classes_below n columns x None)) × FollowsBelow es x (classes_below n columns x None)
      f = follows x x_in

      off_done : (e : ℕ) → Contains E e → Contains done e → ⊥
      off_done e k m =
          let same : is_among done e ≡ is_among done x = at_member (λ y. is_among done y ≡ is_among done x) E (one_side es (has_no_cycle es closes) t f.0 f.1 (is_among done) (closed_side es done closed)) e k in
          false≢true (sym new ∙ sym same ∙ is_in done e m)

      in_set : (e : ℕ) → Contains E e → Contains set e
      in_set e k =
          let same : is_among set e ≡ is_among set x = at_member (λ y. is_among set y ≡ is_among set x) E (one_side es (has_no_cycle es closes) t f.0 f.1 (is_among set) (closed_side es set set_closed)) e k in
          among set e (same ∙ is_in set x x_in)

      least : (e : ℕ) → Contains E e → x ≤ e
      least e k = elim (splits e (in_set e k)) [
        | inl m ↦ absurd (off_done e k m)
        | inr m ↦ elim (in_front_or_rest x xs e m) [ inl later ↦ weak x e (later_above x xs pairs e later) | inr is ↦ same_le x e is ]
      ]
        where
          weak : (a b : ℕ) → a < b → a ≤ b
          weak a b l = omega (arith, l)

          same_le : (a b : ℕ) → b ≡ a → a ≤ b
          same_le a b l = omega (arith, l)

  grown : (done : List ℕ) (x : ℕ) → Contains set x → IsClosed es done → IsClosed es (entries (tree_at n columns x) ++ done)
  grown done x k closed u v e m = elim (Contains-append_cases (entries (tree_at n columns x)) done u.entry m) [
    | inl a ↦ Contains-append_left (entries (tree_at n columns x)) done v.entry (closed_tree es (tree_at n columns x) (follows x k).0 (follows x k).1 u v a e)
    | inr b ↦ Contains-append_right (entries (tree_at n columns x)) done v.entry (closed u v e b)
  ]

  forested : (done xs : List ℕ) → AllPairs (λ a b. a < b) xs → IsClosed es done → Splits done xs → AllByRecursion (Contains set) xs → IsForest done xs (forest n columns done xs)
  forested done [] pairs closed splits in_all = record {
    trees = tt;
    ascending = λ k l. none k l;
    rooted = tt;
    once = tt;
    avoids = tt;
    covers = λ s k. elim (splits s k) [ inl d ↦ inl d | inr m ↦ absurd (not_in_empty s m) ];
    within = tt;
  }
    where
      none : (k : ℕ) → k + 1 < 0 → {A : Type 0} → A
      none k l = absurd (omega (arith, l))
  forested done (x ∷ xs) pairs closed splits in_all = elim (cases_Bool (is_among done x)) [
    | inl old ↦ rw old (skip done x xs (forest n columns done xs) (forested done xs (pairs_tail x xs pairs) closed
        (λ s k. elim (splits s k) [
          | inl d ↦ inl d
          | inr m ↦ elim (in_front_or_rest x xs s m) [ inl later ↦ inr later | inr is ↦ inl (subst (Contains done) (sym is) (among done x old)) ]
        ]) in_all.1))
    | inr new ↦ rw new (plant done x xs (forest n columns (entries (tree_at n columns x) ++ done) xs) pairs closed splits in_all.0 new
        (forested (entries (tree_at n columns x) ++ done) xs (pairs_tail x xs pairs) (grown done x in_all.0 closed)
        (λ s k. elim (splits s k) [
          | inl d ↦ inl (Contains-append_right (entries (tree_at n columns x)) done s d)
          | inr m ↦ elim (in_front_or_rest x xs s m) [
            | inl later ↦ inr later
            | inr is ↦ inl (Contains-append_left (entries (tree_at n columns x)) done s (in_front x (entries_below (tree_at n columns x).below) s is))
          ]
        ]) in_all.1))
  ]

  pub all_trees : IsStrictlyIncreasing set → AreAllTreesOf es set (forest n columns [] set)
  all_trees increasing =
      let h : IsForest [] set (forest n columns [] set) = forested [] set (AllPairs-from_increasing set increasing) (λ u v e k. absurd (not_in_empty u.entry k)) (λ s k. inr k) (all_in (Contains set) set (λ x k. k)) in
      record {
        trees = h.trees;
        ascending = h.ascending;
        once = pairs_from (entries_of_all (forest n columns [] set)) h.once;
        covers = all_in (Contains (entries_of_all (forest n columns [] set))) set (λ s k. elim (h.covers s k) [ inl d ↦ absurd (not_in_empty s d) | inr m ↦ m ]);
        within = h.within;
      }
