-- Suppose that two lists of equalities name the same columns of some entries, and make the same classes of these columns. Then they have the same
-- trees of these entries.
use Rattle.std.proofs.Common.{◌≡◌, ◌⊎◌, ℕ, zero, suc, ◌-◌, List, [], ◌∷◌, refl, ap, sym, subst, inl, inr, arith}
use Rattle.std.specs.Prelude.{⊤, Option, Some, None}
use Rattle.std.specs.List.{AllByRecursion, Contains}
use Rattle.entry_sets.specs.Sets.{entries_of_set}
use Rattle.entry_sets.proofs.Listing.{in_front, not_in_empty, in_rest, in_front_or_rest}
use Rattle.berge_tree.specs.declared.edges.Edge.{Edge}
use Rattle.berge_tree.specs.declared.edges.Place.{Place}
use Rattle.berge_tree.specs.Equalities.{ClosesNoCycle, class_of, place, places_of}
use Rattle.berge_tree.specs.Rooted.{AreAllTreesOf, AreItsColumns, AreItsOthers, FollowsBelow, FollowsWithin, IsTreeOf, class_columns, member_places}
use Rattle.berge_tree.specs.Trees.{Classes, no_class, and_class, Members, one_member, and_member, BergeTree, entries, entries_below, entries_within}
use Rattle.berge_tree.proofs.Joining.{class_of-joined, same_class_same_keys}
use Rattle.join_graph.specs.Kept.{equalities_within, kept_of, turn_count}
use Rattle.tree_bounds.specs.SetBounds.{bound_of_set, bound_of_turn, least_to, trees_of}
use Rattle.tree_bounds.specs.TreeBounds.{EntryBounds, bound_of_trees}
use Rattle.tree_bounds.proofs.Agreeing.{for_trees, all_left, all_right}
use Rattle.tree_bounds.proofs.Turns.{trees_are, trees_exist}
use Rattle.set_bounds.specs.Alike.{AreAlike}
use Rattle.set_bounds.proofs.Forests.{AreAmong, all_among, all_in, among_rotated, each, forest_kept, rotated_among}

-- ---- trees of one list of equalities that are trees of another list

-- es and fs name the same columns of the entries that have Q, and make the same classes of them. Each column that fs names is also named by es
pub record CarriesTrees (Q : ℕ → Type 0) (es fs : List Edge) : Type 0 where
  pub places_to : (q : Place) → Contains (places_of fs) q → Contains (places_of es) q
  pub places_from : (q : Place) → Q q.entry → Contains (places_of es) q → Contains (places_of fs) q
  pub class_to : (p q : Place) → Q p.entry → class_of fs p ≡ class_of fs q → class_of es p ≡ class_of es q
  pub class_from : (p q : Place) → Q p.entry → class_of es p ≡ class_of es q → class_of fs p ≡ class_of fs q

module _ (Q : ℕ → Type 0) (es fs : List Edge) (c : CarriesTrees Q es fs) where
  columns_carry : (entry : ℕ) (above : Option ℕ) (xs : List ℕ) → Q entry → AreItsColumns es entry above xs → AreItsColumns fs entry above xs
  columns_carry entry above xs q h = record {
    ascending = h.ascending;
    some = λ x k. (c.places_from (place entry x) q (h.some x k).0, (h.some x k).1);
    all = λ x k other. h.all x (c.places_to (place entry x) k) other;
  }

  others_carry : (above : Place) (ms : Members) → Q above.entry → AllByRecursion (λ p. Q p.entry) (member_places ms) → AreItsOthers es above ms → AreItsOthers fs above ms
  others_carry above ms q qs h = record {
    ascending = h.ascending;
    some = λ r k. (c.places_from r (each (λ p. Q p.entry) (member_places ms) qs r k) (h.some r k).0, c.class_from above r q (h.some r k).1, (h.some r k).2);
    all = λ r k same other. h.all r (c.places_to r k) (c.class_to above r q same) other;
  }

  members_so : (ms : Members) → AllByRecursion Q (entries_within ms) → AllByRecursion (λ p. Q p.entry) (member_places ms)
  members_so (one_member entry column below) qs = (qs.0, tt)
  members_so (and_member entry column below rest) qs = (qs.0, members_so rest (all_right Q (entries_below below) (entries_within rest) qs.1))

  mutual
    below_carry : (entry : ℕ) (cs : Classes) → Q entry → AllByRecursion Q (entries_below cs) → FollowsBelow es entry cs → FollowsBelow fs entry cs
    below_carry entry no_class q qs h = tt
    below_carry entry (and_class column members rest) q qs h =
        let own : AllByRecursion Q (entries_within members) = all_left Q (entries_within members) (entries_below rest) qs in
        (others_carry (place entry column) members q (members_so members own) h.0, within_carry members own h.1, below_carry entry rest q (all_right Q (entries_within members) (entries_below rest) qs) h.2)

    within_carry : (ms : Members) → AllByRecursion Q (entries_within ms) → FollowsWithin es ms → FollowsWithin fs ms
    within_carry (one_member entry column below) qs h = (columns_carry entry (Some column) (class_columns below) qs.0 h.0, below_carry entry below qs.0 qs.1 h.1)
    within_carry (and_member entry column below rest) qs h = (
      columns_carry entry (Some column) (class_columns below) qs.0 h.0,
      below_carry entry below qs.0 (all_left Q (entries_below below) (entries_within rest) qs.1) h.1,
      within_carry rest (all_right Q (entries_below below) (entries_within rest) qs.1) h.2,
    )

  pub tree_carries : (t : BergeTree) → AllByRecursion Q (entries t) → IsTreeOf es t → IsTreeOf fs t
  tree_carries t qs h = record { columns = columns_carry t.root None (class_columns t.below) qs.0 h.columns; follows = below_carry t.root t.below qs.0 qs.1 h.follows; least = h.least }

-- ---- two lists of equalities, if the second list has each equality of the first

record IsEndOf (es : List Edge) (q : Place) : Type 0 where
  edge : Edge
  there : Contains es edge
  at : (q ≡ edge.left) ⊎ (q ≡ edge.right)

end_of : (es : List Edge) (q : Place) → Contains (places_of es) q → IsEndOf es q
end_of [] q k = absurd (not_in_empty q k)
end_of (e ∷ es) q k = elim (in_front_or_rest e.left (e.right ∷ places_of es) q k) [
  | inr is ↦ record { edge = e; there = in_front e es e refl; at = inl is }
  | inl old ↦ elim (in_front_or_rest e.right (places_of es) q old) [
    | inr is ↦ record { edge = e; there = in_front e es e refl; at = inr is }
    | inl older ↦ (let found : IsEndOf es q = end_of es q older in record { edge = found.edge; there = in_rest e es found.edge found.there; at = found.at })
  ]
]

in_places : (es : List Edge) (e : Edge) → Contains es e → Contains (places_of es) e.left × Contains (places_of es) e.right
in_places [] e k = absurd (not_in_empty e k)
in_places (f ∷ es) e k = elim (in_front_or_rest f es e k) [
  | inr is ↦ (
    in_front f.left (f.right ∷ places_of es) e.left (ap (λ (g : Edge). g.left) is),
    in_rest f.left (f.right ∷ places_of es) e.right (in_front f.right (places_of es) e.right (ap (λ (g : Edge). g.right) is)),
  )
  | inl old ↦ (let later : Contains (places_of es) e.left × Contains (places_of es) e.right = in_places es e old in
      (in_rest f.left (f.right ∷ places_of es) e.left (in_rest f.right (places_of es) e.left later.0), in_rest f.left (f.right ∷ places_of es) e.right (in_rest f.right (places_of es) e.right later.1)))
]

pub places_where : (xs ys : List Edge) (q : Place) → ((e : Edge) → Contains xs e → ((q ≡ e.left) ⊎ (q ≡ e.right)) → Contains ys e) → Contains (places_of xs) q → Contains (places_of ys) q
places_where xs ys q there k =
    let found : IsEndOf xs q = end_of xs q k in
    let ends : Contains (places_of ys) found.edge.left × Contains (places_of ys) found.edge.right = in_places ys found.edge (there found.edge found.there found.at) in
    elim found.at [ inl left ↦ subst (Contains (places_of ys)) (sym left) ends.0 | inr right ↦ subst (Contains (places_of ys)) (sym right) ends.1 ]

pub classes_among : (xs ys : List Edge) → AreAmong xs ys → (p q : Place) → class_of xs p ≡ class_of xs q → class_of ys p ≡ class_of ys q
classes_among xs ys among p q e =
    class_of-joined ys p q (λ key all. same_class_same_keys xs p q e key (all_among (λ f. key f.left.entry f.left.column ≡ key f.right.entry f.right.column) xs ys among all))

carry_both_ways : (es fs : List Edge) → AreAmong es fs → AreAmong fs es → CarriesTrees (λ x. ⊤) es fs
carry_both_ways es fs there back = record {
  places_to = λ q k. places_where fs es q (λ e h at. back e h) k;
  places_from = λ q any k. places_where es fs q (λ e h at. there e h) k;
  class_to = λ p q any e. classes_among fs es back p q e;
  class_from = λ p q any e. classes_among es fs there p q e;
}

pub all_trees_carry : (es fs : List Edge) (set : List ℕ) (ts : List BergeTree) → CarriesTrees (λ x. ⊤) es fs → AreAllTreesOf es set ts → AreAllTreesOf fs set ts
all_trees_carry es fs set ts c h = record {
  trees = for_trees (IsTreeOf es) (IsTreeOf fs) (λ t is. tree_carries (λ x. ⊤) es fs c t (all_in (λ x. ⊤) (entries t) (λ x k. tt)) is) ts h.trees;
  ascending = h.ascending;
  once = h.once;
  covers = h.covers;
  within = h.within;
}

-- ---- turns that keep equalities with the same classes have the same trees

pub same_trees : (es : List Edge) (subset turn other : ℕ) → CarriesTrees (λ x. ⊤) (kept_of subset turn es) (kept_of subset other es)
    → trees_of (kept_of subset turn es) subset ≡ trees_of (kept_of subset other es) subset
same_trees es subset turn other c =
    trees_are es subset other (trees_of (kept_of subset turn es) subset)
    (all_trees_carry (kept_of subset turn es) (kept_of subset other es) (entries_of_set subset) (trees_of (kept_of subset turn es) subset) c (trees_exist es subset turn))

pub alike_trees : (es : List Edge) (subset turn other : ℕ) → AreAlike (kept_of subset turn es) (kept_of subset other es)
    → trees_of (kept_of subset turn es) subset ≡ trees_of (kept_of subset other es) subset
alike_trees es subset turn other h = same_trees es subset turn other (record {
  places_to = λ q k. (h.columns q).1 k;
  places_from = λ q any k. (h.columns q).0 k;
  class_to = λ p q any e. (h.classes p q).1 e;
  class_from = λ p q any e. (h.classes p q).0 e;
})

-- ---- if a set's equalities close no cycle, all its turns are alike

pub forest_turn : (b : EntryBounds) (es : List Edge) (subset turn : ℕ) → ClosesNoCycle (equalities_within subset es) → bound_of_turn b es subset turn ≡ bound_of_turn b es subset 0
forest_turn b es subset turn h =
    ap (bound_of_trees b) (same_trees es subset turn 0 (carry_both_ways (kept_of subset turn es) (kept_of subset 0 es) (from turn 0) (from 0 turn)))
  where
    from : (i j : ℕ) → AreAmong (kept_of subset i es) (kept_of subset j es)
    from i j e k =
        let there : Contains (equalities_within subset es) e = rotated_among i (equalities_within subset es) e (subst (λ (xs : List Edge). Contains xs e) (forest_kept es subset i h) k) in
        subst (λ (xs : List Edge). Contains xs e) (sym (forest_kept es subset j h)) (among_rotated j (equalities_within subset es) e there)

pub least_alike : (f : ℕ → ℕ) (n : ℕ) → ((k : ℕ) → f k ≡ f 0) → least_to f n ≡ f 0
least_alike f zero same = refl
least_alike f (suc n) same = omega (arith, least_alike f n same, same (suc n))

pub forest_set : (b : EntryBounds) (es : List Edge) (subset : ℕ) → ClosesNoCycle (equalities_within subset es) → bound_of_set b es subset ≡ bound_of_turn b es subset 0
forest_set b es subset h = least_alike (bound_of_turn b es subset) (turn_count subset es - 1) (λ turn. forest_turn b es subset turn h)
