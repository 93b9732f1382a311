-- Suppose that the equalities of a set close no cycle, and that the set consists of two parts that no equality joins. Then the set's bound is the
-- product of the parts' bounds.
use Rattle.std.proofs.Common.{◌≡◌, ◌≢◌, ◌⊎◌, ℕ, ◌*◌, Bool, true, false, cond, not, ◌&&◌, List, [], ◌∷◌, ◌++◌, refl, ap, sym, ◌∙◌, subst, inl, inr, mul_assoc, mul_comm, arith}
use Rattle.std.specs.Prelude.{filter}
use Rattle.std.specs.List.{AllByRecursion, AllPairs, Contains}
use Rattle.std.specs.List.Sorted.{IsStrictlyIncreasing}
use Rattle.std.proofs.lemmas.Bool.{cases_Bool, and_parts, and_from}
use Rattle.std.proofs.lemmas.List.Elements.{Contains-append_left, Contains-append_right, filter-append}
use Rattle.std.proofs.lemmas.List.Kept.{AllPairs-filter, IsStrictlyIncreasing-filter}
use Rattle.entry_sets.specs.Sets.{IsSubset, entries_of_set, has_entry}
use Rattle.entry_sets.proofs.Listing.{in_front, not_in_empty, in_rest, in_front_or_rest, set_entries, set_entries_only}
use Rattle.berge_tree.specs.declared.edges.Edge.{Edge}
use Rattle.berge_tree.specs.declared.edges.Place.{Place}
use Rattle.berge_tree.specs.Equalities.{ClosesNoCycle, class_of}
use Rattle.berge_tree.specs.Rooted.{AreAllTreesOf, IsTreeOf, roots}
use Rattle.berge_tree.specs.Trees.{BergeTree, entries, entries_below, entries_of_all}
use Rattle.berge_tree.proofs.Joining.{class_of-joined, same_class_same_keys}
use Rattle.berge_tree.proofs.NoCycle.{has_no_cycle}
use Rattle.berge_tree.proofs.Separate.{one_side}
use Rattle.join_graph.specs.Kept.{equalities_within, joins_within, kept_of}
use Rattle.tree_bounds.specs.SetBounds.{bound_of_set, bound_of_turn, trees_of}
use Rattle.tree_bounds.specs.TreeBounds.{EntryBounds, bound_of_tree, bound_of_trees}
use Rattle.tree_bounds.proofs.Turns.{closes, trees_are, trees_exist}
use Rattle.set_bounds.specs.Parts.{AreUnjoined, ConsistsOfParts}
use Rattle.set_bounds.proofs.Forests.{AreAmong, all_in, among_rotated, each, forest_kept, forest_within, rotated_among, within_of}
use Rattle.set_bounds.proofs.SameTrees.{CarriesTrees, classes_among, forest_set, places_where, tree_carries}

-- ---- members of filtered lists

in_filter : {X : Type 0} (p : X → Bool) (xs : List X) (x : X) → Contains xs x → p x ≡ true → Contains (filter p xs) x
in_filter p [] x k t = absurd (not_in_empty x k)
in_filter p (y ∷ ys) x k t = elim (in_front_or_rest y ys x k) [
  | inr is ↦ (let here : p y ≡ true = subst (λ z. p z ≡ true) is t in rw here (in_front y (filter p ys) x is))
  | inl old ↦ elim (cases_Bool (p y)) [
    | inl u ↦ rw u (in_rest y (filter p ys) x (in_filter p ys x old t))
    | inr n ↦ rw n (in_filter p ys x old t)
  ]
]

from_step : {X : Type 0} (p : X → Bool) (y : X) (ys : List X) (x : X) → (Contains (filter p ys) x → Contains ys x × (p x ≡ true)) → (t : Bool) → p y ≡ t
    → Contains (cond t (y ∷ filter p ys) (filter p ys)) x → Contains (y ∷ ys) x × (p x ≡ true)
from_step p y ys x later true u k = elim (in_front_or_rest y (filter p ys) x k) [
  | inr is ↦ (in_front y ys x is, subst (λ z. p z ≡ true) (sym is) u)
  | inl old ↦ (let there : Contains ys x × (p x ≡ true) = later old in (in_rest y ys x there.0, there.1))
]
from_step p y ys x later false u k = let there : Contains ys x × (p x ≡ true) = later k in (in_rest y ys x there.0, there.1)

from_filter : {X : Type 0} (p : X → Bool) (xs : List X) (x : X) → Contains (filter p xs) x → Contains xs x × (p x ≡ true)
from_filter p [] x k = absurd (not_in_empty x k)
from_filter p (y ∷ ys) x k = from_step p y ys x (from_filter p ys x) (p y) refl k

filter_none : (p : ℕ → Bool) (xs : List ℕ) → AllByRecursion (λ x. p x ≡ false) xs → filter p xs ≡ []
filter_none p [] h = refl
filter_none p (x ∷ xs) h = rw h.0 (filter_none p xs h.1)

filter_every : (p : ℕ → Bool) (xs : List ℕ) → AllByRecursion (λ x. p x ≡ true) xs → filter p xs ≡ xs
filter_every p [] h = refl
filter_every p (x ∷ xs) h = rw h.0 (ap (λ ys. x ∷ ys) (filter_every p xs h.1))

-- ---- equalities of a set, and of a part of it

abbrev one_if : Bool → ℕ
one_if true = 1
one_if false = 0

one_or_none : (a b : Bool) → one_if a ≡ one_if b → a ≡ b
one_or_none true true e = refl
one_or_none true false e = absurd (omega (arith, e))
one_or_none false true e = absurd (omega (arith, e))
one_or_none false false e = refl

module _ (es : List Edge) (subset part : ℕ) (forest : ClosesNoCycle (equalities_within subset es)) (within : IsSubset part subset) (unjoined : AreUnjoined es subset part) where
  abbrev side : ℕ → Bool
  side x = has_entry part x

  abbrev kept_whole : List Edge
  kept_whole = kept_of subset 0 es

  abbrev kept_part : List Edge
  kept_part = kept_of part 0 es

  of_whole : (e : Edge) → Contains kept_whole e → Contains (equalities_within subset es) e
  of_whole e k = rotated_among 0 (equalities_within subset es) e (subst (λ (xs : List Edge). Contains xs e) (forest_kept es subset 0 forest) k)

  to_whole : (e : Edge) → Contains (equalities_within subset es) e → Contains kept_whole e
  to_whole e k = subst (λ (xs : List Edge). Contains xs e) (sym (forest_kept es subset 0 forest)) (among_rotated 0 (equalities_within subset es) e k)

  part_forest : ClosesNoCycle (equalities_within part es)
  part_forest = forest_within es part subset within forest

  of_part : (e : Edge) → Contains kept_part e → Contains (equalities_within part es) e
  of_part e k = rotated_among 0 (equalities_within part es) e (subst (λ (xs : List Edge). Contains xs e) (forest_kept es part 0 part_forest) k)

  to_part : (e : Edge) → Contains (equalities_within part es) e → Contains kept_part e
  to_part e k = subst (λ (xs : List Edge). Contains xs e) (sym (forest_kept es part 0 part_forest)) (among_rotated 0 (equalities_within part es) e k)

  part_of_whole : AreAmong kept_part kept_whole
  part_of_whole e k =
      to_whole e (from_filter (joins_within part) (equalities_within subset es) e (subst (λ (xs : List Edge). Contains xs e) (within_of part subset within es) (of_part e k))).0

  same_side : (e : Edge) → Contains kept_whole e → side e.left.entry ≡ side e.right.entry
  same_side e k = each (λ (f : Edge). side f.left.entry ≡ side f.right.entry) (equalities_within subset es) unjoined e (of_whole e k)

  whole_in_part : (e : Edge) → Contains kept_whole e → side e.left.entry ≡ true → Contains kept_part e
  whole_in_part e k left =
      to_part e (subst (λ (xs : List Edge). Contains xs e) (sym (within_of part subset within es))
      (in_filter (joins_within part) (equalities_within subset es) e (of_whole e k) (and_from (side e.left.entry) (side e.right.entry) left (sym (same_side e k) ∙ left))))

  side_of_class : (p q : Place) → class_of kept_whole p ≡ class_of kept_whole q → side p.entry ≡ side q.entry
  side_of_class p q e =
      one_or_none (side p.entry) (side q.entry)
      (same_class_same_keys kept_whole p q e (λ entry column. one_if (side entry))
      (all_in (λ (f : Edge). one_if (side f.left.entry) ≡ one_if (side f.right.entry)) kept_whole (λ f k. ap one_if (same_side f k))))

  class_in_part : (p q : Place) → side p.entry ≡ true → class_of kept_whole p ≡ class_of kept_whole q → class_of kept_part p ≡ class_of kept_part q
  class_in_part p q own e = class_of-joined kept_part p q there
    where
      there : (key : ℕ → ℕ → ℕ) → AllByRecursion (λ (f : Edge). key f.left.entry f.left.column ≡ key f.right.entry f.right.column) kept_part → key p.entry p.column ≡ key q.entry q.column
      there key all =
          let wide : ℕ → ℕ → ℕ = λ entry column. cond (side entry) (key entry column) 0 in
          let equal : AllByRecursion (λ (f : Edge). cond (side f.left.entry) (key f.left.entry f.left.column) 0 ≡ cond (side f.right.entry) (key f.right.entry f.right.column) 0) kept_whole =
          all_in (λ (f : Edge). cond (side f.left.entry) (key f.left.entry f.left.column) 0 ≡ cond (side f.right.entry) (key f.right.entry f.right.column) 0) kept_whole
          (λ f k. at f k (side f.left.entry) refl) in
          let other : side q.entry ≡ true = sym (side_of_class p q e) ∙ own in
          ap (λ b. cond b (key p.entry p.column) 0) (sym own) ∙ same_class_same_keys kept_whole p q e wide equal ∙ ap (λ b. cond b (key q.entry q.column) 0) other
        where
          at : (f : Edge) → Contains kept_whole f → (b : Bool) → side f.left.entry ≡ b
              → cond (side f.left.entry) (key f.left.entry f.left.column) 0 ≡ cond (side f.right.entry) (key f.right.entry f.right.column) 0
          at f k true t =
              let right : side f.right.entry ≡ true = sym (same_side f k) ∙ t in
              ap (λ b. cond b (key f.left.entry f.left.column) 0) t
              ∙ each (λ (g : Edge). key g.left.entry g.left.column ≡ key g.right.entry g.right.column) kept_part all f (whole_in_part f k t)
              ∙ ap (λ b. cond b (key f.right.entry f.right.column) 0) (sym right)
          at f k false n =
              let right : side f.right.entry ≡ false = sym (same_side f k) ∙ n in
              ap (λ b. cond b (key f.left.entry f.left.column) 0) n ∙ ap (λ b. cond b (key f.right.entry f.right.column) 0) (sym right)

  carries : CarriesTrees (λ x. side x ≡ true) kept_whole kept_part
  carries = record {
    places_to = λ q k. places_where kept_part kept_whole q (λ e h at. part_of_whole e h) k;
    places_from = λ q own k. places_where kept_whole kept_part q (λ e h at. whole_in_part e h (left_side e h q own at)) k;
    class_to = λ p q own e. classes_among kept_part kept_whole part_of_whole p q e;
    class_from = class_in_part;
  }
    where
      left_side : (e : Edge) → Contains kept_whole e → (q : Place) → side q.entry ≡ true → ((q ≡ e.left) ⊎ (q ≡ e.right)) → side e.left.entry ≡ true
      left_side e h q own (inl left) = ap (λ (p : Place). side p.entry) (sym left) ∙ own
      left_side e h q own (inr right) = same_side e h ∙ ap (λ (p : Place). side p.entry) (sym right) ∙ own

  -- ---- the trees of a part are trees of the set

  all_side : (t : BergeTree) → IsTreeOf kept_whole t → AllByRecursion (λ x. side x ≡ side t.root) (entries t)
  all_side t is = one_side kept_whole (has_no_cycle kept_whole (closes es subset 0)) t is.columns is.follows side side_of_class

  abbrev chosen : List BergeTree → List BergeTree
  chosen ts = filter (λ (t : BergeTree). side t.root) ts

  chosen_trees : (ts : List BergeTree) → AllByRecursion (IsTreeOf kept_whole) ts → AllByRecursion (IsTreeOf kept_part) (chosen ts)
  chosen_trees [] h = tt
  chosen_trees (t ∷ ts) h = elim (cases_Bool (side t.root)) [
    | inl u ↦ rw u (tree_carries (λ x. side x ≡ true) kept_whole kept_part carries t (all_in (λ x. side x ≡ true) (entries t) (λ x k. each (λ y. side y ≡ side t.root) (entries t) (all_side t h.0) x k ∙ u)) h.0, chosen_trees ts h.1)
    | inr n ↦ rw n (chosen_trees ts h.1)
  ]

  chosen_roots : (ts : List BergeTree) → roots (chosen ts) ≡ filter side (roots ts)
  chosen_roots [] = refl
  chosen_roots (t ∷ ts) = elim (cases_Bool (side t.root)) [
    | inl u ↦ rw u (ap (λ xs. t.root ∷ xs) (chosen_roots ts))
    | inr n ↦ rw n (chosen_roots ts)
  ]

  own_side : (t : BergeTree) → IsTreeOf kept_whole t → (b : Bool) → side t.root ≡ b → AllByRecursion (λ x. side x ≡ b) (entries t)
  own_side t is b u = all_in (λ x. side x ≡ b) (entries t) (λ x k. each (λ y. side y ≡ side t.root) (entries t) (all_side t is) x k ∙ u)

  entries_step : (t : BergeTree) (ts : List BergeTree) → IsTreeOf kept_whole t → entries_of_all (chosen ts) ≡ filter side (entries_of_all ts) → (b : Bool) → side t.root ≡ b
      → entries_of_all (cond b (t ∷ chosen ts) (chosen ts)) ≡ filter side (entries t) ++ filter side (entries_of_all ts)
  entries_step t ts is later true u =
      ap (λ xs. entries t ++ xs) later ∙ ap (λ xs. xs ++ filter side (entries_of_all ts)) (sym (filter_every side (entries t) (own_side t is true u)))
  entries_step t ts is later false n = later ∙ ap (λ xs. xs ++ filter side (entries_of_all ts)) (sym (filter_none side (entries t) (own_side t is false n)))

  chosen_entries : (ts : List BergeTree) → AllByRecursion (IsTreeOf kept_whole) ts → entries_of_all (chosen ts) ≡ filter side (entries_of_all ts)
  chosen_entries [] h = refl
  chosen_entries (t ∷ ts) h = entries_step t ts h.0 (chosen_entries ts h.1) (side t.root) refl ∙ sym (filter-append side (entries t) (entries_of_all ts))

  all_chosen : (ts : List BergeTree) → AreAllTreesOf kept_whole (entries_of_set subset) ts → AreAllTreesOf kept_part (entries_of_set part) (chosen ts)
  all_chosen ts all = record {
    trees = chosen_trees ts all.trees;
    ascending = subst IsStrictlyIncreasing (sym (chosen_roots ts)) (IsStrictlyIncreasing-filter side (roots ts) all.ascending);
    once = subst (AllPairs (λ e f. e ≢ f)) (sym (chosen_entries ts all.trees)) (AllPairs-filter (λ e f. e ≢ f) side (entries_of_all ts) all.once);
    covers = all_in (Contains (entries_of_all (chosen ts))) (entries_of_set part) (λ x k.
        let own : side x ≡ true = set_entries part x k in
        subst (λ xs. Contains xs x) (sym (chosen_entries ts all.trees))
        (in_filter side (entries_of_all ts) x (each (Contains (entries_of_all ts)) (entries_of_set subset) all.covers x (set_entries_only subset x (within x own))) own));
    within = all_in (Contains (entries_of_set part)) (entries_of_all (chosen ts)) (λ x k.
        set_entries_only part x (from_filter side (entries_of_all ts) x (subst (λ xs. Contains xs x) (chosen_entries ts all.trees) k)).1);
  }

  pub part_bound : (b : EntryBounds) → bound_of_turn b es part 0 ≡ bound_of_trees b (chosen (trees_of kept_whole subset))
  part_bound b = ap (bound_of_trees b) (sym (trees_are es part 0 (chosen (trees_of kept_whole subset)) (all_chosen (trees_of kept_whole subset) (trees_exist es subset 0))))

-- ---- the product over the set's trees is the product over the trees of both parts

swap : (a x y : ℕ) → a * (x * y) ≡ x * (a * y)
swap a x y = sym (mul_assoc a x y) ∙ ap (λ m. m * y) (mul_comm a x) ∙ mul_assoc x a y

in_two : (b : EntryBounds) (p q : BergeTree → Bool) (ts : List BergeTree) → AllByRecursion (λ t. q t ≡ not (p t)) ts
    → bound_of_trees b ts ≡ bound_of_trees b (filter p ts) * bound_of_trees b (filter q ts)
in_two b p q [] h = refl
in_two b p q (t ∷ ts) h = elim (cases_Bool (p t)) [
  | inl u ↦ (let other : q t ≡ false = h.0 ∙ ap not u in
      rw (u, other, in_two b p q ts h.1) (sym (mul_assoc (bound_of_tree b t) (bound_of_trees b (filter p ts)) (bound_of_trees b (filter q ts)))))
  | inr n ↦ (let other : q t ≡ true = h.0 ∙ ap not n in
      rw (n, other, in_two b p q ts h.1) (swap (bound_of_tree b t) (bound_of_trees b (filter p ts)) (bound_of_trees b (filter q ts))))
]

rest_within : (es : List Edge) (subset part rest : ℕ) → ConsistsOfParts es subset part rest → IsSubset rest subset
rest_within es subset part rest parted x has = (and_parts (has_entry subset x) (not (has_entry part x)) (sym (parted.others x) ∙ has)).0

rest_unjoined : (es : List Edge) (subset part rest : ℕ) → ConsistsOfParts es subset part rest → AreUnjoined es subset rest
rest_unjoined es subset part rest parted = all_in (λ (e : Edge). has_entry rest e.left.entry ≡ has_entry rest e.right.entry) (equalities_within subset es) at
  where
    at : (e : Edge) → Contains (equalities_within subset es) e → has_entry rest e.left.entry ≡ has_entry rest e.right.entry
    at e k =
        let ends : (has_entry subset e.left.entry ≡ true) × (has_entry subset e.right.entry ≡ true) =
        and_parts (has_entry subset e.left.entry) (has_entry subset e.right.entry) (from_filter (joins_within subset) es e k).1 in
        let same : has_entry part e.left.entry ≡ has_entry part e.right.entry =
        each (λ (f : Edge). has_entry part f.left.entry ≡ has_entry part f.right.entry) (equalities_within subset es) parted.unjoined e k in
        parted.others e.left.entry ∙ ap (λ c. c && not (has_entry part e.left.entry)) (ends.0 ∙ sym ends.1) ∙ ap (λ c. has_entry subset e.right.entry && not c) same ∙ sym (parted.others e.right.entry)

pub parts_multiply : (b : EntryBounds) (es : List Edge) (subset part rest : ℕ) → ClosesNoCycle (equalities_within subset es) → ConsistsOfParts es subset part rest
    → bound_of_set b es subset ≡ bound_of_set b es part * bound_of_set b es rest
parts_multiply b es subset part rest forest parted =
    forest_set b es subset forest
    ∙ in_two b (λ t. has_entry part t.root) (λ t. has_entry rest t.root) ts (all_in (λ (t : BergeTree). has_entry rest t.root ≡ not (has_entry part t.root)) ts at)
    ∙ ap (λ m. m * bound_of_trees b (filter (λ (t : BergeTree). has_entry rest t.root) ts)) (sym (part_bound es subset part forest parted.within parted.unjoined b) ∙ sym (forest_set b es part (forest_within es part subset parted.within forest)))
    ∙ ap (λ m. bound_of_set b es part * m) (sym (part_bound es subset rest forest within unjoined b) ∙ sym (forest_set b es rest (forest_within es rest subset within forest)))
  where
    within : IsSubset rest subset
    within = rest_within es subset part rest parted

    unjoined : AreUnjoined es subset rest
    unjoined = rest_unjoined es subset part rest parted

    ts : List BergeTree
    ts = trees_of (kept_of subset 0 es) subset

    all : AreAllTreesOf (kept_of subset 0 es) (entries_of_set subset) ts
    all = trees_exist es subset 0

    root_in : (us : List BergeTree) (t : BergeTree) → Contains us t → Contains (entries_of_all us) t.root
    root_in [] t k = absurd (not_in_empty t k)
    root_in (u ∷ us) t k = elim (in_front_or_rest u us t k) [
      | inr is ↦ Contains-append_left (entries u) (entries_of_all us) t.root (in_front u.root (entries_below u.below) t.root (ap (λ (v : BergeTree). v.root) is))
      | inl old ↦ Contains-append_right (entries u) (entries_of_all us) t.root (root_in us t old)
    ]

    at : (t : BergeTree) → Contains ts t → has_entry rest t.root ≡ not (has_entry part t.root)
    at t k =
        let inside : has_entry subset t.root ≡ true = set_entries subset t.root (each (Contains (entries_of_set subset)) (entries_of_all ts) all.within t.root (root_in ts t k)) in
        parted.others t.root ∙ ap (λ c. c && not (has_entry part t.root)) inside
