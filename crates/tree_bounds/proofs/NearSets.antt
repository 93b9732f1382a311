-- If the bounds of entries are near exact bounds, the bound of a set is near its exact bound, in each turn and over all turns.
use Rattle.std.proofs.Common.{◌≡◌, ◌≢◌, ℕ, suc, ◌+◌, ◌-◌, ◌*◌, ◌^◌, ◌<◌, ◌≤◌, true, false, eqb, List, [], ◌∷◌, length, get_or, refl, sym, subst, arith, inl, inr, nat_eq}
use Rattle.std.specs.List.{AllByRecursion, AllPairs, Contains, IsDistinct, list_any}
use Rattle.std.specs.Set.{is_member}
use Rattle.std.proofs.Math.Nat.{mul-le-mul_left}
use Rattle.std.proofs.lemmas.Bool.{cases_Bool, eq-eqb, eqb-true, false≢true, or_right}
use Rattle.std.proofs.lemmas.Cmp.{nat_eq_equiv}
use Rattle.std.proofs.lemmas.List.Kept.{AllPairs-from_increasing}
use Rattle.std.proofs.lemmas.Map.Keys.{IsDistinct-cons}
use Rattle.std.proofs.lemmas.Map.Made.{length-le_from_is_member}
use Rattle.berge_tree.specs.declared.edges.Edge.{Edge}
use Rattle.berge_tree.specs.Rooted.{IsTreeOf, AreAllTreesOf}
use Rattle.entry_sets.specs.Sets.{entries_of_set}
use Rattle.berge_tree.specs.Trees.{BergeTree, entries_of_all}
use Rattle.entry_sets.proofs.Listing.{set_increases, not_in_empty, in_front_or_rest}
use Rattle.join_graph.specs.Kept.{kept_of, turn_count}
use Rattle.tree_bounds.specs.TreeBounds.{EntryBounds, bound_of_trees}
use Rattle.tree_bounds.specs.SetBounds.{SetHasLists, trees_of, bound_of_turn, bound_of_set}
use Rattle.tree_bounds.specs.Nearness.{RowsAreNear, ListIsNear, TreeIsNear, SetIsNear}
use Rattle.tree_bounds.proofs.Agreeing.{at_roots, have_lists, in_trees, named_in_turn, tree_columns}
use Rattle.tree_bounds.proofs.Nearing.{trees_near}
use Rattle.tree_bounds.proofs.Turns.{least_to-le, least_to-some, trees_exist}

-- ---- the trees of a set have as many entries as the set has

not_eqb : (a b : ℕ) → a ≢ b → eqb a b ≡ false
not_eqb a b differ = elim (cases_Bool (eqb a b)) [ inl same ↦ absurd (differ (eqb-true a b same)) | inr other ↦ other ]

pub empty_is_distinct : IsDistinct nat_eq []
unfolding IsDistinct
empty_is_distinct = tt

unlike : (x : ℕ) (xs : List ℕ) → ((j : ℕ) → j < length xs → x ≢ get_or xs j x) → AllByRecursion (λ y. nat_eq x y ≡ false) xs
unlike x [] h = tt
unlike x (y ∷ ys) h = (not_eqb x y (h 0 (omega arith)), unlike x ys (λ j k. h (suc j) (omega arith)))

all_apart : (xs : List ℕ) → AllPairs (λ e f. e ≢ f) xs → IsDistinct nat_eq xs
all_apart [] h = empty_is_distinct
all_apart (x ∷ xs) h =
    IsDistinct-cons nat_eq x xs (unlike x xs (λ j k. h 0 (suc j) x (omega arith) (omega arith))) (all_apart xs (λ i j d k l. h (suc i) (suc j) d (omega arith) (omega arith)))

member_if_contained : (xs : List ℕ) (x : ℕ) → Contains xs x → is_member nat_eq xs x ≡ true
member_if_contained [] x k = absurd (not_in_empty x k)
member_if_contained (y ∷ ys) x k = elim (in_front_or_rest y ys x k) [
  | inr is ↦ rw (eq-eqb x y is) refl
  | inl later ↦ or_right (nat_eq x y) (list_any (nat_eq x) ys) (member_if_contained ys x later)
]

members_if_contained : (xs ys : List ℕ) → AllByRecursion (Contains ys) xs → (q : ℕ) → is_member nat_eq xs q ≡ true → is_member nat_eq ys q ≡ true
members_if_contained [] ys h q e = absurd (false≢true e)
members_if_contained (x ∷ xs) ys h q e = elim (cases_Bool (nat_eq q x)) [
  | inl same ↦ member_if_contained ys q (subst (Contains ys) (sym (eqb-true q x same)) h.0)
  | inr other ↦ members_if_contained xs ys h.1 q (rw other at e)
]

length_at_most : (xs ys : List ℕ) → AllPairs (λ e f. e ≢ f) xs → AllByRecursion (Contains ys) xs → length xs ≤ length ys
length_at_most xs ys apart h = length-le_from_is_member nat_eq_equiv xs ys (all_apart xs apart) (members_if_contained xs ys h)

below_apart : (xs : List ℕ) → AllPairs (λ a b. a < b) xs → AllPairs (λ e f. e ≢ f) xs
below_apart xs h i j d k l same = differ (get_or xs i d) (get_or xs j d) (h i j d k l) same
  where
    differ : (a b : ℕ) → a < b → a ≡ b → ⊥
    differ a b h e = omega arith

same_number_of_entries : (es : List Edge) (subset : ℕ) (ts : List BergeTree) → AreAllTreesOf es (entries_of_set subset) ts → length (entries_of_all ts) ≡ length (entries_of_set subset)
same_number_of_entries es subset ts all =
    let set : List ℕ = entries_of_set subset in
    let some : length (entries_of_all ts) ≤ length set = length_at_most (entries_of_all ts) set all.once all.within in
    let back : length set ≤ length (entries_of_all ts) = length_at_most set (entries_of_all ts) (below_apart set (AllPairs-from_increasing set (set_increases subset))) all.covers in
    omega arith

-- ---- nearness of the bound of a set

module _ (accuracy : ℕ) (b exact : EntryBounds) (es : List Edge) (subset : ℕ) (h : SetHasLists b es subset) (k : SetHasLists exact es subset) (near : SetIsNear accuracy b exact es subset) where
  all_near : (turn : ℕ) (ts : List BergeTree) → AllByRecursion (λ t. RowsAreNear accuracy b exact t.root) ts → AllByRecursion (IsTreeOf (kept_of subset turn es)) ts → AllByRecursion (TreeIsNear accuracy b exact) ts
  all_near turn [] rows trees = tt
  all_near turn (t ∷ ts) rows trees = (
    record { root = rows.0; columns = tree_columns (ListIsNear accuracy b exact) (kept_of subset turn es) (named_in_turn (ListIsNear accuracy b exact) subset turn es near.columns) t trees.0 },
    all_near turn ts rows.1 trees.1,
  )

  pub turn_near : (turn : ℕ) → accuracy ^ length (entries_of_set subset) * bound_of_turn b es subset turn ≤ (accuracy + 1) ^ length (entries_of_set subset) * bound_of_turn exact es subset turn
  turn_near turn =
      let ts : List BergeTree = trees_of (kept_of subset turn es) subset in
      let all : AreAllTreesOf (kept_of subset turn es) (entries_of_set subset) ts = trees_exist es subset turn in
      subst (λ (n : ℕ). accuracy ^ n * bound_of_trees b ts ≤ (accuracy + 1) ^ n * bound_of_trees exact ts) (same_number_of_entries (kept_of subset turn es) subset ts all)
      (trees_near accuracy b exact ts (have_lists es subset turn ts all b h) (have_lists es subset turn ts all exact k)
      (all_near turn ts (at_roots (RowsAreNear accuracy b exact) ts (in_trees es subset turn ts all (RowsAreNear accuracy b exact) near.rows)) all.trees))

  pub set_near : accuracy ^ length (entries_of_set subset) * bound_of_set b es subset ≤ (accuracy + 1) ^ length (entries_of_set subset) * bound_of_set exact es subset
  set_near =
      let last : ℕ = turn_count subset es - 1 in
      let some : (turn : ℕ) × (turn ≤ last) × (bound_of_set exact es subset ≡ bound_of_turn exact es subset turn) = least_to-some (bound_of_turn exact es subset) last in
      let least : bound_of_set b es subset ≤ bound_of_turn b es subset some.0 = least_to-le (bound_of_turn b es subset) last some.0 some.1 in
      rw some.2 (through (accuracy ^ length (entries_of_set subset)) (bound_of_set b es subset) (bound_of_turn b es subset some.0) _ least (turn_near some.0))
    where
      through : (a x y z : ℕ) → x ≤ y → a * y ≤ z → a * x ≤ z
      through a x y z less within = omega (arith, mul-le-mul_left a less)
