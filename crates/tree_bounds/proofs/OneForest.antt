-- For given equalities over a set of entries there is only one list of trees.
use Rattle.std.proofs.Common.{◌≡◌, ◌≢◌, ℕ, Bool, List, [], ◌∷◌, ◌<◌, ◌≤◌, refl, ap, sym, ◌∙◌, subst, arith, inl, inr, Some, None}
use Rattle.std.specs.Prelude.{⊤, Option}
use Rattle.std.specs.List.{AllByRecursion, AllPairs, Contains}
use Rattle.std.proofs.lemmas.List.Elements.{Contains-append_left, Contains-append_right, Contains-append_cases}
use Rattle.std.proofs.lemmas.List.Kept.{AllPairs-from_increasing}
use Rattle.berge_tree.specs.declared.edges.Place.{Place}
use Rattle.berge_tree.specs.declared.edges.Edge.{Edge}
use Rattle.berge_tree.specs.Equalities.{place, ClosesNoCycle}
use Rattle.berge_tree.specs.Rooted.{class_columns, member_places, member_entries, AreItsColumns, AreItsOthers, FollowsBelow, FollowsWithin, IsTreeOf, AreAllTreesOf, roots}
use Rattle.berge_tree.specs.Trees.{Classes, no_class, and_class, Members, one_member, and_member, BergeTree, entries_below, entries, entries_of_all}
use Rattle.berge_tree.specs.Walk.{is_among}
use Rattle.berge_tree.proofs.Closed.{closed_tree}
use Rattle.berge_tree.proofs.Forest.{among, is_in, IsClosed, closed_side}
use Rattle.berge_tree.proofs.NoCycle.{has_no_cycle}
use Rattle.berge_tree.proofs.Separate.{later_above, pairs_tail, entry_in, one_side}
use Rattle.entry_sets.proofs.Listing.{in_rest, in_front, not_in_empty, at_member, in_front_or_rest}

-- ---- lists that ascend and have the same members are equal

abbrev Ascends : {A : Type 0} → (A → ℕ) → List A → Type 0
Ascends key [] = ⊤
Ascends key (x ∷ xs) = ((y : _) → Contains xs y → key x < key y) × Ascends key xs

apart : (a b : ℕ) → a < b → b < a → ⊥
apart a b h k = omega arith

module _ {A : Type 0} (key : A → ℕ) where
  same_first : (x : A) (xs : List A) (y : A) (ys : List A) → Ascends key (x ∷ xs) → Ascends key (y ∷ ys) → Contains (y ∷ ys) x → Contains (x ∷ xs) y → x ≡ y
  same_first x xs y ys a b k l = elim (in_front_or_rest y ys x k) [
    | inr is ↦ is
    | inl later ↦ elim (in_front_or_rest x xs y l) [ inr is ↦ sym is | inl after ↦ absurd (apart (key y) (key x) (b.0 x later) (a.0 y after)) ]
  ]

  in_tail : (x : A) (xs : List A) (y : A) (ys : List A) → x ≡ y → Ascends key (x ∷ xs) → (z : A) → Contains xs z → Contains (y ∷ ys) z → Contains ys z
  in_tail x xs y ys same a z k l = elim (in_front_or_rest y ys z l) [
    | inl later ↦ later
    | inr is ↦ absurd (not_before (key x) (key z) (ap key (is ∙ sym same)) (a.0 z k))
  ]
    where
      not_before : (a b : ℕ) → b ≡ a → a < b → ⊥
      not_before a b e h = omega arith

  same_list : (xs ys : List A) → Ascends key xs → Ascends key ys → ((x : A) → Contains xs x → Contains ys x) → ((y : A) → Contains ys y → Contains xs y) → xs ≡ ys
  same_list [] [] a b f g = refl
  same_list [] (y ∷ ys) a b f g = absurd (not_in_empty y (g y (in_front y ys y refl)))
  same_list (x ∷ xs) [] a b f g = absurd (not_in_empty x (f x (in_front x xs x refl)))
  same_list (x ∷ xs) (y ∷ ys) a b f g =
      let same : x ≡ y = same_first x xs y ys a b (f x (in_front x xs x refl)) (g y (in_front y ys y refl)) in
      let rest : xs ≡ ys = same_list xs ys a.1 b.1
      (λ z k. in_tail x xs y ys same a z k (f z (in_rest x xs z k)))
      (λ z k. in_tail y ys x xs (sym same) b z k (g z (in_rest y ys z k))) in
      rw (same, rest) refl

ascend_numbers : (xs : List ℕ) → AllPairs (λ a b. a < b) xs → Ascends (λ x. x) xs
ascend_numbers [] h = tt
ascend_numbers (x ∷ xs) h = (λ y k. later_above x xs h y k, ascend_numbers xs (pairs_tail x xs h))

ascend_members : (ms : Members) → AllPairs (λ a b. a < b) (member_entries ms) → Ascends (λ (p : Place). p.entry) (member_places ms)
ascend_members (one_member entry column below) h = (λ y k. absurd (not_in_empty y k), tt)
ascend_members (and_member entry column below rest) h =
    (λ y k. later_above entry (member_entries rest) h y.entry (entry_in rest y k), ascend_members rest (pairs_tail entry (member_entries rest) h))

-- ---- two trees with the same equalities and the same root are equal

module _ (es : List Edge) where
  same_columns : (entry entry' : ℕ) (above above' : Option ℕ) (xs ys : List ℕ) → entry ≡ entry' → above ≡ above' → AreItsColumns es entry above xs → AreItsColumns es entry' above' ys → xs ≡ ys
  same_columns entry entry' above above' xs ys e f a b =
      same_list (λ x. x) xs ys (ascend_numbers xs (AllPairs-from_increasing xs a.ascending)) (ascend_numbers ys (AllPairs-from_increasing ys b.ascending))
      (λ c k. (let s = a.some c k in b.all c (rw (← e) s.0) (rw (← f) s.1)))
      (λ c k. (let s = b.some c k in a.all c (rw e s.0) (rw f s.1)))

  same_others : (p q : Place) (ms ns : Members) → p ≡ q → AreItsOthers es p ms → AreItsOthers es q ns → member_places ms ≡ member_places ns
  same_others p q ms ns e a b =
      same_list (λ (r : Place). r.entry) (member_places ms) (member_places ns)
      (ascend_members ms (AllPairs-from_increasing (member_entries ms) a.ascending)) (ascend_members ns (AllPairs-from_increasing (member_entries ns) b.ascending))
      (λ r k. (let s = a.some r k in b.all r s.0 (rw (← e) s.1) (rw (← e) s.2)))
      (λ r k. (let s = b.some r k in a.all r s.0 (rw e s.1) (rw e s.2)))

  some_member : (ms : Members) → member_places ms ≢ []
  some_member (one_member entry column below) e = cc
  some_member (and_member entry column below rest) e = cc

  mutual
    same_below : (entry entry' : ℕ) (cs ds : Classes) → entry ≡ entry' → class_columns cs ≡ class_columns ds → FollowsBelow es entry cs → FollowsBelow es entry' ds → cs ≡ ds
    same_below entry entry' no_class no_class e same f g = refl
    same_below entry entry' no_class (and_class column members rest) e same f g = absurd (cc)
    same_below entry entry' (and_class column members rest) no_class e same f g = absurd (cc)
    same_below entry entry' (and_class column members rest) (and_class column' members' rest') e same f g =
        let first : column ≡ column' = cc in
        let others : class_columns rest ≡ class_columns rest' = cc in
        let at : place entry column ≡ place entry' column' = rw (e, first) refl in
        let below : members ≡ members' = same_within members members' (same_others (place entry column) (place entry' column') members members' at f.0 g.0) f.1 g.1 in
        let beside : rest ≡ rest' = same_below entry entry' rest rest' e others f.2 g.2 in
        rw (first, below, beside) refl

    same_within : (ms ns : Members) → member_places ms ≡ member_places ns → FollowsWithin es ms → FollowsWithin es ns → ms ≡ ns
    same_within (one_member entry column below) (one_member entry' column' below') same f g =
        let at : place entry column ≡ place entry' column' = first_place same in
        let entries_are : entry ≡ entry' = ap (λ (p : Place). p.entry) at in
        let columns_are : column ≡ column' = ap (λ (p : Place). p.column) at in
        let under : below ≡ below' = same_below entry entry' below below' entries_are
        (same_columns entry entry' (Some column) (Some column') (class_columns below) (class_columns below') entries_are (ap (λ c. Some c) columns_are) f.0 g.0) f.1 g.1 in
        rw (entries_are, columns_are, under) refl
      where
        first_place : {p q : Place} {ps qs : List Place} → p ∷ ps ≡ q ∷ qs → p ≡ q
        first_place e = cc
    same_within (one_member entry column below) (and_member entry' column' below' rest') same f g = absurd (some_member rest' (sym (rest_of same)))
      where
        rest_of : {p q : Place} {ps qs : List Place} → p ∷ ps ≡ q ∷ qs → ps ≡ qs
        rest_of e = cc
    same_within (and_member entry column below rest) (one_member entry' column' below') same f g = absurd (some_member rest (rest_of same))
      where
        rest_of : {p q : Place} {ps qs : List Place} → p ∷ ps ≡ q ∷ qs → ps ≡ qs
        rest_of e = cc
    same_within (and_member entry column below rest) (and_member entry' column' below' rest') same f g =
        let at : place entry column ≡ place entry' column' = first_place same in
        let entries_are : entry ≡ entry' = ap (λ (p : Place). p.entry) at in
        let columns_are : column ≡ column' = ap (λ (p : Place). p.column) at in
        let under : below ≡ below' = same_below entry entry' below below' entries_are
        (same_columns entry entry' (Some column) (Some column') (class_columns below) (class_columns below') entries_are (ap (λ c. Some c) columns_are) f.0 g.0) f.1 g.1 in
        let beside : rest ≡ rest' = same_within rest rest' (rest_of same) f.2 g.2 in
        rw (entries_are, columns_are, under, beside) refl
      where
        first_place : {p q : Place} {ps qs : List Place} → p ∷ ps ≡ q ∷ qs → p ≡ q
        first_place e = cc

        rest_of : {p q : Place} {ps qs : List Place} → p ∷ ps ≡ q ∷ qs → ps ≡ qs
        rest_of e = cc

  same_tree : (t u : BergeTree) → t.root ≡ u.root → IsTreeOf es t → IsTreeOf es u → t ≡ u
  same_tree t u e f g =
      by_parts t u e (same_below t.root u.root t.below u.below e (same_columns t.root u.root None None (class_columns t.below) (class_columns u.below) e refl f.columns g.columns) f.follows g.follows)
    where
      by_parts : (t u : BergeTree) → t.root ≡ u.root → t.below ≡ u.below → t ≡ u
      by_parts t u e f = rw (e, f) refl

  same_trees : (ts us : List BergeTree) → roots ts ≡ roots us → AllByRecursion (IsTreeOf es) ts → AllByRecursion (IsTreeOf es) us → ts ≡ us
  same_trees [] [] e f g = refl
  same_trees [] (u ∷ us) e f g = absurd (cc)
  same_trees (t ∷ ts) [] e f g = absurd (cc)
  same_trees (t ∷ ts) (u ∷ us) e f g =
      let first : t.root ≡ u.root = cc in
      let others : roots ts ≡ roots us = cc in
      rw (same_tree t u first f.0 g.0, same_trees ts us others f.1 g.1) refl

  -- ---- two lists of trees over the same entries have the same roots

  record TreeOfRoot (ts : List BergeTree) (r : ℕ) : Type 0 where
    tree : BergeTree
    root : tree.root ≡ r
    is : IsTreeOf es tree
    within : Contains (entries_of_all ts) r

  tree_of_root : (ts : List BergeTree) → AllByRecursion (IsTreeOf es) ts → (r : ℕ) → Contains (roots ts) r → TreeOfRoot ts r
  tree_of_root [] h r k = absurd (not_in_empty r k)
  tree_of_root (t ∷ ts) h r k = elim (in_front_or_rest t.root (roots ts) r k) [
    | inr is ↦ record {
      tree = t;
      root = sym is;
      is = h.0;
      within = Contains-append_left (entries t) (entries_of_all ts) r (in_front t.root (entries_below t.below) r is);
    }
    | inl later ↦ (let found : TreeOfRoot ts r = tree_of_root ts h.1 r later in
        record { tree = found.tree; root = found.root; is = found.is; within = Contains-append_right (entries t) (entries_of_all ts) r found.within })
  ]

  record TreeOfEntry (ts : List BergeTree) (x : ℕ) : Type 0 where
    tree : BergeTree
    is : IsTreeOf es tree
    has : Contains (entries tree) x
    root : Contains (roots ts) tree.root

  tree_of_entry : (ts : List BergeTree) → AllByRecursion (IsTreeOf es) ts → (x : ℕ) → Contains (entries_of_all ts) x → TreeOfEntry ts x
  tree_of_entry [] h x k = absurd (not_in_empty x k)
  tree_of_entry (t ∷ ts) h x k = elim (Contains-append_cases (entries t) (entries_of_all ts) x k) [
    | inl own ↦ record { tree = t; is = h.0; has = own; root = in_front t.root (roots ts) t.root refl }
    | inr later ↦ (let found : TreeOfEntry ts x = tree_of_entry ts h.1 x later in
        record { tree = found.tree; is = found.is; has = found.has; root = in_rest t.root (roots ts) found.tree.root found.root })
  ]

  module _ (closes : ClosesNoCycle es) where
    one_root : (t u : BergeTree) → IsTreeOf es t → IsTreeOf es u → Contains (entries u) t.root → t.root ≡ u.root
    one_root t u f g k =
        let closed : IsClosed es (entries t) = λ p q e m. closed_tree es t f.columns f.follows p q m e in
        let side : ℕ → Bool = is_among (entries t) in
        let alike : side t.root ≡ side u.root =
        at_member (λ e. side e ≡ side u.root) (entries u) (one_side es (has_no_cycle es closes) u g.columns g.follows side (closed_side es (entries t) closed)) t.root k in
        let inside : Contains (entries t) u.root = among (entries t) u.root (sym alike ∙ is_in (entries t) t.root (in_front t.root (entries_below t.below) t.root refl)) in
        let above : t.root ≤ u.root = at_member (λ e. t.root ≤ e) (entries t) f.least u.root inside in
        let below : u.root ≤ t.root = at_member (λ e. u.root ≤ e) (entries u) g.least t.root k in
        omega arith

    root_there : (set : List ℕ) (ts us : List BergeTree) → AreAllTreesOf es set ts → AreAllTreesOf es set us → (r : ℕ) → Contains (roots ts) r → Contains (roots us) r
    root_there set ts us f g r k =
        let mine : TreeOfRoot ts r = tree_of_root ts f.trees r k in
        let in_set : Contains set r = at_member (Contains set) (entries_of_all ts) f.within r mine.within in
        let theirs : TreeOfEntry us r = tree_of_entry us g.trees r (at_member (Contains (entries_of_all us)) set g.covers r in_set) in
        let same : mine.tree.root ≡ theirs.tree.root = one_root mine.tree theirs.tree mine.is theirs.is (subst (Contains (entries theirs.tree)) (sym mine.root) theirs.has) in
        subst (Contains (roots us)) (sym same ∙ mine.root) theirs.root

    pub one_forest : (set : List ℕ) (ts us : List BergeTree) → AreAllTreesOf es set ts → AreAllTreesOf es set us → ts ≡ us
    one_forest set ts us f g =
        same_trees ts us
        (same_list (λ x. x) (roots ts) (roots us) (ascend_numbers (roots ts) (AllPairs-from_increasing (roots ts) f.ascending)) (ascend_numbers (roots us) (AllPairs-from_increasing (roots us) g.ascending))
        (root_there set ts us f g) (root_there set us ts g f))
        f.trees g.trees
