-- If lists are near exact lists, the bounds of trees and sets are near the exact bounds. At accuracy K, each entry contributes a factor of at most (K
-- + 1) / K.
use Rattle.std.proofs.Common.{◌≡◌, ℕ, zero, suc, ◌+◌, ◌*◌, ◌^◌, ◌≤◌, List, [], ◌∷◌, ◌++◌, length, map, sum, get_or, refl, ap, sym, ◌∙◌, arith, length-append}
use Rattle.std.specs.List.{AllByRecursion, range_with_len}
use Rattle.std.proofs.Math.Nat.{mul-le-mul, pow-succ', pow-zero}
use Rattle.std.proofs.lemmas.Nat.{pow-add}
use Rattle.std.proofs.lemmas.List.{length-map}
use Rattle.std.proofs.lemmas.List.FromFn.{length-range_with_len}
use Rattle.degree_sequences.specs.Composition.{ChildLists, composed, row_weights, root_total, weight_by_rank}
use Rattle.degree_sequences.specs.ComparedChildren.{ColumnIsDescending, IsNear, SumsAreWithin, MatchedChild, factors, scales}
use Rattle.degree_sequences.specs.RunningSums.{running_sum}
use Rattle.degree_sequences.proofs.RowWeights.{IsDescending-composed, running_sum-composition}
use Rattle.degree_sequences.proofs.RunningSums.{running_sum-nil, running_sum-whole}
use Rattle.degree_sequences.proofs.Scaling.{composed-near, rank_product-near}
use Rattle.berge_tree.specs.Trees.{Classes, no_class, and_class, Members, one_member, and_member, BergeTree, entries_below, entries_within, entries, entries_of_all}
use Rattle.tree_bounds.specs.Columns.{EachColumnBelow, EachColumnWithin}
use Rattle.tree_bounds.specs.TreeBounds.{EntryBounds, HasList, TreeHasLists, child_lists, class_list, bound_of_tree, bound_of_trees}
use Rattle.tree_bounds.specs.Nearness.{ListIsNear, TreeIsNear}
use Rattle.tree_bounds.proofs.BoundsSuffice.{children_descend, class_descends}

power-add : (a m n : ℕ) → a ^ m * a ^ n ≡ a ^ (m + n)
power-add a m n = sym (pow-add a m n)

-- ---- nearness of an entry's composed list, by induction over the classes below the entry

module _ (accuracy : ℕ) (b exact : EntryBounds) where
  abbrev accuracy_power : ℕ → ℕ
  accuracy_power n = accuracy ^ n

  abbrev next_power : ℕ → ℕ
  next_power n = (accuracy + 1) ^ n

  abbrev matched : ℕ → Classes → List MatchedChild
  matched entry no_class = []
  matched entry (and_class column members rest) =
      record {
        near = record { column = b.list entry column; class = class_list b members };
        exact = record { column = exact.list entry column; class = class_list exact members };
        scale = accuracy_power (length (entries_within members));
        factor = next_power (length (entries_within members));
      }
      ∷ matched entry rest

  nears_are : (entry : ℕ) (cs : Classes) → map (λ m. m.near) (matched entry cs) ≡ child_lists b entry cs
  nears_are entry no_class = refl
  nears_are entry (and_class column members rest) = ap (λ (children : List ChildLists). record { column = b.list entry column; class = class_list b members } ∷ children) (nears_are entry rest)

  exacts_are : (entry : ℕ) (cs : Classes) → map (λ m. m.exact) (matched entry cs) ≡ child_lists exact entry cs
  exacts_are entry no_class = refl
  exacts_are entry (and_class column members rest) = ap (λ (children : List ChildLists). record { column = exact.list entry column; class = class_list exact members } ∷ children) (exacts_are entry rest)

  scales_are : (entry : ℕ) (cs : Classes) → scales (matched entry cs) ≡ accuracy_power (length (entries_below cs))
  scales_are entry no_class = sym (pow-zero accuracy)
  scales_are entry (and_class column members rest) =
      ap (λ x. accuracy_power (length (entries_within members)) * x) (scales_are entry rest) ∙ power-add accuracy (length (entries_within members)) (length (entries_below rest))
      ∙ ap accuracy_power (sym (length-append (entries_within members) (entries_below rest)))

  factors_are : (entry : ℕ) (cs : Classes) → factors (matched entry cs) ≡ next_power (length (entries_below cs))
  factors_are entry no_class = sym (pow-zero (accuracy + 1))
  factors_are entry (and_class column members rest) =
      ap (λ x. next_power (length (entries_within members)) * x) (factors_are entry rest) ∙ power-add (accuracy + 1) (length (entries_within members)) (length (entries_below rest))
      ∙ ap next_power (sym (length-append (entries_within members) (entries_below rest)))

  columns_descend : (entry : ℕ) (cs : Classes) → EachColumnBelow (HasList b) entry cs → AllByRecursion ColumnIsDescending (map (λ m. m.near) (matched entry cs))
  columns_descend entry no_class h = tt
  columns_descend entry (and_class column members rest) h = (h.0.descends, columns_descend entry rest h.2)

  composed_near : (g f : List ℕ) (entry : ℕ) (cs : Classes) → SumsAreWithin accuracy (accuracy + 1) g f → sum g ≡ b.rows entry → sum f ≡ exact.rows entry
      → EachColumnBelow (HasList b) entry cs → EachColumnBelow (HasList exact) entry cs → AllByRecursion (IsNear accuracy) (matched entry cs)
      → SumsAreWithin (accuracy_power (suc (length (entries_below cs)))) (next_power (suc (length (entries_below cs)))) (composed g (child_lists b entry cs)) (composed f (child_lists exact entry cs))
  composed_near g f entry cs near total total' h k each r =
      let ms : List MatchedChild = matched entry cs in
      let n : ℕ = length (entries_below cs) in
      let step : (accuracy * scales ms) * running_sum (composed g (map (λ m. m.near) ms)) r ≤ ((accuracy + 1) * factors ms) * running_sum (composed f (map (λ m. m.exact) ms)) r =
      composed-near accuracy g f ms near each
      (rw (nears_are entry cs, total) (children_descend b entry cs h)) (rw (exacts_are entry cs, total') (children_descend exact entry cs k)) (columns_descend entry cs h) r in
      let lower : accuracy_power (suc n) ≡ accuracy * scales ms = pow-succ' accuracy n ∙ ap (λ x. accuracy * x) (sym (scales_are entry cs)) in
      let upper : next_power (suc n) ≡ (accuracy + 1) * factors ms = pow-succ' (accuracy + 1) n ∙ ap (λ x. (accuracy + 1) * x) (sym (factors_are entry cs)) in
      rw (lower, upper, sym (nears_are entry cs), sym (exacts_are entry cs)) step

  mutual
    below_near : (entry : ℕ) (cs : Classes) → EachColumnBelow (HasList b) entry cs → EachColumnBelow (HasList exact) entry cs → EachColumnBelow (ListIsNear accuracy b exact) entry cs
        → AllByRecursion (IsNear accuracy) (matched entry cs)
    below_near entry no_class h k near = tt
    below_near entry (and_class column members rest) h k near = (record { column = near.0; class = within_near members h.1 k.1 near.1 }, below_near entry rest h.2 k.2 near.2)

    within_near : (ms : Members) → EachColumnWithin (HasList b) ms → EachColumnWithin (HasList exact) ms → EachColumnWithin (ListIsNear accuracy b exact) ms
        → SumsAreWithin (accuracy_power (length (entries_within ms))) (next_power (length (entries_within ms))) (class_list b ms) (class_list exact ms)
    within_near (one_member entry column below) h k near =
        composed_near (b.list entry column) (exact.list entry column) entry below near.0 h.0.total k.0.total h.1 k.1 (below_near entry below h.1 k.1 near.1)
    within_near (and_member entry column below rest) h k near =
        let g : List ℕ = composed (b.list entry column) (child_lists b entry below) in
        let f : List ℕ = composed (exact.list entry column) (child_lists exact entry below) in
        let n : ℕ = suc (length (entries_below below)) in
        let m : ℕ = length (entries_within rest) in
        let count : suc (length (entries_below below ++ entries_within rest)) ≡ n + m = omega (arith, length-append (entries_below below) (entries_within rest)) in
        let descends : (r : ℕ) → get_or g (suc r) 0 ≤ get_or g r 0 = IsDescending-composed (b.list entry column) (child_lists b entry below) h.0.descends (rw h.0.total (children_descend b entry below h.1)) in
        rw (count, sym (power-add accuracy n m), sym (power-add (accuracy + 1) n m))
        (rank_product-near (accuracy_power n) (next_power n) (accuracy_power m) (next_power m) f (class_list exact rest) g (class_list b rest) (class_descends exact rest k.2) descends
        (composed_near (b.list entry column) (exact.list entry column) entry below near.0 h.0.total k.0.total h.1 k.1 (below_near entry below h.1 k.1 near.1))
        (within_near rest h.2 k.2 near.2))

  -- ---- nearness of the bound of a tree

  -- the root's total is the first element of the composition of the one-element list [n]: n rows with one key
  root_is : (children : List ChildLists) (n : ℕ) → root_total children n ≡ running_sum (composed (n ∷ []) children) 1
  root_is children n =
      let whole : sum (n ∷ []) ≡ n = omega arith in
      let block : running_sum (n ∷ []) 1 ≡ n = omega (arith, running_sum-nil 0) in
      sym (running_sum-composition (n ∷ []) children 1 ∙ rw (whole, block) (all_weights children n))
    where
      all_weights : (children : List ChildLists) (n : ℕ) → running_sum (row_weights children n) n ≡ root_total children n
      all_weights children n =
          let whole : length (row_weights children n) ≡ n = length-map (range_with_len 1 n) (weight_by_rank children) ∙ length-range_with_len 1 n in
          ap (running_sum (row_weights children n)) (sym whole) ∙ running_sum-whole (row_weights children n)

  one_within : (m n : ℕ) → accuracy * m ≤ (accuracy + 1) * n → SumsAreWithin accuracy (accuracy + 1) (m ∷ []) (n ∷ [])
  one_within m n h zero = omega arith
  one_within m n h (suc r) = let a : running_sum (m ∷ []) (suc r) ≡ m = omega (arith, running_sum-nil r) in let c : running_sum (n ∷ []) (suc r) ≡ n = omega (arith, running_sum-nil r) in rw (a, c) h

  pub tree_near : (t : BergeTree) → TreeHasLists b t → TreeHasLists exact t → TreeIsNear accuracy b exact t → accuracy_power (length (entries t)) * bound_of_tree b t ≤ next_power (length (entries t)) * bound_of_tree exact t
  tree_near t h k near =
      let g : List ℕ = b.rows t.root ∷ [] in
      let f : List ℕ = exact.rows t.root ∷ [] in
      rw (root_is (child_lists b t.root t.below) (b.rows t.root), root_is (child_lists exact t.root t.below) (exact.rows t.root))
      (composed_near g f t.root t.below (one_within (b.rows t.root) (exact.rows t.root) near.root) (omega arith) (omega arith) h k (below_near t.root t.below h k near.columns) 1)

  -- ---- nearness of the bound of several trees

  multiplied : (p q x y p' q' x' y' : ℕ) → p * x ≤ q * y → p' * x' ≤ q' * y' → (p * p') * (x * x') ≤ (q * q') * (y * y')
  multiplied p q x y p' q' x' y' h k = omega (arith, mul-le-mul h k, regrouped p x p' x', regrouped q y q' y')
    where
      regrouped : (a c e d : ℕ) → (a * c) * (e * d) ≡ (a * e) * (c * d)
      regrouped a c e d = omega arith

  pub trees_near : (ts : List BergeTree) → AllByRecursion (TreeHasLists b) ts → AllByRecursion (TreeHasLists exact) ts → AllByRecursion (TreeIsNear accuracy b exact) ts
      → accuracy_power (length (entries_of_all ts)) * bound_of_trees b ts ≤ next_power (length (entries_of_all ts)) * bound_of_trees exact ts
  trees_near [] h k near = rw (pow-zero accuracy, pow-zero (accuracy + 1)) (omega arith)
  trees_near (t ∷ ts) h k near =
      let n : ℕ = length (entries t) in
      let m : ℕ = length (entries_of_all ts) in
      rw (length-append (entries t) (entries_of_all ts), sym (power-add accuracy n m), sym (power-add (accuracy + 1) n m))
      (multiplied (accuracy_power n) (next_power n) (bound_of_tree b t) (bound_of_tree exact t) (accuracy_power m) (next_power m) (bound_of_trees b ts) (bound_of_trees exact ts)
      (tree_near t h.0 k.0 near.0) (trees_near ts h.1 k.1 near.1))
