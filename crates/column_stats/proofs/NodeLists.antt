-- At which index the list of a node is among the lists of all nodes. First come the lists of the 32 nodes of one leaf, then the lists of the 16 nodes
-- of two leaves, and so on.
use Rattle.std.proofs.Common.{◌≡◌, ℕ, zero, suc, ◌+◌, ◌*◌, ◌/◌, ◌<◌, ◌≤◌, Bool, false, cond, eqb, List, [], ◌∷◌, ◌++◌, map, length, length-append, append_assoc, take, get_or, None, Some, refl, ap, sym, ◌∙◌, subst, arith}
use Rattle.std.specs.Prelude.{find, unwrap_or}
use Rattle.std.specs.List.{flat_map, range_with_len, zip}
use Rattle.std.proofs.Math.Nat.{mul-div_cancel_left}
use Rattle.std.proofs.lemmas.Bool.{cond_both, true≢false}
use Rattle.std.proofs.lemmas.List.{take_all, take_more}
use Rattle.std.proofs.lemmas.Grind.{flat_map-append}
use Rattle.std.proofs.lemmas.List.Concat.{get_or-flat_map}
use Rattle.std.proofs.lemmas.List.FromFn.{get_or-map-range_with_len, length-map-range_with_len, map-range_with_len_more}
use Rattle.cond_stats.specs.Leaves.{IsNodeSize, leaf_of, node_size}
use Rattle.cond_stats.specs.Lists.{list_of_node, list_where}
use Rattle.cond_stats.specs.Rows.{filter_values}
use Rattle.column_stats.specs.Nodes.{lists_of_size, node_lists, node_place, node_sizes}

pub each_size : (P : ℕ → Type 0) → P 1 → P 2 → P 4 → P 8 → P 16 → P 32 → (size : ℕ) → IsNodeSize size → P size
each_size P one two four eight sixteen all size (zero, h, is) = subst P is one
each_size P one two four eight sixteen all size (suc zero, h, is) = subst P is two
each_size P one two four eight sixteen all size (suc (suc zero), h, is) = subst P is four
each_size P one two four eight sixteen all size (suc (suc (suc zero)), h, is) = subst P is eight
each_size P one two four eight sixteen all size (suc (suc (suc (suc zero))), h, is) = subst P is sixteen
each_size P one two four eight sixteen all size (suc (suc (suc (suc (suc zero)))), h, is) = subst P is all
each_size P one two four eight sixteen all size (suc (suc (suc (suc (suc (suc k))))), h, is) = absurd (omega arith)

pub node_size-is : (low high : ℕ) → IsNodeSize (node_size low high)
node_size-is low high = sizes (λ size. eqb (low / size) (high / size))
  where
    sizes : (p : ℕ → Bool) → IsNodeSize (unwrap_or (find p (1 ∷ 2 ∷ 4 ∷ 8 ∷ 16 ∷ [])) 32)
    sizes p = cond_both (p 1) (Some 1) (cond (p 2) (Some 2) (cond (p 4) (Some 4) (cond (p 8) (Some 8) (cond (p 16) (Some 16) None)))) (λ o. IsNodeSize (unwrap_or o 32))
        (λ e. (0, omega arith, refl))
        (λ e. cond_both (p 2) (Some 2) (cond (p 4) (Some 4) (cond (p 8) (Some 8) (cond (p 16) (Some 16) None))) (λ o. IsNodeSize (unwrap_or o 32))
        (λ e. (1, omega arith, refl))
        (λ e. cond_both (p 4) (Some 4) (cond (p 8) (Some 8) (cond (p 16) (Some 16) None)) (λ o. IsNodeSize (unwrap_or o 32))
        (λ e. (2, omega arith, refl))
        (λ e. cond_both (p 8) (Some 8) (cond (p 16) (Some 16) None) (λ o. IsNodeSize (unwrap_or o 32))
        (λ e. (3, omega arith, refl))
        (λ e. cond_both (p 16) (Some 16) None (λ o. IsNodeSize (unwrap_or o 32)) (λ e. (4, omega arith, refl)) (λ e. (5, omega arith, refl))))))

module _ (F : ℕ → List (List ℕ)) (size_counts : (size : ℕ) → length (F size) ≡ 32 / size) where
  at : (i before j : ℕ) → i < 6 → length (flat_map F (take i node_sizes)) ≡ before → j < length (F (get_or node_sizes i 0))
      → get_or (flat_map F node_sizes) (before + j) [] ≡ get_or (F (get_or node_sizes i 0)) j []
  at i before j h is low = ap (λ n. get_or (flat_map F node_sizes) (n + j) []) (sym is) ∙ get_or-flat_map F node_sizes i j 0 [] h low

  pub node_list_count : length (flat_map F node_sizes) ≡ 63
  node_list_count = simp length-append (omega (arith, size_counts 1, size_counts 2, size_counts 4, size_counts 8, size_counts 16, size_counts 32))

  pub node_list_at : (leaf : ℕ) → leaf < 32 → (size : ℕ) → IsNodeSize size → get_or (flat_map F node_sizes) (node_place size leaf) [] ≡ get_or (F size) (leaf / size) []
  node_list_at leaf low = each_size (λ size. get_or (flat_map F node_sizes) (node_place size leaf) [] ≡ get_or (F size) (leaf / size) [])
      (at 0 0 (leaf / 1) (omega arith) refl (omega (arith, size_counts 1)))
      (at 1 32 (leaf / 2) (omega arith) (simp length-append (omega (arith, size_counts 1))) (omega (arith, size_counts 2)))
      (at 2 48 (leaf / 4) (omega arith) (simp length-append (omega (arith, size_counts 1, size_counts 2))) (omega (arith, size_counts 4)))
      (at 3 56 (leaf / 8) (omega arith) (simp length-append (omega (arith, size_counts 1, size_counts 2, size_counts 4))) (omega (arith, size_counts 8)))
      (at 4 60 (leaf / 16) (omega arith) (simp length-append (omega (arith, size_counts 1, size_counts 2, size_counts 4, size_counts 8))) (omega (arith, size_counts 16)))
      (at 5 62 (leaf / 32) (omega arith) (simp length-append (omega (arith, size_counts 1, size_counts 2, size_counts 4, size_counts 8, size_counts 16))) (omega (arith, size_counts 32)))

module _ (at_most : ℕ → ℕ → Bool) (k : ℕ) where
  -- a node may be given by any of its leaves, so its first leaf gives the same list
  pub by_first_leaf : (rows : List (ℕ × ℕ)) (size leaf : ℕ) → 0 < size → list_of_node at_most k rows size (size * (leaf / size)) ≡ list_of_node at_most k rows size leaf
  unfolding list_of_node
  by_first_leaf rows size leaf some = ap (λ n. list_where k (λ value. eqb (leaf_of at_most (filter_values rows) value / size) n) rows) (mul-div_cancel_left (leaf / size) some)

  pub list_of_no_rows : (size leaf : ℕ) → list_of_node at_most k [] size leaf ≡ []
  unfolding list_of_node
  list_of_no_rows size leaf = refl

  pub node_is : (rows : List (ℕ × ℕ)) (size leaf : ℕ) → IsNodeSize size → leaf < 32 → get_or (node_lists at_most k rows) (node_place size leaf) [] ≡ list_of_node at_most k rows size leaf
  node_is [] size leaf is low = sym (list_of_no_rows size leaf)
  node_is (row ∷ rows) size leaf is low =
      let some : 0 < size = each_size (λ s. 0 < s) (omega arith) (omega arith) (omega arith) (omega arith) (omega arith) (omega arith) size is in
      let within : leaf / size < 32 / size = each_size (λ s. leaf / s < 32 / s) (omega arith) (omega arith) (omega arith) (omega arith) (omega arith) (omega arith) size is in
      node_list_at (lists_of_size at_most k (row ∷ rows)) (λ s. length-map-range_with_len (λ i. list_of_node at_most k (row ∷ rows) s (s * i)) 0 (32 / s)) leaf low size is
      ∙ get_or-map-range_with_len (λ i. list_of_node at_most k (row ∷ rows) size (size * i)) 0 (32 / size) (leaf / size) (leaf / size) [] within (omega arith)
      ∙ by_first_leaf (row ∷ rows) size leaf some

  pub node_count : (row : ℕ × ℕ) (rows : List (ℕ × ℕ)) → length (node_lists at_most k (row ∷ rows)) ≡ 63
  node_count row rows = node_list_count (lists_of_size at_most k (row ∷ rows)) (λ s. length-map-range_with_len (λ i. list_of_node at_most k (row ∷ rows) s (s * i)) 0 (32 / s))

  pub nodes_if_rows : (column joined : List ℕ) → length joined ≡ length column → eqb (length joined) 0 ≡ false
      → flat_map (lists_of_size at_most k (zip column joined)) node_sizes ≡ node_lists at_most k (zip column joined)
  nodes_if_rows [] [] same some = absurd (true≢false some)
  nodes_if_rows [] (key ∷ keys) same some = absurd (omega arith)
  nodes_if_rows (v ∷ vs) [] same some = absurd (omega arith)
  nodes_if_rows (v ∷ vs) (key ∷ keys) same some = refl

-- ---- how the lists are gathered

pub one_more_node : (f : ℕ → List ℕ) (nodes before new : List (List ℕ)) (i : ℕ) (list : List ℕ) → before ≡ nodes ++ map f (range_with_len 0 i) → list ≡ f i
    → new ≡ before ++ list ∷ [] → new ≡ nodes ++ map f (range_with_len 0 (i + 1))
one_more_node f nodes before new i list are is pushed =
    pushed ∙ ap (λ s. s ++ list ∷ []) are ∙ append_assoc nodes (map f (range_with_len 0 i)) (list ∷ [])
    ∙ ap (λ s. nodes ++ s) (ap (λ x. map f (range_with_len 0 i) ++ x ∷ []) is ∙ sym (map-range_with_len_more f 0 i i (omega arith)))

append-nil : {X : Type 0} (xs : List X) → xs ++ [] ≡ xs
append-nil [] = refl
append-nil (x ∷ xs) = ap (λ s. x ∷ s) (append-nil xs)

pub one_more_size : (F : ℕ → List (List ℕ)) (sizes : List ℕ) (before new : List (List ℕ)) (i : ℕ) → i < length sizes → before ≡ flat_map F (take i sizes)
    → new ≡ before ++ F (get_or sizes i 0) → new ≡ flat_map F (take (i + 1) sizes)
one_more_size F sizes before new i h are pushed =
    pushed ∙ ap (λ s. s ++ F (get_or sizes i 0)) are ∙ ap (λ s. flat_map F (take i sizes) ++ s) (sym (append-nil (F (get_or sizes i 0))))
    ∙ sym (flat_map-append F (take i sizes) (get_or sizes i 0 ∷ [])) ∙ ap (flat_map F) (sym (take_more sizes i 0 h))

pub all_sizes : (F : ℕ → List (List ℕ)) (sizes : List ℕ) (nodes : List (List ℕ)) (i : ℕ) → length sizes ≤ i → nodes ≡ flat_map F (take i sizes) → nodes ≡ flat_map F sizes
all_sizes F sizes nodes i h are = are ∙ ap (flat_map F) (take_all i sizes h)
