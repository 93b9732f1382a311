-- `subtrees` lists the trees at a tree's inner nodes. Each node has the entries at the leaves of its tree, and the bound of the set of these entries.
use Rattle.std.proofs.Common.{◌≡◌, ℕ, ◌+◌, ◌^◌, ◌<◌, List, [], ◌∷◌, ◌++◌, length, map, get_or, refl, ap, sym, ◌∙◌, subst, arith, append_assoc}
use Rattle.std.specs.List.{AllByRecursion}
use Rattle.std.proofs.lemmas.List.{append-nil, get_or_append_left, get_or_push, length-append, length-map, map-append}
use Rattle.std.proofs.lemmas.Nat.Bits.{bit_at-pow_same}
use Rattle.entry_sets.specs.Sets.{set_of}
use Rattle.entry_sets.proofs.Bits.{entry_below}
use Rattle.berge_tree.proofs.Separate.{all_append}
use Rattle.plans.specs.declared.bushy.Join.{Join}
use Rattle.bushy_plan.specs.PlanTrees.{IsTreeOver, PlanTree, leaf, node, leaf_bits, inner_count, joins_from, root_number}
use Rattle.bushy_plan.proofs.Splitting.{split_sum}
use Rattle.tree_rows.specs.Trees.{with_joins}
use Rattle.tree_rows.proofs.Once.{at, joins_more, sides}

abbrev pub leaves : PlanTree → List ℕ
leaves (leaf entry) = entry ∷ []
leaves (node left right) = leaves left ++ leaves right

-- the trees at the inner nodes, in the order of the nodes' numbers
abbrev pub subtrees : PlanTree → List PlanTree
subtrees (leaf entry) = []
subtrees (node left right) = subtrees left ++ subtrees right ++ node left right ∷ []

pub length-subtrees : (tree : PlanTree) → length (subtrees tree) ≡ inner_count tree
length-subtrees (leaf entry) = refl
length-subtrees (node left right) =
    omega (
      arith,
      length-append {A = PlanTree} (subtrees left ++ subtrees right) (node left right ∷ []),
      length-append {A = PlanTree} (subtrees left) (subtrees right),
      length-subtrees left,
      length-subtrees right,
    )

-- ---- the bounds of the nodes

abbrev pub bound_of : List ℕ → PlanTree → ℕ
bound_of bounds tree = get_or bounds (leaf_bits tree) 0

pub bounds_are : (bounds : List ℕ) (next : ℕ) (tree : PlanTree)
    → map (λ join. join.bound) (joins_from bounds next tree) ≡ map (bound_of bounds) (subtrees tree)
bounds_are bounds next (leaf entry) = refl
bounds_are bounds next (node left right) =
    let of_left = joins_from bounds next left in
    let of_right = joins_from bounds (next + inner_count left) right in
    let own : Join = record {
      left = root_number next left;
      right = root_number (next + inner_count left) right;
      bound = bound_of bounds (node left right);
    } in
    map-append (λ (join : Join). join.bound) (of_left ++ of_right) (own ∷ [])
    ∙ ap (λ (s : List ℕ). s ++ bound_of bounds (node left right) ∷ []) (map-append (λ (join : Join). join.bound) of_left of_right
    ∙ ap (λ (s : List ℕ). s ++ map (λ (join : Join). join.bound) of_right) (bounds_are bounds next left)
    ∙ ap (λ (s : List ℕ). map (bound_of bounds) (subtrees left) ++ s) (bounds_are bounds (next + inner_count left) right)
    ∙ sym (map-append (bound_of bounds) (subtrees left) (subtrees right)))
    ∙ sym (map-append (bound_of bounds) (subtrees left ++ subtrees right) (node left right ∷ []))

-- ---- the sets of the nodes' entries

pub record IsTreeOverLeaves (n : ℕ) (tree : PlanTree) : Type 0 where
  pub over : IsTreeOver (leaf_bits tree) tree
  pub fits : leaf_bits tree < 2 ^ n

pub all_trees_over_leaves : (n set : ℕ) (tree : PlanTree) → set < 2 ^ n → IsTreeOver set tree → AllByRecursion (IsTreeOverLeaves n) (subtrees tree)
all_trees_over_leaves n set (leaf entry) fits is_tree = tt
all_trees_over_leaves n set (node left right) fits is_tree =
    let whole : leaf_bits left + leaf_bits right ≡ set = split_sum set (leaf_bits left) (leaf_bits right) is_tree.0 in
    all_append (IsTreeOverLeaves n) (subtrees left ++ subtrees right) (node left right ∷ [])
    (all_append (IsTreeOverLeaves n) (subtrees left) (subtrees right) (all_trees_over_leaves n (leaf_bits left) left (omega arith) is_tree.1)
    (all_trees_over_leaves n (leaf_bits right) right (omega arith) is_tree.2))
    (record { over = subst (λ (s : ℕ). IsTreeOver s (node left right)) (sym whole) is_tree; fits = omega arith }, tt)

set_of_both : (xs ys : List ℕ) → set_of (xs ++ ys) ≡ set_of xs + set_of ys
set_of_both [] ys = omega arith
set_of_both (x ∷ xs) ys = omega (arith, set_of_both xs ys)

pub set_of_leaves : (tree : PlanTree) → set_of (leaves tree) ≡ leaf_bits tree
set_of_leaves (leaf entry) = omega arith
set_of_leaves (node left right) = omega (arith, set_of_both (leaves left) (leaves right), set_of_leaves left, set_of_leaves right)

-- ---- the entries of the nodes

joins_both : (nodes : List (List ℕ)) (xs ys : List Join) → with_joins nodes (xs ++ ys) ≡ with_joins (with_joins nodes xs) ys
joins_both nodes [] ys = refl
joins_both nodes (join ∷ xs) ys = joins_both (nodes ++ sides nodes join ∷ []) xs ys

abbrev pub HaveLeaves : ℕ → List (List ℕ) → Type 0
HaveLeaves n nodes = (entry : ℕ) → entry < n → (entry < length nodes) × (at nodes entry ≡ entry ∷ [])

more_leaves : (n : ℕ) (nodes others : List (List ℕ)) → HaveLeaves n nodes → HaveLeaves n (nodes ++ others)
more_leaves n nodes others have entry entry_in_range =
    let here = have entry entry_in_range in (
      omega (arith, here.0, length-append nodes others),
      get_or_append_left nodes others [] entry here.0 ∙ here.1,
    )

abbrev pub with_tree : List (List ℕ) → PlanTree → List (List ℕ)
with_tree nodes tree = nodes ++ map leaves (subtrees tree)

length-with_tree : (nodes : List (List ℕ)) (tree : PlanTree) → length (with_tree nodes tree) ≡ length nodes + inner_count tree
length-with_tree nodes tree =
    omega (arith, length-append nodes (map leaves (subtrees tree)), length-map (subtrees tree) leaves, length-subtrees tree)

last_node_is_root : (nodes : List (List ℕ)) (left right : PlanTree)
    → with_tree (with_tree nodes left) right ++ leaves (node left right) ∷ [] ≡ with_tree nodes (node left right)
last_node_is_root nodes left right =
    ap (λ (s : List (List ℕ)). s ++ leaves (node left right) ∷ [])
    (append_assoc nodes (map leaves (subtrees left)) (map leaves (subtrees right))
    ∙ ap (λ (s : List (List ℕ)). nodes ++ s) (sym (map-append leaves (subtrees left) (subtrees right))))
    ∙ append_assoc nodes (map leaves (subtrees left ++ subtrees right)) (leaves (node left right) ∷ [])
    ∙ ap (λ (s : List (List ℕ)). nodes ++ s) (sym (map-append leaves (subtrees left ++ subtrees right) (node left right ∷ [])))

record RootStands (nodes : List (List ℕ)) (next : ℕ) (tree : PlanTree) : Type 0 where
  is_there : root_number next tree < length (with_tree nodes tree)
  entries : at (with_tree nodes tree) (root_number next tree) ≡ leaves tree

root_stands : (n set next : ℕ) (nodes : List (List ℕ)) (tree : PlanTree) → length nodes ≡ next → HaveLeaves n nodes
    → set < 2 ^ n → IsTreeOver set tree → RootStands nodes next tree
root_stands n set next nodes (leaf entry) has_length have fits is_tree =
    let below : entry < n = entry_below n (2 ^ entry) entry (omega arith) (bit_at-pow_same entry) in
    let here = more_leaves n nodes [] have entry below in
    record { is_there = here.0; entries = here.1 }
root_stands n set next nodes (node left right) has_length have fits is_tree =
    let front : List (List ℕ) = with_tree (with_tree nodes left) right in
    let place : length front ≡ next + inner_count left + inner_count right =
    omega (arith, has_length, length-with_tree (with_tree nodes left) right, length-with_tree nodes left) in
    record {
      is_there = omega (arith, has_length, length-with_tree nodes (node left right));
      entries = ap (λ (s : List (List ℕ)). at s (root_number next (node left right))) (sym (last_node_is_root nodes left right))
          ∙ get_or_push front (leaves (node left right)) [] (root_number next (node left right)) place;
    }

root_later : (nodes others : List (List ℕ)) (next : ℕ) (tree : PlanTree) → RootStands nodes next tree
    → at (with_tree nodes tree ++ others) (root_number next tree) ≡ leaves tree
root_later nodes others next tree stands =
    get_or_append_left (with_tree nodes tree) others [] (root_number next tree) stands.is_there ∙ stands.entries

pub joins_are : (bounds : List ℕ) (n set next : ℕ) (nodes : List (List ℕ)) (tree : PlanTree) → length nodes ≡ next → HaveLeaves n nodes
    → set < 2 ^ n → IsTreeOver set tree → with_joins nodes (joins_from bounds next tree) ≡ with_tree nodes tree
joins_are bounds n set next nodes (leaf entry) has_length have fits is_tree = sym (append-nil nodes)
joins_are bounds n set next nodes (node left right) has_length have fits is_tree =
    let whole : leaf_bits left + leaf_bits right ≡ set = split_sum set (leaf_bits left) (leaf_bits right) is_tree.0 in
    let of_left = joins_from bounds next left in
    let of_right = joins_from bounds (next + inner_count left) right in
    let own : Join = record {
      left = root_number next left;
      right = root_number (next + inner_count left) right;
      bound = bound_of bounds (node left right);
    } in
    let second : List (List ℕ) = with_tree nodes left in
    let third : List (List ℕ) = with_tree second right in
    let second_has_length : length second ≡ next + inner_count left = omega (arith, has_length, length-with_tree nodes left) in
    let have_second : HaveLeaves n second = more_leaves n nodes (map leaves (subtrees left)) have in
    let both : with_joins nodes (of_left ++ of_right) ≡ third =
    joins_both nodes of_left of_right
    ∙ ap (λ (s : List (List ℕ)). with_joins s of_right)
    (joins_are bounds n (leaf_bits left) next nodes left has_length have (omega arith) is_tree.1)
    ∙ joins_are bounds n (leaf_bits right) (next + inner_count left) second right second_has_length have_second (omega arith) is_tree.2 in
    let left_side : at third own.left ≡ leaves left =
    root_later nodes (map leaves (subtrees right)) next left
    (root_stands n (leaf_bits left) next nodes left has_length have (omega arith) is_tree.1) in
    let right_side : at third own.right ≡ leaves right =
    (root_stands n (leaf_bits right) (next + inner_count left) second right second_has_length have_second (omega arith) is_tree.2).entries in
    joins_more nodes (of_left ++ of_right) own
    ∙ ap (λ (s : List (List ℕ)). s ++ sides s own ∷ []) both
    ∙ ap (λ (s : List ℕ). third ++ (s ++ at third own.right) ∷ []) left_side
    ∙ ap (λ (s : List ℕ). third ++ (leaves left ++ s) ∷ []) right_side
    ∙ last_node_is_root nodes left right
