-- The joins of a tree over all entries make a plan. There is one join fewer than entries, and each join has a higher number than the two nodes that
-- it joins. Together the joins name each node except the root exactly once.
use Rattle.std.proofs.Common.{◌≡◌, ℕ, zero, suc, ◌+◌, ◌*◌, ◌-◌, ◌^◌, ◌<◌, ◌≤◌, eqb, leb, ltb, cond, List, [], ◌∷◌, ◌++◌, length, get_or, refl, ap, sym, ◌∙◌, subst, arith, inl, inr}
use Rattle.std.specs.Int.{bit_at}
use Rattle.std.specs.List.{AllByRecursion, count_by}
use Rattle.std.proofs.lemmas.Bool.{cases_eq, cases_lt, cases_order}
use Rattle.std.proofs.lemmas.Bool.Decides.{nat_tests}
use Rattle.std.proofs.lemmas.List.{length-append}
use Rattle.std.proofs.lemmas.List.Sums.{sum_by-append, sum_by-cons}
use Rattle.std.proofs.lemmas.Nat.{pow_pos}
use Rattle.std.proofs.lemmas.Nat.Bits.{bit_at-pow_same, bit_at-pow_other, bit_at_ones, bit_at_ones_above}
use Rattle.entry_sets.proofs.Bits.{entry_below}
use Rattle.order_search.proofs.Bits.{size_below, size-none, size-whole, size-without}
use Rattle.plans.specs.TreePlans.{HaveHigherNumbers, joined_nodes}
use Rattle.plans.specs.declared.bushy.Join.{Join}
use Rattle.bushy_plan.specs.BestTree.{full_set, inner_greatest}
use Rattle.bushy_plan.specs.PlanTrees.{IsSplit, IsTreeOver, PlanTree, leaf, node, leaf_bits, inner_count, joins_from, root_number}
use Rattle.bushy_plan.proofs.Splitting.{split_sum}

-- ---- the number of joins

pub length-joins_from : (bounds : List ℕ) (next : ℕ) (tree : PlanTree) → length (joins_from bounds next tree) ≡ inner_count tree
length-joins_from bounds next (leaf entry) = refl
length-joins_from bounds next (node left right) =
    omega (
      arith,
      length-append {A = Join} (joins_from bounds next left ++ joins_from bounds (next + inner_count left) right) (record {
        left = root_number next left;
        right = root_number (next + inner_count left) right;
        bound = get_or bounds (leaf_bits left + leaf_bits right) 0;
      } ∷ []),
      length-append {A = Join} (joins_from bounds next left) (joins_from bounds (next + inner_count left) right),
      length-joins_from bounds next left,
      length-joins_from bounds (next + inner_count left) right,
    )

size-split : (n set left right : ℕ) → IsSplit set left right → size_below n set ≡ size_below n left + size_below n right
size-split zero set left right split = refl
size-split (suc n) set left right split = omega (arith, split.apart n, size-split n set left right split)

size-one : (n entry : ℕ) → entry < n → size_below n (2 ^ entry) ≡ 1
size-one n entry below =
    let none : 2 ^ entry - 2 ^ entry ≡ 0 = omega arith in
    omega (arith, size-without n entry (2 ^ entry) below (bit_at-pow_same entry), ap (size_below n) none, size-none n)

pub inner_count_by_size : (n set : ℕ) (tree : PlanTree) → set < 2 ^ n → IsTreeOver set tree → inner_count tree + 1 ≡ size_below n set
inner_count_by_size n set (leaf entry) fits is_tree =
    let below : entry < n = entry_below n (2 ^ entry) entry (omega arith) (bit_at-pow_same entry) in
    omega (arith, size-one n entry below, ap (size_below n) is_tree)
inner_count_by_size n set (node left right) fits is_tree =
    let whole : leaf_bits left + leaf_bits right ≡ set = split_sum set (leaf_bits left) (leaf_bits right) is_tree.0 in
    omega (
      arith,
      size-split n set (leaf_bits left) (leaf_bits right) is_tree.0,
      inner_count_by_size n (leaf_bits left) left (omega arith) is_tree.1,
      inner_count_by_size n (leaf_bits right) right (omega arith) is_tree.2,
    )

pub count_of_all : (n : ℕ) (tree : PlanTree) → IsTreeOver (full_set n) tree → inner_count tree + 1 ≡ n
count_of_all n tree is_tree = inner_count_by_size n (full_set n) tree (omega (arith, pow_pos n)) is_tree ∙ size-whole n

-- ---- each join has a higher number than the two nodes that it joins

higher_numbers-append : (own next : ℕ) (xs ys : List Join) → HaveHigherNumbers own xs → own + length xs ≡ next → HaveHigherNumbers next ys → HaveHigherNumbers own (xs ++ ys)
higher_numbers-append own next [] ys p is q = let same : next ≡ own = omega arith in subst (λ (k : ℕ). HaveHigherNumbers k ys) same q
higher_numbers-append own next (x ∷ xs) ys p is q = (p.0, p.1, higher_numbers-append (own + 1) next xs ys p.2 (omega arith) q)

root_below : (n set next : ℕ) (tree : PlanTree) → set < 2 ^ n → n ≤ next → IsTreeOver set tree → root_number next tree < next + inner_count tree
root_below n set next (leaf entry) fits h is_tree =
    let below : entry < n = entry_below n (2 ^ entry) entry (omega arith) (bit_at-pow_same entry) in
    omega arith
root_below n set next (node left right) fits h is_tree = omega arith

pub have_higher_numbers : (bounds : List ℕ) (n set next : ℕ) (tree : PlanTree) → set < 2 ^ n → n ≤ next → IsTreeOver set tree → HaveHigherNumbers next (joins_from bounds next tree)
have_higher_numbers bounds n set next (leaf entry) fits h is_tree = tt
have_higher_numbers bounds n set next (node left right) fits h is_tree =
    let whole : leaf_bits left + leaf_bits right ≡ set = split_sum set (leaf_bits left) (leaf_bits right) is_tree.0 in
    let left_root : root_number next left < next + inner_count left = root_below n (leaf_bits left) next left (omega arith) h is_tree.1 in
    let right_root : root_number (next + inner_count left) right < next + inner_count left + inner_count right =
    root_below n (leaf_bits right) (next + inner_count left) right (omega arith) (omega arith) is_tree.2 in
    higher_numbers-append next (next + inner_count left + inner_count right) (joins_from bounds next left ++ joins_from bounds (next + inner_count left) right) _
    (higher_numbers-append next (next + inner_count left) (joins_from bounds next left) (joins_from bounds (next + inner_count left) right)
    (have_higher_numbers bounds n (leaf_bits left) next left (omega arith) h is_tree.1)
    (omega (arith, length-joins_from bounds next left))
    (have_higher_numbers bounds n (leaf_bits right) (next + inner_count left) right (omega arith) (omega arith) is_tree.2))
    (omega (
      arith,
      length-append {A = Join} (joins_from bounds next left) (joins_from bounds (next + inner_count left) right),
      length-joins_from bounds next left,
      length-joins_from bounds (next + inner_count left) right,
    ))
    (omega arith, right_root, tt)

-- ---- each node except the root is joined exactly once

abbrev occurrences : ℕ → List ℕ → ℕ
occurrences k xs = count_by (λ other. eqb other k) xs

-- 1 if the numbers are equal, otherwise 0
abbrev one_if_equal : ℕ → ℕ → ℕ
one_if_equal a b = cond (eqb a b) 1 0

-- 1 if first <= k < first + count, otherwise 0
abbrev one_if_inside : ℕ → ℕ → ℕ → ℕ
one_if_inside first count k = cond (leb first k) (cond (ltb k (first + count)) 1 0) 0

one_if_same : (a b : ℕ) → a ≡ b → one_if_equal a b ≡ 1
one_if_same a b same = grind (arith, nat_tests)

one_other : (a b : ℕ) → (a ≡ b → ⊥) → one_if_equal a b ≡ 0
one_other a b apart = grind (arith, nat_tests)

inside_below : (first count k : ℕ) → k < first → one_if_inside first count k ≡ 0
inside_below first count k h = grind (arith, nat_tests)

inside_yes : (first count k : ℕ) → first ≤ k → k < first + count → one_if_inside first count k ≡ 1
inside_yes first count k h g = grind (arith, nat_tests)

inside_above : (first count k : ℕ) → first + count ≤ k → one_if_inside first count k ≡ 0
inside_above first count k h = grind (arith, nat_tests)

inside_parts : (first a b k : ℕ) → one_if_inside first a k + one_if_inside (first + a) b k + one_if_equal (first + a + b) k ≡ one_if_inside first (a + b + 1) k
inside_parts first a b k = elim (cases_lt k first) [
  | inl below ↦ omega (arith, inside_below first a k below, inside_below (first + a) b k (omega arith), one_other (first + a + b) k (λ same. absurd (omega arith)), inside_below first (a + b + 1) k below)
  | inr from ↦ elim (cases_lt k (first + a)) [
    | inl in_a ↦ omega (arith, inside_yes first a k from in_a, inside_below (first + a) b k in_a, one_other (first + a + b) k (λ same. absurd (omega arith)), inside_yes first (a + b + 1) k from (omega arith))
    | inr past_a ↦ elim (cases_order k (first + a + b)) [
      | inl last ↦ omega (arith, inside_above first a k past_a, inside_above (first + a) b k (omega arith), one_if_same (first + a + b) k (sym last), inside_yes first (a + b + 1) k from (omega arith))
      | inr apart ↦ elim apart [
        | inl in_b ↦ omega (arith, inside_above first a k past_a, inside_yes (first + a) b k past_a in_b, one_other (first + a + b) k (λ same. absurd (omega arith)), inside_yes first (a + b + 1) k from (omega arith))
        | inr past ↦ omega (arith, inside_above first a k past_a, inside_above (first + a) b k (omega arith), one_other (first + a + b) k (λ same. absurd (omega arith)), inside_above first (a + b + 1) k (omega arith))
      ]
    ]
  ]
]

nodes-append : (xs ys : List Join) → joined_nodes (xs ++ ys) ≡ joined_nodes xs ++ joined_nodes ys
nodes-append [] ys = refl
nodes-append (x ∷ xs) ys = ap (λ (s : List ℕ). x.left ∷ (x.right ∷ s)) (nodes-append xs ys)

occurrences-append : (k : ℕ) (xs ys : List ℕ) → occurrences k (xs ++ ys) ≡ occurrences k xs + occurrences k ys
occurrences-append k xs ys = sum_by-append (λ (x : ℕ). cond (eqb x k) 1 0) xs ys

occurrences-two : (k a b : ℕ) → occurrences k (a ∷ (b ∷ [])) ≡ one_if_equal a k + one_if_equal b k
occurrences-two k a b = omega (arith, sum_by-cons (λ (x : ℕ). cond (eqb x k) 1 0) a (b ∷ []), sum_by-cons (λ (x : ℕ). cond (eqb x k) 1 0) b [], none)
  where
    none : occurrences k [] ≡ 0
    none = refl

times_in_node : (bounds : List ℕ) (next k : ℕ) (left right : PlanTree) → occurrences k (joined_nodes (joins_from bounds next (node left right)))
    ≡ occurrences k (joined_nodes (joins_from bounds next left)) + occurrences k (joined_nodes (joins_from bounds (next + inner_count left) right)) + (one_if_equal (root_number next left) k + one_if_equal (root_number (next + inner_count left) right) k)
times_in_node bounds next k left right =
    ap (occurrences k) (nodes-append (joins_from bounds next left ++ joins_from bounds (next + inner_count left) right) _)
    ∙ occurrences-append k (joined_nodes (joins_from bounds next left ++ joins_from bounds (next + inner_count left) right)) (root_number next left ∷ (root_number (next + inner_count left) right ∷ []))
    ∙ omega (
      arith,
      ap (occurrences k) (nodes-append (joins_from bounds next left) (joins_from bounds (next + inner_count left) right)),
      occurrences-append k (joined_nodes (joins_from bounds next left)) (joined_nodes (joins_from bounds (next + inner_count left) right)),
      occurrences-two k (root_number next left) (root_number (next + inner_count left) right),
    )

-- the number k occurs equally often in two lists. The first list has the nodes that joins name, and the root. The second list has the leaves and the
-- inner nodes
named_with_root : (bounds : List ℕ) (set next k : ℕ) (tree : PlanTree) → IsTreeOver set tree
    → occurrences k (joined_nodes (joins_from bounds next tree)) + one_if_equal (root_number next tree) k ≡ bit_at set k + one_if_inside next (inner_count tree) k
named_with_root bounds set next k (leaf entry) is_tree = elim (cases_eq k entry) [
  | inl same ↦ omega (arith, one_if_same entry k (sym same), bit_at-pow_same entry, ap (bit_at (2 ^ entry)) same, ap (λ s. bit_at s k) is_tree, empty, none)
  | inr apart ↦ omega (arith, one_other entry k (λ same. apart (sym same)), bit_at-pow_other entry k apart, ap (λ s. bit_at s k) is_tree, empty, none)
]
  where
    empty : one_if_inside next 0 k ≡ 0
    empty = elim (cases_lt k next) [
      | inl below ↦ inside_below next 0 k below
      | inr from ↦ inside_above next 0 k (omega arith)
    ]

    none : occurrences k [] ≡ 0
    none = refl
named_with_root bounds set next k (node left right) is_tree =
    omega (
      arith,
      times_in_node bounds next k left right,
      named_with_root bounds (leaf_bits left) next k left is_tree.1,
      named_with_root bounds (leaf_bits right) (next + inner_count left) k right is_tree.2,
      is_tree.0.apart k,
      inside_parts next (inner_count left) (inner_count right) k,
    )

root_of_all : (n : ℕ) (tree : PlanTree) → IsTreeOver (full_set n) tree → 0 < inner_count tree → root_number n tree ≡ 2 * n - 2
root_of_all n (leaf entry) is_tree some = absurd (omega arith)
root_of_all n (node left right) is_tree some = omega (arith, count_of_all n (node left right) is_tree)

pub named_once : (bounds : List ℕ) (n k : ℕ) (tree : PlanTree) → IsTreeOver (full_set n) tree → k < 2 * n - 2 → occurrences k (joined_nodes (joins_from bounds n tree)) ≡ 1
named_once bounds n k tree is_tree below =
    let count : inner_count tree + 1 ≡ n = count_of_all n tree is_tree in
    let root : root_number n tree ≡ 2 * n - 2 = root_of_all n tree is_tree (omega arith) in
    let all : occurrences k (joined_nodes (joins_from bounds n tree)) + one_if_equal (root_number n tree) k ≡ bit_at (full_set n) k + one_if_inside n (inner_count tree) k =
    named_with_root bounds (full_set n) n k tree is_tree in
    let other : one_if_equal (root_number n tree) k ≡ 0 = one_other (root_number n tree) k (λ same. absurd (omega arith)) in
    elim (cases_lt k n) [
      | inl is_leaf ↦ omega (arith, all, other, bit_at_ones n k is_leaf, inside_below n (inner_count tree) k is_leaf)
      | inr is_inner ↦ omega (arith, all, other, bit_at_ones_above n k is_inner, inside_yes n (inner_count tree) k is_inner (omega arith))
    ]

-- ---- a property of the bounds of all joins

all-append : (P : Join → Type 0) (xs ys : List Join) → AllByRecursion P xs → AllByRecursion P ys → AllByRecursion P (xs ++ ys)
all-append P [] ys p q = q
all-append P (x ∷ xs) ys p q = (p.0, all-append P xs ys p.1 q)

pub bounds_at_most : (bounds : List ℕ) (next most : ℕ) (tree : PlanTree) → inner_greatest bounds tree ≤ most → AllByRecursion (λ join. join.bound ≤ most) (joins_from bounds next tree)
bounds_at_most bounds next most (leaf entry) low = tt
bounds_at_most bounds next most (node left right) low =
    all-append (λ (join : Join). join.bound ≤ most) (joins_from bounds next left ++ joins_from bounds (next + inner_count left) right) _
    (all-append (λ (join : Join). join.bound ≤ most) (joins_from bounds next left) (joins_from bounds (next + inner_count left) right)
    (bounds_at_most bounds next most left (omega arith)) (bounds_at_most bounds (next + inner_count left) most right (omega arith)))
    (omega arith, tt)
