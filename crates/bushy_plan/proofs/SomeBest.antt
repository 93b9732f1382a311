-- For any number of entries, some tree over them is best.
use Rattle.std.proofs.Common.{◌≡◌, ℕ, zero, suc, ◌+◌, ◌-◌, ◌^◌, ◌<◌, List, [], ◌∷◌, ◌++◌, length, refl, ap, sym, ◌∙◌, subst, arith, inl, inr}
use Rattle.std.specs.Prelude.{◌⊎◌}
use Rattle.std.specs.Int.{bit_at}
use Rattle.std.proofs.lemmas.Bool.{cases_eq, cases_lt, cases_order}
use Rattle.std.proofs.lemmas.List.{length-append}
use Rattle.std.proofs.lemmas.Nat.{pow_pos}
use Rattle.std.proofs.lemmas.Nat.Bits.{bit_at-lt, bit_at-pow_other, bit_at_above}
use Rattle.entry_sets.proofs.Bits.{power_of_next}
use Rattle.order_search.specs.Orders.{IsNotAfter}
use Rattle.order_search.proofs.NoWorse.{lexical_total, lexical_transitive}
use Rattle.bushy_plan.specs.BestTree.{IsTreeBefore, IsBest, full_set, cost, total}
use Rattle.bushy_plan.specs.PlanTrees.{IsFirstEntry, IsSplit, IsTreeOver, PlanTree, leaf, node, leaf_bits, inner_count}
use Rattle.bushy_plan.proofs.AllTrees.{IsWith, only_last, without_last}
use Rattle.bushy_plan.proofs.LeftDeep.{bit_with, split_with_first, tree_first}
use Rattle.bushy_plan.proofs.Numbering.{inner_count_by_size}
use Rattle.bushy_plan.proofs.Splitting.{first_of_power, some_entries, split_sum, tree_set}

-- ---- a tree with one more entry is a tree

no_last : (set last : ℕ) → set < 2 ^ last → bit_at set last ≡ 0
no_last set last fits = bit_at_above set last last fits (omega arith)

first_below : (set last first : ℕ) → set < 2 ^ last → IsFirstEntry set first → first < last
first_below set last first fits is_first = elim (cases_lt first last) [
  | inl below ↦ below
  | inr above ↦ absurd (omega (arith, bit_at_above set last first fits above, is_first.is_in))
]

pub at_root : (set last : ℕ) (tree : PlanTree) → set < 2 ^ last → IsTreeOver set tree → IsTreeOver (set + 2 ^ last) (node tree (leaf last))
at_root set last tree fits is_tree =
    let set_is : leaf_bits tree ≡ set = tree_set set tree is_tree in
    let first : (first : ℕ) × IsFirstEntry set first = tree_first set tree is_tree in (
      subst (λ (k : ℕ). IsSplit (set + 2 ^ last) k (2 ^ last)) (sym set_is)
          (split_with_first (set + 2 ^ last) set (2 ^ last) first.0 last (λ entry. sym (bit_with set last entry (no_last set last fits))) (omega (arith, set_is, some_entries tree)) (pow_pos last)
          first.1 (first_of_power last) (first_below set last first.0 fits first.1)),
      subst (λ (k : ℕ). IsTreeOver k tree) (sym set_is) is_tree,
      refl,
    )

first_with : (set last first : ℕ) → 0 < set → set < 2 ^ last → (own : ℕ) → IsFirstEntry set own → IsFirstEntry (set + 2 ^ last) first → IsFirstEntry set first
first_with set last first some fits own is_own is_first = elim (cases_order first own) [
  | inl same ↦ subst (λ (k : ℕ). IsFirstEntry set k) (sym same) is_own
  | inr apart ↦ elim apart [
    | inl below ↦ absurd (omega (
      arith,
      bit_with set last first (no_last set last fits),
      is_own.none_before first below,
      bit_at-pow_other last first (λ same. absurd (omega (arith, first_below set last own fits is_own))),
      is_first.is_in,
    ))
    | inr above ↦ absurd (omega (arith, bit_with set last own (no_last set last fits), is_own.is_in, is_first.none_before own above))
  ]
]

split_left_with : (set left right last own : ℕ) → set < 2 ^ last → left < 2 ^ last → IsFirstEntry set own → IsSplit set left right → IsSplit (set + 2 ^ last) (left + 2 ^ last) right
split_left_with set left right last own fits left_fits is_own split = record {
  apart = λ entry. omega (arith, split.apart entry, bit_with set last entry (no_last set last fits), bit_with left last entry (no_last left last left_fits));
  some_left = omega (arith, split.some_left);
  some_right = split.some_right;
  first_left = λ first is_first. (let its : bit_at left first ≡ 1 = split.first_left first (first_with set last first (omega (arith, some_set)) fits own is_own is_first) in
      omega (arith, bit_with left last first (no_last left last left_fits), its, bit_at-lt (left + 2 ^ last) first));
}
  where
    some_set : 0 < set
    some_set = elim (cases_eq set 0) [
      | inl none ↦ absurd (omega (arith, is_own.is_in, ap (λ k. bit_at k own) none, bit_at_above 0 0 own (omega arith) (omega arith)))
      | inr more ↦ omega arith
    ]

split_right_with : (set left right last own : ℕ) → set < 2 ^ last → right < 2 ^ last → IsFirstEntry set own → IsSplit set left right → IsSplit (set + 2 ^ last) left (right + 2 ^ last)
split_right_with set left right last own fits right_fits is_own split = record {
  apart = λ entry. omega (arith, split.apart entry, bit_with set last entry (no_last set last fits), bit_with right last entry (no_last right last right_fits));
  some_left = split.some_left;
  some_right = omega (arith, split.some_right);
  first_left = λ first is_first. split.first_left first (first_with set last first (omega (arith, some_set)) fits own is_own is_first);
}
  where
    some_set : 0 < set
    some_set = elim (cases_eq set 0) [
      | inl none ↦ absurd (omega (arith, is_own.is_in, ap (λ k. bit_at k own) none, bit_at_above 0 0 own (omega arith) (omega arith)))
      | inr more ↦ omega arith
    ]

pub with_over : (set last : ℕ) (rest tree : PlanTree) → set < 2 ^ last → IsTreeOver set rest → IsWith last rest tree → IsTreeOver (set + 2 ^ last) tree
with_over set last (leaf entry) tree fits is_tree is_with = subst (λ (t : PlanTree). IsTreeOver (set + 2 ^ last) t) (sym is_with) (at_root set last (leaf entry) fits is_tree)
with_over set last (node left right) tree fits is_tree is_with = elim is_with [
  | inl root ↦ subst (λ (t : PlanTree). IsTreeOver (set + 2 ^ last) t) (sym root) (at_root set last (node left right) fits is_tree)
  | inr inner ↦ elim inner [
    | inl l ↦ (let grown : IsTreeOver (leaf_bits left + 2 ^ last) l.0 = with_over (leaf_bits left) last left l.0 (omega (arith, whole)) is_tree.1 l.1 in
        let grown_set : leaf_bits l.0 ≡ leaf_bits left + 2 ^ last = tree_set (leaf_bits left + 2 ^ last) l.0 grown in
        subst (λ (t : PlanTree). IsTreeOver (set + 2 ^ last) t) (sym l.2) (
          subst (λ (k : ℕ). IsSplit (set + 2 ^ last) k (leaf_bits right)) (sym grown_set) (split_left_with set (leaf_bits left) (leaf_bits right) last first.0 fits (omega (arith, whole)) first.1 is_tree.0),
          subst (λ (k : ℕ). IsTreeOver k l.0) (sym grown_set) grown,
          is_tree.2,
        ))
    | inr r ↦ (let grown : IsTreeOver (leaf_bits right + 2 ^ last) r.0 = with_over (leaf_bits right) last right r.0 (omega (arith, whole)) is_tree.2 r.1 in
        let grown_set : leaf_bits r.0 ≡ leaf_bits right + 2 ^ last = tree_set (leaf_bits right + 2 ^ last) r.0 grown in
        subst (λ (t : PlanTree). IsTreeOver (set + 2 ^ last) t) (sym r.2) (
          subst (λ (k : ℕ). IsSplit (set + 2 ^ last) (leaf_bits left) k) (sym grown_set) (split_right_with set (leaf_bits left) (leaf_bits right) last first.0 fits (omega (arith, whole)) first.1 is_tree.0),
          is_tree.1,
          subst (λ (k : ℕ). IsTreeOver k r.0) (sym grown_set) grown,
        ))
  ]
]
  where
    whole : leaf_bits left + leaf_bits right ≡ set
    whole = split_sum set (leaf_bits left) (leaf_bits right) is_tree.0

    first : (first : ℕ) × IsFirstEntry set first
    first = tree_first set (node left right) is_tree

-- ---- in a total preorder of trees, some tree is least

record IsTotalPreorder (R : PlanTree → PlanTree → Type 0) : Type 0 where
  either : (a b : PlanTree) → R a b ⊎ R b a
  both : (a b c : PlanTree) → R a b → R b c → R a c

preorder_of_images : (R : PlanTree → PlanTree → Type 0) (f : PlanTree → PlanTree) → IsTotalPreorder R → IsTotalPreorder (λ a b. R (f a) (f b))
preorder_of_images R f order = record { either = λ a b. order.either (f a) (f b); both = λ a b c. order.both (f a) (f b) (f c) }

preorder_is_reflexive : (R : PlanTree → PlanTree → Type 0) → IsTotalPreorder R → (a : PlanTree) → R a a
preorder_is_reflexive R order a = elim (order.either a a) [
  | inl p ↦ p
  | inr q ↦ q
]

record LeastJoinedWith (R : PlanTree → PlanTree → Type 0) (last : ℕ) (rest : PlanTree) : Type 0 where
  tree : PlanTree
  is_with : IsWith last rest tree
  least : (other : PlanTree) → IsWith last rest other → R tree other

-- the least tree joins the last entry to the root, or at its best place in the left or the right subtree
least_of_three : (R : PlanTree → PlanTree → Type 0) → IsTotalPreorder R → (last : ℕ) (left right : PlanTree) → LeastJoinedWith (λ a b. R (node a right) (node b right)) last left
    → LeastJoinedWith (λ a b. R (node left a) (node left b)) last right → LeastJoinedWith R last (node left right)
least_of_three R order last left right l r = elim (order.either (node l.tree right) (node left r.tree)) [
  | inl left_first ↦ elim (order.either root (node l.tree right)) [
    | inl p ↦ made root (inl refl) (preorder_is_reflexive R order root) p (order.both root (node l.tree right) (node left r.tree) p left_first)
    | inr q ↦ made (node l.tree right) (inr (inl (l.tree, l.is_with, refl))) q (preorder_is_reflexive R order (node l.tree right)) left_first
  ]
  | inr right_first ↦ elim (order.either root (node left r.tree)) [
    | inl p ↦ made root (inl refl) (preorder_is_reflexive R order root) (order.both root (node left r.tree) (node l.tree right) p right_first) p
    | inr q ↦ made (node left r.tree) (inr (inr (r.tree, r.is_with, refl))) q right_first (preorder_is_reflexive R order (node left r.tree))
  ]
]
  where
    root : PlanTree
    root = node (node left right) (leaf last)

    made : (tree : PlanTree) → IsWith last (node left right) tree → R tree root → R tree (node l.tree right) → R tree (node left r.tree) → LeastJoinedWith R last (node left right)
    made tree is_with than_root than_left than_right = record {
      tree = tree;
      is_with = is_with;
      least = λ other other_with. elim other_with [
        | inl at ↦ subst (λ (t : PlanTree). R tree t) (sym at) than_root
        | inr inner ↦ elim inner [
          | inl x ↦ subst (λ (t : PlanTree). R tree t) (sym x.2) (order.both tree (node l.tree right) (node x.0 right) than_left (l.least x.0 x.1))
          | inr y ↦ subst (λ (t : PlanTree). R tree t) (sym y.2) (order.both tree (node left r.tree) (node left y.0) than_right (r.least y.0 y.1))
        ]
      ];
    }

least_with : (R : PlanTree → PlanTree → Type 0) → IsTotalPreorder R → (last : ℕ) (rest : PlanTree) → LeastJoinedWith R last rest
least_with R order last (leaf entry) = record {
  tree = node (leaf entry) (leaf last);
  is_with = refl;
  least = λ other is_with. subst (λ (t : PlanTree). R (node (leaf entry) (leaf last)) t) (sym is_with) (preorder_is_reflexive R order (node (leaf entry) (leaf last)));
}
least_with R order last (node left right) =
    least_of_three R order last left right
    (least_with (λ a b. R (node a right) (node b right)) (preorder_of_images R (λ t. node t right) order) last left)
    (least_with (λ a b. R (node left a) (node left b)) (preorder_of_images R (λ t. node left t) order) last right)

record LeastTree (R : PlanTree → PlanTree → Type 0) (n : ℕ) : Type 0 where
  tree : PlanTree
  is_tree : IsTreeOver (full_set n) tree
  least : (other : PlanTree) → IsTreeOver (full_set n) other → R tree other

least_with_next : (R : PlanTree → PlanTree → Type 0) → IsTotalPreorder R → ℕ → PlanTree → PlanTree
least_with_next R order last t = (least_with R order last t).tree

least_next : (R : PlanTree → PlanTree → Type 0) (order : IsTotalPreorder R) (n : ℕ) → LeastTree (λ a b. R (least_with_next R order (suc n) a) (least_with_next R order (suc n) b)) (suc n) → LeastTree R (suc (suc n))
unfolding least_with_next
least_next R order n best = record {
  tree = least_with_next R order (suc n) best.tree;
  is_tree = subst (λ (k : ℕ). IsTreeOver k (least_with_next R order (suc n) best.tree)) whole
      (with_over (full_set (suc n)) (suc n) best.tree (least_with_next R order (suc n) best.tree) (omega (arith, pow_pos (suc n))) best.is_tree (least_with R order (suc n) best.tree).is_with);
  least = λ other is_tree. (let rest : (rest : PlanTree) × IsTreeOver (full_set (suc n)) rest × IsWith (suc n) rest other = without_last n other is_tree in
      order.both (least_with_next R order (suc n) best.tree) (least_with_next R order (suc n) rest.0) other (best.least rest.0 rest.1) ((least_with R order (suc n) rest.0).least other rest.2));
}
  where
    whole : 2 ^ suc n - 1 + 2 ^ suc n ≡ 2 ^ suc (suc n) - 1
    whole = omega (arith, power_of_next (suc n), pow_pos (suc n))

least_of_all : (R : PlanTree → PlanTree → Type 0) → IsTotalPreorder R → (n : ℕ) → 0 < n → LeastTree R n
least_of_all R order zero some = absurd (omega arith)
least_of_all R order (suc zero) some = record {
  tree = leaf 0;
  is_tree = refl;
  least = λ other is_tree. subst (λ (t : PlanTree). R (leaf 0) t) (sym (only_last 0 other is_tree)) (preorder_is_reflexive R order (leaf 0));
}
least_of_all R order (suc (suc n)) some =
    least_next R order n
    (least_of_all (λ a b. R (least_with_next R order (suc n) a) (least_with_next R order (suc n) b)) (preorder_of_images R (λ t. least_with_next R order (suc n) t) order) (suc n) (omega arith))

-- ---- the order of trees by cost, then by sum, then by the leaf sets of left subtrees, from the root down

abbrev left_sets : PlanTree → List ℕ
left_sets (leaf entry) = []
left_sets (node left right) = leaf_bits left ∷ (left_sets left ++ left_sets right)

abbrev LowerThen : (PlanTree → ℕ) → (PlanTree → PlanTree → Type 0) → PlanTree → PlanTree → Type 0
LowerThen f Then a b = (f a < f b) ⊎ ((f a ≡ f b) × Then a b)

lower_then_preorder : (f : PlanTree → ℕ) (Then : PlanTree → PlanTree → Type 0) → IsTotalPreorder Then → IsTotalPreorder (LowerThen f Then)
lower_then_preorder f Then order = record {
  either = λ a b. elim (cases_order (f a) (f b)) [
    | inl same ↦ elim (order.either a b) [
      | inl p ↦ inl (inr (same, p))
      | inr q ↦ inr (inr (sym same, q))
    ]
    | inr apart ↦ elim apart [
      | inl below ↦ inl (inl below)
      | inr above ↦ inr (inl above)
    ]
  ];
  both = λ a b c p q. elim p [
    | inl below ↦ elim q [
      | inl further ↦ inl (omega arith)
      | inr same ↦ inl (omega (arith, same.0))
    ]
    | inr here ↦ elim q [
      | inl further ↦ inl (omega (arith, here.0))
      | inr same ↦ inr (here.0 ∙ same.0, order.both a b c here.1 same.1)
    ]
  ];
}

abbrev HasLesserLeftSets : PlanTree → PlanTree → Type 0
HasLesserLeftSets a b = IsNotAfter (left_sets a) (left_sets b)

left_sets_preorder : IsTotalPreorder HasLesserLeftSets
left_sets_preorder = record {
  either = λ a b. lexical_total (left_sets a) (left_sets b);
  both = λ a b c. lexical_transitive (left_sets a) (left_sets b) (left_sets c);
}

length-left_sets : (tree : PlanTree) → length (left_sets tree) ≡ inner_count tree
length-left_sets (leaf entry) = refl
length-left_sets (node left right) = omega (arith, length-append {A = ℕ} (left_sets left) (left_sets right), length-left_sets left, length-left_sets right)

not_after_front : (a b c d : List ℕ) → length a ≡ length b → IsNotAfter (b ++ d) (a ++ c) → IsNotAfter b a
not_after_front [] [] c d same h = tt
not_after_front [] (y ∷ b) c d same h = absurd (omega (arith, same))
not_after_front (x ∷ a) [] c d same h = tt
not_after_front (x ∷ a) (y ∷ b) c d same h = elim h [
  | inl below ↦ inl below
  | inr here ↦ inr (here.0, not_after_front a b c d (omega (arith, same)) here.1)
]

not_after_behind : (a c d : List ℕ) → IsNotAfter (a ++ d) (a ++ c) → IsNotAfter d c
not_after_behind [] c d h = h
not_after_behind (x ∷ a) c d h = elim h [
  | inl below ↦ absurd (omega arith)
  | inr here ↦ not_after_behind a c d here.1
]

-- the tree whose list `left_sets` is least is the first tree
before_placed : (n set : ℕ) (a b : PlanTree) → set < 2 ^ n → IsTreeOver set a → IsTreeOver set b → IsTreeBefore a b → HasLesserLeftSets b a → ⊥
before_placed n set (leaf x) b fits p q before h = before
before_placed n set (node l r) (leaf y) fits p q before h = before
before_placed n set (node l r) (node l' r') fits p q before h = elim before [
  | inl less ↦ elim h [
    | inl above ↦ omega (arith, less, above)
    | inr same ↦ omega (arith, less, same.0)
  ]
  | inr here ↦ elim h [
    | inl above ↦ omega (arith, here.0, above)
    | inr same ↦ elim here.1 [
      | inl left_before ↦ (let left_tree : IsTreeOver (leaf_bits l) l' = subst (λ (k : ℕ). IsTreeOver k l') (sym here.0) q.1 in
          before_placed n (leaf_bits l) l l' (omega (arith, split_sum set (leaf_bits l) (leaf_bits r) p.0)) p.1 left_tree left_before
          (not_after_front (left_sets l) (left_sets l') (left_sets r) (left_sets r')
          (omega (
            arith,
            length-left_sets l,
            length-left_sets l',
            inner_count_by_size n (leaf_bits l) l (omega (arith, split_sum set (leaf_bits l) (leaf_bits r) p.0)) p.1,
            inner_count_by_size n (leaf_bits l) l' (omega (arith, split_sum set (leaf_bits l) (leaf_bits r) p.0)) left_tree,
          )) same.1))
      | inr right_here ↦ (let right_same : leaf_bits r' ≡ leaf_bits r =
          omega (arith, split_sum set (leaf_bits l) (leaf_bits r) p.0, split_sum set (leaf_bits l') (leaf_bits r') q.0, here.0) in
          let right_tree : IsTreeOver (leaf_bits r) r' = subst (λ (k : ℕ). IsTreeOver k r') right_same q.2 in
          before_placed n (leaf_bits r) r r' (omega (arith, split_sum set (leaf_bits l) (leaf_bits r) p.0)) p.2 right_tree right_here.1
          (not_after_behind (left_sets l) (left_sets r) (left_sets r')
          (subst (λ (t : PlanTree). IsNotAfter (left_sets t ++ left_sets r') (left_sets l ++ left_sets r)) (sym right_here.0) same.1)))
    ]
  ]
]

pub some_best : (bounds : List ℕ) (n : ℕ) → 0 < n → (best : PlanTree) × IsBest bounds n best
some_best bounds n some = (
  found.tree,
  record {
    is_tree = found.is_tree;
    none_cheaper = λ other over. elim (found.least other over) [
      | inl below ↦ omega arith
      | inr same ↦ omega (arith, same.0)
    ];
    none_smaller = λ other over same. elim (then_total other over same) [
      | inl below ↦ omega arith
      | inr equal ↦ omega (arith, equal.0)
    ];
    none_earlier = λ other over same equal before. elim (then_total other over same) [
      | inl below ↦ absurd (omega (arith, below, equal))
      | inr also ↦ before_placed n (full_set n) other found.tree (omega (arith, pow_pos n)) over found.is_tree before also.1
    ];
  },
)
  where
    found : LeastTree (LowerThen (cost bounds) (LowerThen (total bounds) HasLesserLeftSets)) n
    found = least_of_all (LowerThen (cost bounds) (LowerThen (total bounds) HasLesserLeftSets)) (lower_then_preorder (cost bounds) (LowerThen (total bounds) HasLesserLeftSets) (lower_then_preorder (total bounds) HasLesserLeftSets left_sets_preorder)) n some

    then_total : (other : PlanTree) → IsTreeOver (full_set n) other → cost bounds other ≡ cost bounds found.tree → LowerThen (total bounds) HasLesserLeftSets found.tree other
    then_total other over same = elim (found.least other over) [
      | inl below ↦ absurd (omega (arith, below, same))
      | inr here ↦ here.1
    ]
