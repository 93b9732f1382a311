-- If bounds are saturated (capped at 2^128 - 1) at each step, the result is the saturated bound.
use Rattle.std.proofs.Common.{◌≡◌, ℕ, zero, suc, ◌-◌, ◌*◌, ◌^◌, ◌<◌, ◌≤◌, min, List, [], ◌∷◌, ◌++◌, length, map, sum, get_or, refl, ap, sym, ◌∙◌, arith, ◌⊎◌, inl, inr}
use Rattle.std.specs.List.{range_with_len}
use Rattle.std.proofs.Math.Nat.{mul_assoc, mul-one, one-mul}
use Rattle.std.proofs.lemmas.Bool.{cases_lt}
use Rattle.std.proofs.lemmas.List.Sums.{sum_by-cons}
use Rattle.degree_sequences.specs.ByRank.{rank_product, rank_product_with, rank_product_of}
use Rattle.degree_sequences.specs.Composition.{ChildLists, weight_by_rank, row_weights, block_sums, composed, root_total}
use Rattle.degree_sequences.specs.Descending.{trimmed}
use Rattle.degree_sequences.specs.Rank.{rank}
use Rattle.degree_sequences.specs.Saturation.{saturated}
use Rattle.degree_sequences.proofs.SaturationLaws.{saturated-mul, saturated-block_sums, saturated-rank_product, saturated-trimmed}
use Rattle.berge_tree.specs.Trees.{BergeTree}
use Rattle.tree_bounds.specs.TreeBounds.{EntryBounds, bound_of_tree, bound_of_trees}
use Rattle.tree_bounds.specs.Saturating.{saturated_class}

-- ---- saturated weights of rows

saturated-twice : (n : ℕ) → saturated (saturated n) ≡ saturated n
saturated-twice n = omega arith

saturated-get_or : (s : List ℕ) (i : ℕ) → get_or (map saturated s) i 0 ≡ saturated (get_or s i 0)
saturated-get_or [] i = refl
saturated-get_or (x ∷ s) zero = refl
saturated-get_or (x ∷ s) (suc i) = saturated-get_or s i

same_saturated_product : (a b c d : ℕ) → saturated a ≡ saturated c → saturated b ≡ saturated d → saturated (a * b) ≡ saturated (c * d)
same_saturated_product a b c d e f = sym (saturated-mul a b) ∙ rw (e, f) (saturated-mul c d)

saturated-weight : (children : List ChildLists) (t : ℕ) → saturated (weight_by_rank (map saturated_class children) t) ≡ saturated (weight_by_rank children t)
saturated-weight [] t = refl
saturated-weight (child ∷ children) t =
    let i : ℕ = rank child.column t - 1 in
    same_saturated_product (get_or (map saturated child.class) i 0) (weight_by_rank (map saturated_class children) t) (get_or child.class i 0) (weight_by_rank children t)
    (ap saturated (saturated-get_or child.class i) ∙ saturated-twice (get_or child.class i 0))
    (saturated-weight children t)

saturated-weights : (children : List ChildLists) (ts : List ℕ) → map saturated (map (weight_by_rank (map saturated_class children)) ts) ≡ map saturated (map (weight_by_rank children) ts)
saturated-weights children [] = refl
saturated-weights children (t ∷ ts) = rw (saturated-weight children t, saturated-weights children ts) refl

-- ---- saturated compositions

pub saturated-composed : (parent : List ℕ) (children : List ChildLists) → map saturated (composed parent (map saturated_class children)) ≡ map saturated (composed parent children)
saturated-composed parent children =
    let n : ℕ = sum parent in
    saturated-trimmed (block_sums parent (row_weights (map saturated_class children) n))
    ∙ ap trimmed (sym (saturated-block_sums parent (row_weights (map saturated_class children) n))
    ∙ ap (λ u. map saturated (block_sums parent u)) (saturated-weights children (range_with_len 1 n))
    ∙ saturated-block_sums parent (row_weights children n))
    ∙ sym (saturated-trimmed (block_sums parent (row_weights children n)))

saturated-sum : (u : List ℕ) → saturated (sum (map saturated u)) ≡ saturated (sum u)
saturated-sum [] = refl
saturated-sum (x ∷ u) = omega (arith, saturated-sum u, sum_by-cons (λ y. y) (saturated x) (map saturated u), sum_by-cons (λ y. y) x u)

pub saturated-root_total : (children : List ChildLists) (rows : ℕ) → saturated (root_total (map saturated_class children) rows) ≡ saturated (root_total children rows)
saturated-root_total children rows =
    sym (saturated-sum (row_weights (map saturated_class children) rows)) ∙ ap (λ u. saturated (sum u)) (saturated-weights children (range_with_len 1 rows)) ∙ saturated-sum (row_weights children rows)

-- ---- saturated products

rank_product-assoc : (s t u : List ℕ) → rank_product (rank_product s t) u ≡ rank_product s (rank_product t u)
rank_product-assoc [] t u = refl
rank_product-assoc (x ∷ s) [] u = refl
rank_product-assoc (x ∷ s) (y ∷ t) [] = refl
rank_product-assoc (x ∷ s) (y ∷ t) (z ∷ u) = rw (mul_assoc x y z, rank_product-assoc s t u) refl

with_one_more : (s : List ℕ) (lists : List (List ℕ)) (list : List ℕ) → rank_product_with s (lists ++ list ∷ []) ≡ rank_product (rank_product_with s lists) list
with_one_more s [] list = refl
with_one_more s (t ∷ lists) list = ap (rank_product s) (with_one_more t lists list) ∙ sym (rank_product-assoc s (rank_product_with t lists) list)

pub saturated-product_more : (lists : List (List ℕ)) (list : List ℕ) → 0 < length lists
    → map saturated (rank_product (map saturated (rank_product_of lists)) (map saturated list)) ≡ map saturated (rank_product_of (lists ++ list ∷ []))
saturated-product_more [] list some = absurd (omega arith)
saturated-product_more (s ∷ lists) list some = saturated-rank_product (rank_product_with s lists) list ∙ ap (map saturated) (sym (with_one_more s lists list))

trees_and_one : (b : EntryBounds) (ts : List BergeTree) (t : BergeTree) → bound_of_trees b (ts ++ t ∷ []) ≡ bound_of_trees b ts * bound_of_tree b t
trees_and_one b [] t = mul-one (bound_of_tree b t) ∙ sym (one-mul (bound_of_tree b t))
trees_and_one b (u ∷ ts) t = ap (λ n. bound_of_tree b u * n) (trees_and_one b ts t) ∙ sym (mul_assoc (bound_of_tree b u) (bound_of_trees b ts) (bound_of_tree b t))

pub saturated-trees_more : (b : EntryBounds) (ts : List BergeTree) (t : BergeTree)
    → saturated (saturated (bound_of_trees b ts) * saturated (bound_of_tree b t)) ≡ saturated (bound_of_trees b (ts ++ t ∷ []))
saturated-trees_more b ts t = saturated-mul (bound_of_trees b ts) (bound_of_tree b t) ∙ ap saturated (sym (trees_and_one b ts t))

-- ---- the least of saturated bounds

pub saturated-min : (m n : ℕ) → min (saturated m) (saturated n) ≡ saturated (min m n)
saturated-min m n = omega arith

pub within_saturated : (n bound : ℕ) → n ≤ bound → (n ≤ saturated bound) ⊎ (saturated bound ≡ 2 ^ 128 - 1)
within_saturated n bound h = elim (cases_lt bound (2 ^ 128 - 1)) [
  | inl small ↦ inl (omega arith)
  | inr large ↦ inr (omega arith)
]
