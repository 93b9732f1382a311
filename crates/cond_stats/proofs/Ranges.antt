-- The list of a range dominates the keys of the rows with a leaf, or with a value, between its ends.
use Rattle.std.proofs.Common.{◌≡◌, ℕ, ◌≤◌, Bool, true, false, leb, List, [], ◌∷◌, length, Option, Some, None, refl, arith}
use Rattle.std.specs.Prelude.{◌&&◌}
use Rattle.std.specs.Cmp.{IsTotalOrder, upto, int_cmp_total}
use Rattle.std.specs.Cmp.Lexicographic.{nat_list_cmp_total}
use Rattle.std.specs.Ordering.{is_le, is_gt}
use Rattle.std.specs.declared.cmp.Ordering.{Ordering}
use Rattle.std.specs.declared.cmp.Ordering.TheVariants.{Less, Equal, Greater}
use Rattle.std.specs.Str.{chars}
use Rattle.std.proofs.lemmas.Bool.{and_parts, leb-true, true≢false, false≢true}
use Rattle.degree_sequences.specs.Domination.{DominatesKeys}
use Rattle.schema_types.specs.declared.types.Kind.{Kind}
use Rattle.csv_tables.specs.Cells.{value_of_cell}
use Rattle.csv_tables.specs.Values.{Value, Int, Text}
use Rattle.cond_stats.specs.Columns.{value_le, cell_le, leaf_of_value, list_between, is_between}
use Rattle.cond_stats.specs.Leaves.{cuts, leaf_of, last_leaf_where, node_size, in_node}
use Rattle.cond_stats.specs.Lists.{list_of_node, list_of_range}
use Rattle.cond_stats.specs.Rows.{filter_values, keys_where}
use Rattle.cond_stats.proofs.Dominating.{where_dominates}
use Rattle.cond_stats.proofs.LastPlaces.{last_place-mono, last_place-within}
use Rattle.cond_stats.proofs.Nodes.{node_between}

pub length-cuts : (at_most : ℕ → ℕ → Bool) (column : List ℕ) → length (cuts at_most column) ≤ 32
unfolding cuts
length-cuts at_most [] = omega arith
length-cuts at_most (v ∷ vs) = omega arith

pub leaf-below : (at_most : ℕ → ℕ → Bool) (column : List ℕ) (p : ℕ → Bool) → last_leaf_where at_most column p ≤ 31
leaf-below at_most column p = last_place-within p (cuts at_most column) 31 (length-cuts at_most column)

pub range_dominates : (at_most : ℕ → ℕ → Bool) (k : ℕ) (rows : List (ℕ × ℕ)) (low high : ℕ) (p : ℕ → Bool) → low ≤ 31 → high ≤ 31
    → ((v : ℕ) → p v ≡ true → low ≤ leaf_of at_most (filter_values rows) v) → ((v : ℕ) → p v ≡ true → leaf_of at_most (filter_values rows) v ≤ high)
    → DominatesKeys (list_of_range at_most k rows (Some low) (Some high)) (keys_where p rows)
unfolding list_of_node
range_dominates at_most k rows low high p small_low small_high from to =
    where_dominates k p (λ v. in_node (node_size low high) low (leaf_of at_most (filter_values rows) v))
    (λ v passes. node_between low high (leaf_of at_most (filter_values rows) v) small_low small_high (from v passes) (to v passes)) rows

pub leaves_dominate : (at_most : ℕ → ℕ → Bool) (k : ℕ) (rows : List (ℕ × ℕ)) (low high : ℕ) → low ≤ 31 → high ≤ 31
    → DominatesKeys (list_of_range at_most k rows (Some low) (Some high))
    (keys_where (λ v. leb low (leaf_of at_most (filter_values rows) v) && leb (leaf_of at_most (filter_values rows) v) high) rows)
leaves_dominate at_most k rows low high small_low small_high =
    let leaf : ℕ → ℕ = leaf_of at_most (filter_values rows) in
    range_dominates at_most k rows low high (λ v. leb low (leaf v) && leb (leaf v) high) small_low small_high
    (λ v passes. leb-true low (leaf v) (and_parts (leb low (leaf v)) (leb (leaf v) high) passes).0)
    (λ v passes. leb-true (leaf v) high (and_parts (leb low (leaf v)) (leb (leaf v) high) passes).1)

not_gt : (o : Ordering) → is_le o ≡ true → is_gt o ≡ false
not_gt Less h = refl
not_gt Equal h = refl
not_gt Greater h = absurd (false≢true h)

le_from : (o : Ordering) → is_gt o ≡ false → is_le o ≡ true
le_from Less h = refl
le_from Equal h = refl
le_from Greater h = absurd (true≢false h)

chains : {K : Type 0} {R : K → K → Ordering} → IsTotalOrder R → (x y z : K) → is_le (R x y) ≡ true → is_le (R y z) ≡ true → is_le (R x z) ≡ true
chains {K} {R} total x y z h k = le_from (R x z) (upto total x y z (not_gt (R x y) h) (not_gt (R y z) k))

pub value_le-trans : (a b c : Value) → value_le a b ≡ true → value_le b c ≡ true → value_le a c ≡ true
value_le-trans (Int a) (Int b) (Int c) h k = chains int_cmp_total a b c h k
value_le-trans (Int a) (Int b) (Text c) h k = refl
value_le-trans (Int a) (Text b) (Int c) h k = absurd (false≢true k)
value_le-trans (Int a) (Text b) (Text c) h k = refl
value_le-trans (Text a) (Int b) c h k = absurd (false≢true h)
value_le-trans (Text a) (Text b) (Int c) h k = absurd (false≢true k)
value_le-trans (Text a) (Text b) (Text c) h k = chains nat_list_cmp_total (chars a) (chars b) (chars c) h k

pub between_dominates : (texts : List (List ℕ)) (kind : Kind) (k : ℕ) (rows : List (ℕ × ℕ)) (low high : Option Value)
    → DominatesKeys (list_between texts kind k rows low high) (keys_where (is_between texts kind low high) rows)
between_dominates texts kind k rows None None = range_dominates (cell_le texts kind) k rows 0 31 (λ v. true) (omega arith) (omega arith)
    (λ v passes. omega arith) (λ v passes. leaf-below (cell_le texts kind) (filter_values rows) (λ cut. cell_le texts kind cut v))
between_dominates texts kind k rows None (Some high) =
    let column : List ℕ = filter_values rows in
    let of : ℕ → Value = value_of_cell texts kind in
    range_dominates (cell_le texts kind) k rows 0 (leaf_of_value texts kind column high) (λ v. value_le (of v) high) (omega arith)
    (leaf-below (cell_le texts kind) column (λ cut. value_le (of cut) high))
    (λ v passes. omega arith)
    (λ v passes. last_place-mono (λ cut. value_le (of cut) (of v)) (λ cut. value_le (of cut) high) (λ cut h. value_le-trans (of cut) (of v) high h passes) (cuts (cell_le texts kind) column))
between_dominates texts kind k rows (Some low) None =
    let column : List ℕ = filter_values rows in
    let of : ℕ → Value = value_of_cell texts kind in
    range_dominates (cell_le texts kind) k rows (leaf_of_value texts kind column low) 31 (λ v. value_le low (of v))
    (leaf-below (cell_le texts kind) column (λ cut. value_le (of cut) low)) (omega arith)
    (λ v passes. last_place-mono (λ cut. value_le (of cut) low) (λ cut. value_le (of cut) (of v)) (λ cut h. value_le-trans (of cut) low (of v) h passes) (cuts (cell_le texts kind) column))
    (λ v passes. leaf-below (cell_le texts kind) column (λ cut. cell_le texts kind cut v))
between_dominates texts kind k rows (Some low) (Some high) =
    let column : List ℕ = filter_values rows in
    let of : ℕ → Value = value_of_cell texts kind in
    range_dominates (cell_le texts kind) k rows (leaf_of_value texts kind column low) (leaf_of_value texts kind column high)
    (λ v. value_le low (of v) && value_le (of v) high)
    (leaf-below (cell_le texts kind) column (λ cut. value_le (of cut) low))
    (leaf-below (cell_le texts kind) column (λ cut. value_le (of cut) high))
    (λ v passes. last_place-mono (λ cut. value_le (of cut) low) (λ cut. value_le (of cut) (of v))
    (λ cut h. value_le-trans (of cut) low (of v) h (and_parts (value_le low (of v)) (value_le (of v) high) passes).0) (cuts (cell_le texts kind) column))
    (λ v passes. last_place-mono (λ cut. value_le (of cut) (of v)) (λ cut. value_le (of cut) high)
    (λ cut h. value_le-trans (of cut) (of v) high h (and_parts (value_le low (of v)) (value_le (of v) high) passes).1) (cuts (cell_le texts kind) column))
