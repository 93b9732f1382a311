-- Any two pairs of a table agree (`PairsAgree` of stats_file).
use Rattle.std.proofs.Common.{◌≡◌, ℕ, ◌+◌, ◌*◌, ◌/◌, Bool, eqb, List, [], ◌∷◌, ◌++◌, length, map, sum, refl, ap, sym, ◌∙◌, arith}
use Rattle.std.specs.List.{count_by, flat_map, range_with_len}
use Rattle.std.proofs.Math.Path.{fun_ext}
use Rattle.std.proofs.lemmas.List.{map-append}
use Rattle.cond_stats.specs.Frequency.{frequent, remaining}
use Rattle.cond_stats.specs.Leaves.{cuts, in_node, leaf_of}
use Rattle.cond_stats.specs.Lists.{compressed_degrees, greatest, keys_with, list_of_node, rest, whole}
use Rattle.cond_stats.specs.Rows.{filter_values, joined_keys}
use Rattle.cond_stats.proofs.Members.{length-keys_where}
use Rattle.cond_stats.proofs.Sums.{sum-compressed_degrees, sum-list_of_node, sum-rest}
use Rattle.column_stats.specs.declared.stats.FrequentList.{FrequentList}
use Rattle.column_stats.specs.Nodes.{lists_of_size, node_lists, node_sizes}
use Rattle.column_stats.specs.Stats.{frequent_list, frequent_lists}
use Rattle.degree_sequences.specs.Degrees.{degree}
use Rattle.level_bounds.proofs.Lists.{map_of_map}
use Rattle.stats_file.specs.declared.types.Datum.{Datum}
use Rattle.stats_file.specs.Rules.{HaveSameFilterCounts}
use Rattle.stats_file_of_query.specs.Pairs.{frequent_in, pair_stats_of}

pub map-flat : (F : ℕ → List (List ℕ)) (xs : List ℕ) → map sum (flat_map F xs) ≡ flat_map (λ x. map sum (F x)) xs
map-flat F [] = refl
map-flat F (x ∷ xs) = map-append sum (F x) (flat_map F xs) ∙ ap (λ s. map sum (F x) ++ s) (map-flat F xs)

module _ (le : ℕ → ℕ → Bool) (datum : ℕ → Datum) (k : ℕ) where
  -- ---- the sums of lists depend only on the filter values

  abbrev node_counts : List ℕ → List ℕ
  node_counts column = flat_map (λ size. map (λ i. count_by (λ v. in_node size (size * i) (leaf_of le column v)) column) (range_with_len 0 (32 / size))) node_sizes

  node_sums : (row : ℕ × ℕ) (rows : List (ℕ × ℕ)) → map sum (node_lists le k (row ∷ rows)) ≡ node_counts (filter_values (row ∷ rows))
  node_sums row rows =
      map-flat (lists_of_size le k (row ∷ rows)) node_sizes
      ∙ ap (λ (lists : ℕ → List ℕ). flat_map lists node_sizes)
      (fun_ext (λ (size : ℕ). map_of_map sum (λ i. list_of_node le k (row ∷ rows) size (size * i))
      (λ i. count_by (λ v. in_node size (size * i) (leaf_of le (filter_values (row ∷ rows)) v)) (filter_values (row ∷ rows)))
      (λ i. sum-list_of_node le k (row ∷ rows) size (size * i)) (range_with_len 0 (32 / size))))

  same_nodes : (rows others : List (ℕ × ℕ)) → filter_values rows ≡ filter_values others → map sum (node_lists le k rows) ≡ map sum (node_lists le k others)
  same_nodes [] [] same = refl
  same_nodes [] (row ∷ others) same = absurd (omega (arith, ap (λ (s : List ℕ). length s) same))
  same_nodes (row ∷ rows) [] same = absurd (omega (arith, ap (λ (s : List ℕ). length s) same))
  same_nodes (row ∷ rows) (other ∷ others) same = node_sums row rows ∙ ap node_counts same ∙ sym (node_sums other others)

  module _ (rows : List (ℕ × ℕ)) where
    values_are : map (λ (f : Datum × List ℕ). f.0) (map (frequent_in datum) (frequent_lists k rows)) ≡ map datum (frequent (filter_values rows))
    values_are =
        map_of_map (λ (f : Datum × List ℕ). f.0) (frequent_in datum) (λ (found : FrequentList). datum found.cell) (λ found. refl) (frequent_lists k rows)
        ∙ map_of_map (λ (found : FrequentList). datum found.cell) (frequent_list k rows) datum (λ n. refl) (frequent (filter_values rows))

    totals_are : map (λ (f : Datum × List ℕ). sum f.1) (map (frequent_in datum) (frequent_lists k rows))
        ≡ map (λ n. count_by (λ other. eqb other n) (filter_values rows)) (frequent (filter_values rows))
    totals_are =
        map_of_map (λ (f : Datum × List ℕ). sum f.1) (frequent_in datum) (λ (found : FrequentList). sum found.list) (λ found. refl) (frequent_lists k rows)
        ∙ map_of_map (λ (found : FrequentList). sum found.list) (frequent_list k rows) (λ n. count_by (λ other. eqb other n) (filter_values rows))
        (λ n. sum-compressed_degrees k (keys_with n rows) ∙ length-keys_where (λ other. eqb other n) rows) (frequent (filter_values rows))

  pub count_same : (rows others : List (ℕ × ℕ)) → filter_values rows ≡ filter_values others → (a b a' b' : ℕ) → HaveSameFilterCounts (pair_stats_of le datum k rows a b) (pair_stats_of le datum k others a' b')
  count_same rows others same a b a' b' = record {
    values = values_are rows ∙ ap (λ (s : List ℕ). map datum (frequent s)) same ∙ sym (values_are others);
    totals = totals_are rows ∙ ap (λ (s : List ℕ). map (λ n. count_by (λ other. eqb other n) s) (frequent s)) same ∙ sym (totals_are others);
    rest = sum-rest k rows ∙ ap (λ (s : List ℕ). greatest (map (degree s) (remaining s))) same ∙ sym (sum-rest k others);
    cuts = ap (λ (s : List ℕ). map datum (cuts le s)) same;
    nodes = same_nodes rows others same;
  }

pub whole_same : (k : ℕ) (rows others : List (ℕ × ℕ)) → joined_keys rows ≡ joined_keys others → whole k rows ≡ whole k others
whole_same k rows others same = ap (compressed_degrees k) same
