-- The lists of a filter column for a joined column. They are compressed degree lists of joined keys. There are lists for all rows, for the rows
-- with one filter value, and for the rows whose filter value lies in a range.
use Rattle.std.specs.Prelude.{ℕ, ◌==◌, max, Bool, if◌then◌else◌, List, [], ◌∷◌, map, Option, None, Some, unwrap_or}
use Rattle.std.specs.List.{list_any}
use Rattle.degree_sequences.specs.ByRank.{rank_maximum}
use Rattle.degree_sequences.specs.Compression.{compressed}
use Rattle.degree_sequences.specs.Degrees.{degree, degree_list}
use Rattle.degree_sequences.specs.RunningSums.{capped_at}
use Rattle.cond_stats.specs.Frequency.{frequent, remaining}
use Rattle.cond_stats.specs.Leaves.{leaf_of, node_size, in_node}
use Rattle.cond_stats.specs.Rows.{filter_values, joined_keys, keys_where}

-- the degree list of keys, compressed with an accuracy
abbrev pub compressed_degrees : ℕ → List ℕ → List ℕ
compressed_degrees accuracy keys = compressed accuracy (degree_list keys)

-- the list of all rows
abbrev pub whole : ℕ → List (ℕ × ℕ) → List ℕ
whole accuracy rows = compressed_degrees accuracy (joined_keys rows)

-- the list of the rows whose filter value passes
abbrev pub list_where : ℕ → (ℕ → Bool) → List (ℕ × ℕ) → List ℕ
list_where accuracy passes rows = compressed_degrees accuracy (keys_where passes rows)

-- the joined keys of the rows with a filter value
abbrev pub keys_with : ℕ → List (ℕ × ℕ) → List ℕ
keys_with value rows = keys_where (λ other. other == value) rows

-- the rank-wise maximum of lists
abbrev pub maxima : List (List ℕ) → List ℕ
maxima [] = []
maxima (list ∷ lists) = rank_maximum list (maxima lists)

-- the greatest of these numbers, or 0 where there is no number
abbrev pub greatest : List ℕ → ℕ
greatest [] = 0
greatest (n ∷ ns) = max n (greatest ns)

-- The rest list: the rank-wise maximum of the degree lists of all values that aren't frequent, compressed. Before it is compressed, its sum is capped
-- at the number of rows of the most frequent of these values. The list is empty if each value is frequent
unfoldable pub rest : ℕ → List (ℕ × ℕ) → List ℕ
rest accuracy rows =
    let values = remaining (filter_values rows) in
    compressed accuracy (capped_at (maxima (map (λ value. degree_list (keys_with value rows)) values))
    (greatest (map (degree (filter_values rows)) values)))

-- whether a value is frequent
abbrev pub is_frequent : List (ℕ × ℕ) → ℕ → Bool
is_frequent rows value = list_any (λ other. other == value) (frequent (filter_values rows))

-- the list of a value: the list of its rows if it is frequent, otherwise the rest list. A value that is in no row has the rest list
unfoldable pub list_of_value : ℕ → List (ℕ × ℕ) → Option ℕ → List ℕ
list_of_value accuracy rows None = rest accuracy rows
list_of_value accuracy rows (Some value) =
    if is_frequent rows value then compressed_degrees accuracy (keys_with value rows) else rest accuracy rows

-- the list of the rows whose leaf lies in the node that has this size and holds this leaf
unfoldable pub list_of_node : (ℕ → ℕ → Bool) → ℕ → List (ℕ × ℕ) → ℕ → ℕ → List ℕ
list_of_node at_most accuracy rows size leaf =
    list_where accuracy (λ value. in_node size leaf (leaf_of at_most (filter_values rows) value)) rows

-- the list of a range: the list of the least node that holds the leaves of both ends. A missing low end is leaf 0, and a missing high end is leaf 31.
-- The low leaf may be greater than the high leaf
abbrev pub list_of_range : (ℕ → ℕ → Bool) → ℕ → List (ℕ × ℕ) → Option ℕ → Option ℕ → List ℕ
list_of_range at_most accuracy rows low high =
    let first = unwrap_or low 0 in
    let last = unwrap_or high 31 in
    list_of_node at_most accuracy rows (node_size first last) first
