-- The pairs of columns of which a query's bounds need statistics.
use Rattle.std.specs.Prelude.{ℕ, ◌==◌, if◌then◌else◌, List, [], length, map, slice_index}
use Rattle.std.specs.List.{filter_map, flat_map, range_with_len}
use Rattle.degree_sequences.specs.Degrees.{different}
use Rattle.gathered_stats.specs.Asked.{compared_column, joined_columns}
use Rattle.join_graph.specs.Conjuncts.{equalities_of}
use Rattle.predicate_bounds.specs.Steps.{steps_of}
use Rattle.query_types.specs.declared.types.Query.{Query}
use Rattle.stats_file_of_query.specs.declared.needs.Needs.{Needs}
use Rattle.stats_file_of_query.specs.declared.column_pairs.ColumnPair.{ColumnPair}
use Rattle.stats_file_of_query.specs.ColumnPairs.{pairs_between}

-- the filter columns of an entry: the columns that the entry's own conjuncts compare with literals, each once
abbrev pub filter_columns : Query → ℕ → List ℕ
filter_columns query entry = different (filter_map compared_column (steps_of entry query.conjuncts))

-- the filter columns and the joined columns of an entry
abbrev pub needs_of : Query → ℕ → Needs
needs_of query entry = record { filters = filter_columns query entry; joined = joined_columns entry (equalities_of query) }

abbrev pub pairs_of : Needs → List ColumnPair
pairs_of needs = pairs_between needs.filters needs.joined

-- the pairs that an entry needs
abbrev pub needed : Query → ℕ → List ColumnPair
needed query entry = pairs_of (needs_of query entry)

-- the position of an entry's table in the schema, from 0
abbrev pub table_of : Query → ℕ → ℕ
table_of query entry = slice_index (map (λ source. source.table) query.from) entry

-- the pairs that the entries of a table need, entry after entry
abbrev pub needed_of_table : Query → ℕ → List ColumnPair
needed_of_table query table =
    flat_map (λ entry. if table_of query entry == table then needed query entry else []) (range_with_len 0 (length query.from))
