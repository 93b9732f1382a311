-- The record of the laws that connect statistics with tables.
use Rattle.std.proofs.Common.{ℕ, List, [], ◌∷◌}
use Rattle.berge_tree.specs.declared.edges.Edge.{Edge}
use Rattle.query_types.specs.declared.types.Query.{Query}
use Rattle.join_graph.specs.Conjuncts.{equalities_of}
use Rattle.tree_bounds.specs.Columns.{EachNamedColumn}
use Rattle.sql_meaning.specs.Tables.{Tables}
use Rattle.level_bounds.specs.Keys.{AreKeys, Keys}
use Rattle.filtered_lists.specs.Standing.{CountsStandFor, ListsDescend, ListsStandFor, SumTo}
use Rattle.query_bounds.specs.Statistics.{StandFor}
use Rattle.table_stats.specs.Statistics.{column_lists, entry_counts}
use Rattle.table_stats.proofs.Dominating.{lists_stand}
use Rattle.table_stats.proofs.Summing.{counts_stand, lists_descend, lists_sum}
use Rattle.table_stats.proofs.ValueNumbers.{have_keys}
use Rattle.gathered_stats.specs.Statistics.{statistics_of}

pub record Facts (tables : Tables) (accuracy : ℕ) : Type 0 where
  pub key : Keys
  pub joins : (es : List Edge) → AreKeys tables key es
  pub lists : (entry column : ℕ) → ListsStandFor (column_lists tables accuracy entry column) tables entry (key entry column)
  pub counts : (entry : ℕ) → CountsStandFor (entry_counts tables entry) tables entry
  pub sums : (entry column : ℕ) → SumTo (column_lists tables accuracy entry column) (entry_counts tables entry)
  pub descends : (entry column : ℕ) → ListsDescend (column_lists tables accuracy entry column)

pub facts : (tables : Tables) (accuracy : ℕ) → Facts tables accuracy
facts tables accuracy =
    let keys = have_keys tables in
    record {
      key = keys.0;
      joins = keys.2;
      lists = λ entry column. lists_stand tables accuracy entry column (keys.0 entry column) (keys.1 entry column);
      counts = counts_stand tables;
      sums = lists_sum tables accuracy;
      descends = lists_descend tables accuracy;
    }

pub each_column : (Q : ℕ → ℕ → Type 0) (es : List Edge) → ((entry column : ℕ) → Q entry column) → EachNamedColumn Q es
each_column Q [] h = tt
each_column Q (e ∷ es) h = (h e.left.entry e.left.column, (h e.right.entry e.right.column, each_column Q es h))

pub stand_for : (query : Query) (tables : Tables) (accuracy : ℕ) (f : Facts tables accuracy)
    → StandFor query (statistics_of tables accuracy) tables f.key
stand_for query tables accuracy f = record {
  counts = λ entry entry_in_range. f.counts entry;
  lists =
      each_column (λ entry column. ListsStandFor (column_lists tables accuracy entry column) tables entry (f.key entry column))
      (equalities_of query) f.lists;
}

pub some_keys : (query : Query) (tables : Tables) (accuracy : ℕ)
    → (key : Keys) × StandFor query (statistics_of tables accuracy) tables key × AreKeys tables key (equalities_of query)
some_keys query tables accuracy =
    let f : Facts tables accuracy = facts tables accuracy in
    (f.key, stand_for query tables accuracy f, f.joins (equalities_of query))
