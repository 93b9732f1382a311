-- The joined rows of all entries of a query, and their records.
use Rattle.std.specs.Prelude.{ℕ, ◌*◌, ◌-◌, ◌<◌, All, List, length}
use Rattle.csv_tables.specs.declared.types.Database.{Database}
use Rattle.query_types.specs.declared.types.Query.{Query}
use Rattle.sql_meaning.specs.Choices.{IsChoiceOf}
use Rattle.sql_meaning.specs.Databases.{IsDatabaseOf}
use Rattle.sql_meaning.specs.Tables.{row_counts, tables_of}
use Rattle.join_steps.specs.Lists.{IsOrderOf}
use Rattle.tree_rows.specs.Nodes.{node_at, Node}
use Rattle.printed_texts.specs.Texts.{row_text}
use Rattle.joined_texts.specs.Printed.{selected_in}
use Rattle.joined_texts.specs.declared.joined_rows.JoinedRows.{JoinedRows}

-- the root of a join tree over the entries of a query
abbrev pub root_of : Query → List Node → Node
root_of query nodes = node_at nodes (2 * length query.from - 2)

-- the choices of the node
abbrev pub joined_choices : JoinedRows → Node
joined_choices listed = node_at listed.done.now.nodes listed.node

-- each joined choice has a row of each entry of the query, from the query's database
pub record AreJoinedRows (query : Query) (db : Database) (it : JoinedRows) : Type 0 where
  pub database : IsDatabaseOf query db
  pub entries : IsOrderOf query (joined_choices it).entries
  pub whole : All (IsChoiceOf (row_counts (tables_of db)) (joined_choices it).entries) (joined_choices it).rows
  pub there : it.node < length it.done.now.nodes

-- the record of a choice for these entries
abbrev pub choice_record : Query → Database → List ℕ → List ℕ → List ℕ
choice_record query db entries choice = row_text (selected_in query db entries choice)
