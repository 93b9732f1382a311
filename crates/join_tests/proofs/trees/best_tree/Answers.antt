use Rattle.std.proofs.Common.{length, sym, subst}
use Rattle.std.specs.Prelude.{IfOk}
use Rattle.csv_tables.specs.declared.types.Database.{Database}
use Rattle.query_types.specs.declared.types.Query.{Query}
use Rattle.sql_meaning.specs.Databases.{IsDatabaseOf}
use Rattle.sql_meaning.specs.Examples.{triangle}
use Rattle.sql_meaning.proofs.Worked.{triangle_fits}
use Rattle.join_tests.specs.Examples.{HasNodes}
use Rattle.join_tests.proofs.trees.best_tree.Goals as goal

pub joined-requires : goal.joined-requires
joined-requires c = record {
  database = subst (λ (q : Query). IsDatabaseOf q c.in_ok-db.db) (sym c.in_ok-query.ensures)
      (subst (λ (db : Database). IsDatabaseOf triangle db) (sym c.in_ok-db.ensures) triangle_fits);
}

pub returns : goal.returns
returns c =
    subst (λ (q : Query). IfOk c.joined.result (λ joined. HasNodes (length q.from) joined.done.nodes)) c.in_ok-query.ensures
    c.joined.ensures
