use Rattle.std.proofs.Common.{sym, subst}
use Rattle.csv_tables.specs.declared.types.Database.{Database}
use Rattle.query_types.specs.declared.types.Query.{Query}
use Rattle.sql_meaning.specs.Databases.{IsDatabaseOf}
use Rattle.sql_meaning.specs.Examples.{triangle}
use Rattle.sql_meaning.proofs.Worked.{triangle_fits}
use Rattle.join_tests.proofs.triangle.choices_of_triangle.Goals as goal

pub answer_slow-requires : goal.answer_slow-requires
answer_slow-requires c =
    subst (λ (q : Query). IsDatabaseOf q c.in_ok-db.db) (sym c.in_ok-query.ensures)
    (subst (λ (db : Database). IsDatabaseOf triangle db) (sym c.in_ok-db.ensures) triangle_fits)
