use Rattle.std.proofs.Common.{◌≡◌, sym, subst}
use Rattle.csv_tables.specs.declared.types.Database.{Database}
use Rattle.query_types.specs.declared.types.Query.{Query}
use Rattle.sql_meaning.specs.Databases.{IsDatabaseOf}
use Rattle.sql_meaning.specs.Examples.{triangle, triangle_tables}
use Rattle.sql_meaning.proofs.Worked.{triangle_fits}
use Rattle.join_tests.proofs.bounds.bounds_of_triangle.Goals as goal

triangle_database_is_of_query : (query : Query) (db : Database) → query ≡ triangle → db ≡ triangle_tables → IsDatabaseOf query db
triangle_database_is_of_query query db same like =
    subst (λ (q : Query). IsDatabaseOf q db) (sym same) (subst (λ (d : Database). IsDatabaseOf triangle d) (sym like) triangle_fits)

pub scan_bounds-requires : goal.scan_bounds-requires
scan_bounds-requires c = record { database = triangle_database_is_of_query c.in_ok-query.query c.in_ok-db.db c.in_ok-query.ensures c.in_ok-db.ensures }

pub subset_bounds-requires : goal.subset_bounds-requires
subset_bounds-requires c = record { database = triangle_database_is_of_query c.in_ok-query.query c.in_ok-db.db c.in_ok-query.ensures c.in_ok-db.ensures }
