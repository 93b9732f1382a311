-- The texts in the pool of a database are UTF-8 and different. So a file can be made from a database that was read for a query (`FitsQueryAndTexts`).
use Rattle.std.specs.Prelude.{All}
use Rattle.std.specs.Str.{IsUtf8}
use Rattle.csv_tables.specs.Pools.{TextsAreDifferent}
use Rattle.csv_tables.specs.declared.types.Database.{Database}
use Rattle.level_bounds.proofs.CellKeys.{characters_differ}
use Rattle.query_types.specs.declared.types.Query.{Query}
use Rattle.schema_types.specs.declared.types.Schema.{Schema}
use Rattle.stats_file_of_query.specs.Databases.{FitsQueryAndTexts, FitsQuery}

pub fits_with_texts : (schema : Schema) (query : Query) (db : Database) → FitsQuery schema query db → All IsUtf8 db.pool → TextsAreDifferent db.pool → FitsQueryAndTexts schema query db
fits_with_texts schema query db of utf8 differ = record { of = of; texts = utf8; differ = characters_differ db.pool utf8 differ }
