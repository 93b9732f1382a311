-- The result of reading a statistics file's text over a schema, if memory doesn't run out.
use Rattle.std.specs.Prelude.{ℕ, List, [], Result}
use Rattle.schema_types.specs.declared.types.Schema.{Schema}
use Rattle.stats_file.specs.declared.types.StatsError.{StatsError}
use Rattle.stats_file.specs.declared.types.StatsFile.{StatsFile}
use Rattle.stats_reading.specs.Drafts.{empty_draft}
use Rattle.stats_lines.specs.Results.{result_from}

-- the file that has this text. If there is none, the first refusal: Syntax or Rule, with the number of the line, counted from 1
unfoldable pub stats_answer : Schema → List ℕ → Result StatsFile StatsError
stats_answer schema text = result_from schema empty_draft 1 [] text
