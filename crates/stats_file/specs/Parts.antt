-- The parts of a line, as bytes.
use Rattle.std.specs.Prelude.{ℕ, ◌<◌, List, length, decimal}
use Rattle.schema_types.specs.declared.types.Table.{Table}
use Rattle.stats_file.specs.declared.types.PairStats.{PairStats}
use Rattle.stats_file.specs.declared.parts.Part.{Part}
use Rattle.stats_file.specs.declared.parts.Part.TheVariants as part
use Rattle.stats_file.specs.Lines.{datum_text, hex_text, runs_text}

abbrev pub part_text : Part → List ℕ
part_text (part.Plain bytes) = bytes.now
part_text (part.Hex name) = hex_text name.now
part_text (part.Number number) = decimal number
part_text (part.Value value) = datum_text value.now
part_text (part.Runs runs) = runs_text runs.now

-- the pair's columns are columns of the table
abbrev pub HasColumns : Table → PairStats → Type 0
HasColumns table pair = (pair.filter < length table.columns) × (pair.joined < length table.columns)
