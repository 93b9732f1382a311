use Rattle.std.proofs.Common.{◌≢◌, ℕ, ◌<◌, get_or}
use Rattle.schema_types.specs.declared.types.Table.{Table}
use Rattle.stats_file.specs.Lines.{hex_text}
use Rattle.stats_reading.proofs.begins.table_place.Given as goal

abbrev pub invariant-loop-i : goal.invariant-loop-i
invariant-loop-i l = (k : ℕ) (d : Table) → k < l.i → l.word ≢ hex_text (get_or l.schema.tables k d).name
