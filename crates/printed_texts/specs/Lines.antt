-- The records of the rows text: the header, and a record for each choice of rows.
use Rattle.std.specs.Prelude.{◌≡◌, ℕ, ◌<◌, List, ◌∷◌, length, map, slice_index, ⊤}
use Rattle.csv_tables.specs.declared.types.Database.{Database}
use Rattle.row_printer.specs.Fields.{field_text, fields_text, record_text}
use Rattle.sql_meaning.specs.Conditions.{column_value}
use Rattle.sql_meaning.specs.Tables.{Tables, cells_of}
use Rattle.query_types.specs.declared.types.Out.{Out}
use Rattle.printed_texts.specs.Texts.{value_text}
use Rattle.printed_texts.specs.declared.rows.RowsRecord.{RowsRecord}
use Rattle.printed_texts.specs.declared.rows.RowsRecord.TheVariants as line

-- a choice has for each FROM entry, in FROM order, the number of a row of its table
pub record IsChoice (db : Database) (rows : List ℕ) : Type 0 where
  pub one_each : length rows ≡ length db.slots
  pub exists : (entry : ℕ) → entry < length db.slots → slice_index rows entry < (cells_of db entry).rows

-- the line is the header, or its rows are a choice
abbrev pub IsRecordOf : Database → RowsRecord → Type 0
IsRecordOf db line.Header = ⊤
IsRecordOf db (line.Rows rows) = IsChoice db rows.now

-- an output's value in a choice, as text that isn't quoted yet
abbrev pub field_of : Tables → List ℕ → Out → List ℕ
field_of tables rows out = value_text (column_value tables (slice_index rows) out.column)

-- an output's field in a line: its name in the header, otherwise its value
abbrev pub field_at : Tables → RowsRecord → Out → List ℕ
field_at tables line.Header out = out.name
field_at tables (line.Rows rows) out = field_of tables rows.now out

-- a comma and the field
abbrev pub next_field : Tables → RowsRecord → Out → List ℕ
next_field tables l out = 44 ∷ field_text (field_at tables l out)

-- the fields of a line, with commas between them
abbrev pub fields_at : List Out → Tables → RowsRecord → List ℕ
fields_at outs tables l = fields_text (map (field_at tables l) outs)

-- a line as a CSV record, with CR and LF
abbrev pub line_at : List Out → Tables → RowsRecord → List ℕ
line_at outs tables l = record_text (map (field_at tables l) outs)

-- the record of a choice: the values of the outputs, and CR and LF
abbrev pub choice_text : List Out → Tables → List ℕ → List ℕ
choice_text outs tables rows = record_text (map (field_of tables rows) outs)
