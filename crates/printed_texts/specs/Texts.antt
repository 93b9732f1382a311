-- The rows text: the rows of an answer as CSV.
use Rattle.std.specs.Prelude.{ℕ, List, ◌++◌, map}
use Rattle.std.specs.Fmt.{signed_decimal}
use Rattle.std.specs.List.{flat_map}
use Rattle.csv_tables.specs.Rows.{Row}
use Rattle.csv_tables.specs.Values.{Value, Int, Text}
use Rattle.row_printer.specs.Fields.{record_text}
use Rattle.query_types.specs.declared.types.Out.{Out}

-- a value as a field: plain decimal, or the text itself
abbrev pub value_text : Value → List ℕ
value_text (Int number) = signed_decimal number
value_text (Text text) = text

-- the record of a row
abbrev pub row_text : Row → List ℕ
row_text row = record_text (map value_text row)

-- the header: the record of the outputs' names after folding (in upper case, unless they are delimited). Two names may be equal. A first name that
-- begins with U+FEFF isn't quoted. So this program, and other readers that drop a byte order mark, read it without U+FEFF
abbrev pub header_text : List Out → List ℕ
header_text outs = record_text (map (λ (out : Out). out.name) outs)

-- the header, and then a record for each row
abbrev pub rows_lines : List Out → List Row → List ℕ
rows_lines outs rows = header_text outs ++ flat_map row_text rows
