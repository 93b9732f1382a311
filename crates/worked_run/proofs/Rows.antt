-- The two table files are read as their rows, proved by computation.
use Rattle.std.proofs.Common.{◌≡◌, Ok, refl}
use Rattle.std.specs.Prelude.{codes}
use Rattle.std.specs.Str.{chars, is_utf8}
use Rattle.csv.specs.Reading.{strip_bom}
use Rattle.csv.proofs.OnLiterals.{csv_on_literals}
use Rattle.csv_tables.specs.Files.{rows_in_records, rows_of_file, rows_under_header}
use Rattle.planning.specs.Examples.{r_column, s_column}
use Rattle.table_files.specs.Examples.{numbers_table}
use Rattle.worked_run.specs.Meaning.{rows_of}
use Rattle.worked_run.specs.TwoTables.{r_text, s_text}

pub r_read : rows_of_file (numbers_table (codes "R")) r_text ≡ Ok (rows_of r_column)
unfolding csv_on_literals strip_bom rows_of_file rows_in_records rows_under_header chars is_utf8 lib.Utf8.encode r_text
r_read = refl

pub s_read : rows_of_file (numbers_table (codes "S")) s_text ≡ Ok (rows_of s_column)
unfolding csv_on_literals strip_bom rows_of_file rows_in_records rows_under_header chars is_utf8 lib.Utf8.encode s_text
s_read = refl
