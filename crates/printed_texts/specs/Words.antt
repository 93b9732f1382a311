-- The texts of a `FileWord` and of `LineNames`, from which a line is made.
use Rattle.std.specs.Prelude.{ℕ, List, option_copied, option_map}
use Rattle.printed_texts.specs.Faults.{NamesInLine, table_file}
use Rattle.printed_texts.specs.declared.fault_lines.LineNames.{LineNames}
use Rattle.printed_texts.specs.declared.lines.FileWord.{FileWord}
use Rattle.printed_texts.specs.declared.lines.FileWord.TheVariants as word

abbrev pub file_word_text : FileWord → List ℕ
file_word_text (word.Given name) = name.now
file_word_text (word.OfTable table) = table_file table.now

abbrev pub names_of_line : LineNames → NamesInLine
names_of_line names = record {
  schema_file = names.schema_file.now;
  query_file = names.query_file.now;
  stats_file = names.stats_file.now;
  rows_file = option_map (λ name. name.now) names.rows_file;
  schema = option_copied names.schema;
}
