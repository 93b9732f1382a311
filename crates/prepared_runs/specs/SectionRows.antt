-- The number of rows that a section of a statistics file counts.
use Rattle.std.specs.Prelude.{◌≡◌}
use Rattle.stats_file.specs.declared.types.TableStats.{TableStats}
use Rattle.prepared_runs.specs.declared.append.SectionRows.{SectionRows}

abbrev pub section_rows : TableStats → SectionRows
section_rows section = record { table = section.table; rows = section.rows }

-- if the section is of the same table as `found`, it has the same number of rows
abbrev pub HasAsMany : SectionRows → TableStats → Type 0
HasAsMany found section = section.table ≡ found.table → section.rows ≡ found.rows
