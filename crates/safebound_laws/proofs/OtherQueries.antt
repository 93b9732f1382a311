-- A statistics file that stands for a query's tables also stands for another query's tables, if the tables of both queries have the same rows.
use Rattle.std.proofs.Common.{ℕ, List, get_or, ap, ◌∙◌, subst}
use Rattle.appended_stats.specs.Appended.{tables_of_rows}
use Rattle.csv_tables.specs.Rows.{Row}
use Rattle.stats_file_of_query.proofs.SameSections.{first_is}
use Rattle.stats_file_of_query.specs.Needs.{table_of}
use Rattle.stats_file_of_query.specs.Standing.{PairStandsFor, SectionStandsFor, StandsFor, section_of}
use Rattle.query_types.specs.declared.types.Query.{Query}
use Rattle.sql_meaning.specs.Tables.{Tables}
use Rattle.stats_file.specs.declared.types.PairStats.{PairStats}
use Rattle.stats_file.specs.declared.types.StatsFile.{StatsFile}
use Rattle.stats_file.specs.declared.types.TableStats.{TableStats}
use Rattle.safebound_laws.specs.OtherQueries.{HaveSameRows, IsOfTables}

pair_of_single_table : (pair : PairStats) (tables : Tables) (entry : ℕ) (key : ℕ → ℕ) → PairStandsFor pair tables entry key → PairStandsFor pair (tables_of_rows (tables entry)) 0 key
pair_of_single_table pair tables entry key stands = record { rows = stands.rows; whole = stands.whole; value = stands.value; node = stands.node }

pair_of_entry : (pair : PairStats) (tables : Tables) (entry : ℕ) (key : ℕ → ℕ) → PairStandsFor pair (tables_of_rows (tables entry)) 0 key → PairStandsFor pair tables entry key
pair_of_entry pair tables entry key stands = record { rows = stands.rows; whole = stands.whole; value = stands.value; node = stands.node }

section_of_single_table : (section : TableStats) (tables : Tables) (entry : ℕ) → SectionStandsFor section tables entry → SectionStandsFor section (tables_of_rows (tables entry)) 0
section_of_single_table section tables entry stands = record {
  rows = stands.rows;
  pairs = λ i d low key tells. pair_of_single_table (get_or section.pairs i d) tables entry key (stands.pairs i d low key tells);
}

section_of_entry : (section : TableStats) (tables : Tables) (entry : ℕ) → SectionStandsFor section (tables_of_rows (tables entry)) 0 → SectionStandsFor section tables entry
section_of_entry section tables entry stands = record {
  rows = stands.rows;
  pairs = λ i d low key tells. pair_of_entry (get_or section.pairs i d) tables entry key (stands.pairs i d low key tells);
}

pub stands_for_other : (query other : Query) (file : StatsFile) (tables also : Tables) → StandsFor query file tables → IsOfTables query file
    → HaveSameRows query tables other also → StandsFor other file also
stands_for_other query other file tables also stands of same place section low found =
    let named = of (table_of other place) section found in
    let first = first_is query (table_of other place) named.0 named.1 in
    let its : SectionStandsFor section tables named.0 = stands named.0 section first.0 (ap (section_of file) first.1 ∙ found) in
    section_of_entry section also place
    (subst (λ (rows : List Row). SectionStandsFor section (tables_of_rows rows) 0) (same named.0 place first.0 low first.1) (section_of_single_table section tables named.0 its))
