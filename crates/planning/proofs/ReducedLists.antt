-- Lists of scanned rows are lists of rows of the query's database, in the form that the code requires.
use Rattle.std.proofs.Common.{◌≡◌, ℕ, ◌+◌, ◌<◌, ◌≤◌, List, [], ◌∷◌, length, get_or, refl, ap, sym, ◌∙◌, subst, arith, inl, inr}
use Rattle.std.specs.List.{Contains}
use Rattle.std.proofs.lemmas.Bool.{cases_lt}
use Rattle.std.proofs.lemmas.List.{get_or_past}
use Rattle.std.proofs.lemmas.List.Elements.{Contains-get_or}
use Rattle.csv_tables.specs.declared.types.Database.{Database}
use Rattle.query_types.specs.declared.types.Query.{Query}
use Rattle.row_buf.specs.Rows.{Rows}
use Rattle.sql_meaning.specs.Databases.{IsDatabaseOf}
use Rattle.sql_meaning.specs.Tables.{row_counts, tables_of}
use Rattle.sql_meaning.proofs.LoopFacts.{rows_are}
use Rattle.join_steps.specs.Lists.{IsAscending, IsFamily, list_at, lists_of, scans_of}
use Rattle.reduced_scans.specs.Lists.{AreRowLists}
use Rattle.reduced_scans.proofs.Members.{all_has, behind, in_front}
use Rattle.join_steps.proofs.WholeScans.{length-lists_of, scans_of_length, scans_of_at}
use Rattle.reduced_scans.proofs.QueryScans.{scanned_row_in_range}

not_longer_than_range : (rows : List ℕ) (from n : ℕ) → from ≤ n → IsAscending rows → ((row : ℕ) → Contains rows row → (from ≤ row) × (row < n)) → from + length rows ≤ n
not_longer_than_range [] from n fits ascend within = omega (arith, fits)
not_longer_than_range (row ∷ rows) from n fits ascend within =
    let here : (from ≤ row) × (row < n) = within row (in_front row row rows refl) in
    let later : (row + 1) + length rows ≤ n = not_longer_than_range rows (row + 1) n (omega (arith, here.1)) ascend.1
    (λ r has. (omega (arith, all_has (λ later. row < later) rows r ascend.0 has), (within r (behind r row rows has)).1)) in
    omega (arith, here.0, later)

module _ (query : Query) (db : Database) (lists : List (Rows ℕ)) (of : IsDatabaseOf query db) (family : IsFamily (scans_of query (tables_of db)) (lists_of lists)) where
  one_list_each : length lists ≡ length query.from
  one_list_each = sym (length-lists_of lists) ∙ family.count ∙ scans_of_length query (tables_of db)

  listed_row_in_range : (entry row : ℕ) → entry < length query.from → Contains (list_at (lists_of lists) entry) row → row < row_counts (tables_of db) entry
  listed_row_in_range entry row entry_in_range has =
      scanned_row_in_range query (tables_of db) entry row (subst (λ (l : List ℕ). Contains l row) (scans_of_at query (tables_of db) entry entry_in_range) (family.scanned entry row has))

  pub lists_of_db : AreRowLists db lists
  lists_of_db = record {
    tables = of.tables;
    count = one_list_each ∙ sym of.entries;
    few = omega (arith, one_list_each, of.few);
    rows = λ entry entry_in_range i d within.
        omega (
          arith,
          rows_are db entry,
          listed_row_in_range entry (get_or (list_at (lists_of lists) entry) i d) (omega (arith, entry_in_range, one_list_each)) (Contains-get_or (list_at (lists_of lists) entry) i d within),
        );
    sizes = λ entry. elim (cases_lt entry (length query.from)) [
      | inl entry_in_range ↦ omega (
        arith,
        not_longer_than_range (list_at (lists_of lists) entry) 0 (row_counts (tables_of db) entry) (omega arith) (family.ascending entry) (λ row has. (omega arith, listed_row_in_range entry row entry_in_range has)),
        of.rows_within_limit entry entry_in_range,
      )
      | inr past ↦ omega (arith, ap (λ (l : List ℕ). length l) (get_or_past (lists_of lists) entry [] (omega (arith, length-lists_of lists, one_list_each))))
    ];
  }
