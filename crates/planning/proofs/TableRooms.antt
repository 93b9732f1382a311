-- Buffers with room for tables have room for the tables' scans.
use Rattle.std.proofs.Common.{◌≡◌, ℕ, ◌<◌, List, length, map, get_or, ap, sym, ◌∙◌, arith}
use Rattle.std.specs.List.{AllZip}
use Rattle.std.proofs.lemmas.List.FromFn.{get_or-map-range_with_len, length-map-range_with_len}
use Rattle.csv_tables.specs.declared.types.Database.{Database}
use Rattle.query_types.specs.declared.types.Query.{Query}
use Rattle.row_buf.specs.Rows.{Rows}
use Rattle.reserve_plan.specs.Rooms.{IsRoomFor}
use Rattle.reserve_plan.proofs.Roomy.{buffers_for_fewer, zip_each}
use Rattle.sql_meaning.specs.Answers.{entries_of}
use Rattle.sql_meaning.specs.Tables.{row_counts, tables_of}
use Rattle.join_steps.specs.Lists.{list_sizes, scans_of}
use Rattle.join_steps.proofs.WholeScans.{scans_of_at, list_sizes_at, list_sizes_length}
use Rattle.reduced_scans.proofs.OfQuery.{length-scan}

pub table_rooms : (query : Query) (db : Database) (sizes : List ℕ) (buffers : List (Rows ℕ)) → sizes ≡ map (row_counts (tables_of db)) (entries_of query) → AllZip IsRoomFor sizes buffers
    → AllZip IsRoomFor (list_sizes query (scans_of query (tables_of db))) buffers
table_rooms query db sizes buffers is has =
    let scans : List (List ℕ) = scans_of query (tables_of db) in
    let rows : ℕ → ℕ = row_counts (tables_of db) in
    let same_length : length sizes ≡ length query.from = ap (λ (s : List ℕ). length s) is ∙ length-map-range_with_len rows 0 (length query.from) in
    buffers_for_fewer (list_sizes query scans) sizes buffers
    (zip_each (list_sizes query scans) sizes (list_sizes_length query scans ∙ sym same_length)
    (λ entry entry_in_range.
    let within : entry < length query.from = omega (arith, entry_in_range, list_sizes_length query scans) in
    let size : get_or sizes entry 0 ≡ rows entry = ap (λ (s : List ℕ). get_or s entry 0) is ∙ get_or-map-range_with_len rows 0 (length query.from) entry entry 0 within (omega arith) in
    omega (arith, list_sizes_at query scans entry within, ap (λ (s : List ℕ). length s) (scans_of_at query (tables_of db) entry within), length-scan query db entry, size)))
    has
