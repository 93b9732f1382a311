use Rattle.std.proofs.Common.{ℕ, List, length, ap, sym, ◌∙◌, subst, arith}
use Rattle.std.specs.List.{AllZip}
use Rattle.std.proofs.lemmas.List.{take_at}
use Rattle.row_buf.specs.Rows.{Rows}
use Rattle.reserve_plan.specs.Rooms.{IsRoomFor}
use Rattle.sql_meaning.specs.Tables.{tables_of}
use Rattle.join_steps.specs.Lists.{list_at, list_sizes, lists_of, scans_of}
use Rattle.join_steps.proofs.WholeScans.{scans_of_length, length-lists_of, scans_of_at}
use Rattle.planning.proofs.TableRooms.{table_rooms}
use Rattle.planning.proofs.scans.scan_entries.Goals as goal

pub scan_all-requires-clause-room : goal.scan_all-requires-clause-room
scan_all-requires-clause-room c =
    let query = c.args.query.now in
    let db = c.args.db.now in
    subst (AllZip IsRoomFor (list_sizes query (scans_of query (tables_of db)))) (sym c.as_mut_slice.ensures.value)
    (table_rooms query db c.as_slice.result.now c.in_ok-scans.scans.items (c.as_slice.ensures.value ∙ c.in_ok-sizes.ensures) c.in_ok-scans.ensures.room)

pub returns-clause-count : goal.returns-clause-count
returns-clause-count c =
    let lists : List (Rows ℕ) = c.scan_all.new.lists in
    ap (λ (s : List (Rows ℕ)). length s) (take_at lists _ c.in_ok-scans.scans.len (omega (arith, c.scan_all.auto.lists, c.as_mut_slice.ensures.len)))
    ∙ sym (length-lists_of lists) ∙ ap (λ (s : List (List ℕ)). length s) c.scan_all.ensures.rows ∙ scans_of_length c.args.query.now (tables_of c.args.db.now)

pub returns-clause-scans : goal.returns-clause-scans
returns-clause-scans c entry entry_in_range =
    let lists : List (Rows ℕ) = c.scan_all.new.lists in
    ap (λ (s : List (Rows ℕ)). list_at (lists_of s) entry) (take_at lists _ c.in_ok-scans.scans.len (omega (arith, c.scan_all.auto.lists, c.as_mut_slice.ensures.len)))
    ∙ ap (λ (s : List (List ℕ)). list_at s entry) c.scan_all.ensures.rows ∙ scans_of_at c.args.query.now (tables_of c.args.db.now) entry entry_in_range
