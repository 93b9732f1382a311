use Rattle.std.proofs.Common.{ℕ, ◌+◌, ◌*◌, List, map, sum, vec_capacity, ap, sym, ◌∙◌, subst, arith}
use Rattle.std.specs.List.{AllZip}
use Rattle.std.proofs.lemmas.List.{take_at}
use Rattle.row_buf.specs.declared.TheConstants.{BUFFER_BYTES, ROW_NUMBER_BYTES}
use Rattle.row_buf.specs.Rows.{capacity}
use Rattle.reserve_plan.specs.Memory.{lists_bytes}
use Rattle.reserve_plan.specs.Rooms.{IsRoomFor}
use Rattle.sql_meaning.specs.Tables.{tables_of}
use Rattle.join_steps.specs.Lists.{list_sizes, lists_of, scans_of}
use Rattle.prepared_runs.proofs.scans.list_scans.Goals as goal

pub reserve_scans-requires-clause-count : goal.reserve_scans-requires-clause-count
reserve_scans-requires-clause-count c = rw c.as_slice.ensures c.requires.count

pub reserve_scans-requires-clause-fit : goal.reserve_scans-requires-clause-fit
reserve_scans-requires-clause-fit c = rw c.as_slice.ensures c.requires.fit

pub scan_all-requires-clause-room : goal.scan_all-requires-clause-room
scan_all-requires-clause-room c =
    subst (AllZip IsRoomFor (list_sizes c.args.query.now (scans_of c.args.query.now (tables_of c.args.db.now)))) (sym c.as_mut_slice.ensures.value) c.in_ok-lists.ensures.room

pub returns-clause-lists : goal.returns-clause-lists
returns-clause-lists c =
    ap lists_of (take_at c.scan_all.new.lists _ c.in_ok-lists.lists.len (omega (arith, c.scan_all.auto.lists, c.as_mut_slice.ensures.len))) ∙ c.scan_all.ensures.rows

pub returns-clause-bytes : goal.returns-clause-bytes
returns-clause-bytes c =
    ap (λ (capacities : List ℕ). BUFFER_BYTES * vec_capacity c.in_ok-lists.lists + ROW_NUMBER_BYTES * sum capacities)
    (ap (map capacity) (take_at c.scan_all.new.lists _ c.in_ok-lists.lists.len (omega (arith, c.scan_all.auto.lists, c.as_mut_slice.ensures.len)))
    ∙ c.scan_all.ensures.capacities ∙ ap (map capacity) c.as_mut_slice.ensures.value)
    ∙ c.in_ok-lists.ensures.bytes
    ∙ ap lists_bytes c.as_slice.ensures
