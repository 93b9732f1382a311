-- A `PreparedQuery` has all that was read, planned and reserved for a query. Here are its `AcceptedQuery`, and the facts that its joins need.
use Rattle.std.specs.Prelude.{ℕ, ◌≡◌, ◌+◌, List, length, Option, None, Some, ⊤}
use Rattle.query_types.specs.declared.types.Query.{Query}
use Rattle.csv_tables.specs.declared.types.Database.{Database}
use Rattle.join_steps.specs.Lists.{lists_of, scans_of}
use Rattle.bushy_join.specs.Trees.{IsTreePlanOf}
use Rattle.reserve_plan.specs.Memory.{buffers_bytes, lists_bytes}
use Rattle.plans.specs.declared.bushy.BushyPlan.{BushyPlan}
use Rattle.tree_rows.specs.Memory.{tree_bytes, tree_reserved_bytes}
use Rattle.tree_rows.specs.Rooms.{HasTreeRooms}
use Rattle.joined_texts.specs.Printed.{printed_rows}
use Rattle.printed_texts.specs.Texts.{rows_lines}
use Rattle.sql_meaning.specs.Databases.{IsDatabaseOf}
use Rattle.sql_meaning.specs.Tables.{Tables, tables_of}
use Rattle.table_files.specs.EntryTables.{entry_rows, tables_in}
use Rattle.prepared_runs.specs.AcceptedQuery.{AcceptedQuery}
use Rattle.prepared_runs.specs.Shapes.{IsShapedPlan, joined_entries, part_sizes, shape_audits}
use Rattle.prepared_runs.specs.Sources.{lists_by}
use Rattle.prepared_runs.specs.Standing.{LoseNoRow}
use Rattle.prepared_runs.specs.declared.prepare.PreparedQuery.{PreparedQuery}
use Rattle.prepared_runs.specs.declared.prepare.PendingOutput.{PendingOutput}
use Rattle.prepared_runs.specs.declared.prepare.PendingOutput.TheVariants as rest
use Rattle.prepared_runs.specs.declared.scans.Joins.{Joins}
use Rattle.prepared_runs.specs.declared.shapes.Room.{Room}
use Rattle.prepared_runs.specs.declared.scans.Scans.{Scans}
use Rattle.prepared_runs.specs.declared.scans.Scans.TheVariants as scans
use Rattle.safebound_words.specs.declared.command.OutText.{OutText}
use Rattle.safebound_words.specs.declared.command.OutText.TheVariants as out_text
use Rattle.safebound_words.specs.declared.command.Shape.{Shape}

-- the text that still has to be written to out
abbrev pub pending_text : PendingOutput → OutText
pending_text (rest.Rows joins) = out_text.Rows
pending_text (rest.Audit joins) = out_text.Audit
pending_text (rest.Nothing plan) = out_text.Nothing

-- for each entry the rows that are joined: its complete scan, or the listed rows
abbrev pub lists_in : Scans → Query → Tables → List (List ℕ)
lists_in scans.Whole query ts = scans_of query ts
lists_in (scans.Listed lists) query ts = lists_of lists.items

-- how many bytes the buffers for the joins hold
abbrev pub room_bytes : Room → ℕ
room_bytes room = tree_reserved_bytes room.reserved

-- how many bytes the buffers for the joins and the lists that are joined hold
abbrev pub room_and_list_bytes : Joins → ℕ
room_and_list_bytes joins = buffers_bytes joins.lists + room_bytes joins.room

-- if the lists were made before the plan, they take exactly the bytes of lists with room for `bounds` rows
abbrev pub HoldExactly : Scans → List ℕ → Type 0
HoldExactly scans.Whole bounds = ⊤
HoldExactly (scans.Listed lists) bounds = buffers_bytes lists ≡ lists_bytes bounds

-- the bounds of the plan fit the lists, and there are buffers with room for each of its joins
pub record IsRoomOver (query : Query) (ts : Tables) (lists : List (List ℕ)) (room : Room) : Type 0 where
  pub plan_of : IsTreePlanOf query ts lists room.plan
  pub rooms : HasTreeRooms room.plan room.reserved

-- the lists lose no row of the answer, and there is room for the joins of a plan over them
pub record CanJoin (query : Query) (db : Database) (joins : Joins) : Type 0 where
  pub rows : LoseNoRow query (tables_of db) (lists_of joins.lists.items)
  pub room : IsRoomOver query (tables_of db) (lists_of joins.lists.items) joins.room

-- there is room for all pending joins
abbrev pub HasRoom : Query → Database → PendingOutput → Type 0
HasRoom query db (rest.Rows joins) = CanJoin query db joins
HasRoom query db (rest.Audit joins) = CanJoin query db joins
HasRoom query db (rest.Nothing plan) = ⊤

-- the pending joins, if there are any, are over `lists`
abbrev pub AreOverLists : List (List ℕ) → PendingOutput → Type 0
AreOverLists lists (rest.Rows joins) = lists_of joins.lists.items ≡ lists
AreOverLists lists (rest.Audit joins) = lists_of joins.lists.items ≡ lists
AreOverLists lists (rest.Nothing plan) = ⊤

-- the lists and buffers of the pending joins, if there are any, take exactly `bytes` bytes
abbrev pub HoldsBytes : ℕ → PendingOutput → Type 0
HoldsBytes bytes (rest.Rows joins) = room_and_list_bytes joins ≡ bytes
HoldsBytes bytes (rest.Audit joins) = room_and_list_bytes joins ≡ bytes
HoldsBytes bytes (rest.Nothing plan) = ⊤

-- the plan of the pending output
abbrev pub pending_plan : PendingOutput → BushyPlan
pending_plan (rest.Rows joins) = joins.room.plan
pending_plan (rest.Audit joins) = joins.room.plan
pending_plan (rest.Nothing plan) = plan

-- the two texts that can be written after the joins: the rows, and the audit
abbrev pub rows_text_from : Joins → Query → Database → List ℕ
rows_text_from joins query db = rows_lines query.select (printed_rows query db (joined_entries joins.room.plan))

abbrev pub audit_text_from : Shape → Joins → Query → Database → List ℕ
audit_text_from shape joins query db =
    shape_audits query.from shape joins.room.plan (part_sizes query (tables_of db) (lists_of joins.lists.items) shape joins.room.plan)

-- the text that is left to write, if any
abbrev pub text_from : Shape → PendingOutput → Query → Database → Option (List ℕ)
text_from shape (rest.Rows joins) query db = Some (rows_text_from joins query db)
text_from shape (rest.Audit joins) query db = Some (audit_text_from shape joins query db)
text_from shape (rest.Nothing plan) query db = None

abbrev pub accepted_of : PreparedQuery → AcceptedQuery
accepted_of prepared = record {
  query = prepared.query;
  rows = entry_rows prepared.db;
  shape = prepared.shape;
  plan = pending_plan prepared.rest;
  source = prepared.source;
  lists = lists_by prepared.source prepared.query (tables_in (entry_rows prepared.db));
  memory = prepared.memory;
  out = pending_text prepared.rest;
}

-- the database has the query's tables, and the plan is for the query's entries. There is room for the pending joins, and this room takes exactly the
-- bytes of the plan
pub record IsPrepared (prepared : PreparedQuery) : Type 0 where
  pub database : IsDatabaseOf prepared.query prepared.db
  pub plan : IsShapedPlan (length prepared.query.from) prepared.shape (pending_plan prepared.rest)
  pub bytes : prepared.bytes ≡ tree_bytes (pending_plan prepared.rest)
  pub tables : tables_in (entry_rows prepared.db) ≡ tables_of prepared.db
  pub room : HasRoom prepared.query prepared.db prepared.rest
  pub lists : AreOverLists (accepted_of prepared).lists prepared.rest
  pub held : HoldsBytes prepared.bytes prepared.rest
