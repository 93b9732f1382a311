-- How many bytes the lists and buffers of a run take, before its joins and after them, and which rows the buffers have.
use Rattle.std.proofs.Common.{◌≡◌, ℕ, ◌+◌, ◌*◌, ◌<◌, List, length, map, sum, get_or, Option, None, Some, Result, Ok, Err, refl, ap, sym, ◌∙◌, subst, arith}
use Rattle.std.specs.Prelude.{IsOkAnd, OnOk}
use Rattle.std.proofs.lemmas.List.{ext_get_or, get_or-map, length-map}
use Rattle.base_io.specs.Devices.{Reading}
use Rattle.base_io.specs.Files.{Files}
use Rattle.csv_tables.specs.declared.types.Database.{Database}
use Rattle.row_buf.specs.declared.TheConstants.{BUFFER_BYTES, ROW_NUMBER_BYTES}
use Rattle.row_buf.specs.Rows.{Rows, capacity}
use Rattle.query_types.specs.declared.types.Query.{Query}
use Rattle.schema_types.specs.declared.types.Schema.{Schema}
use Rattle.sql_meaning.specs.Databases.{IsDatabaseOf}
use Rattle.sql_meaning.specs.Tables.{Tables, tables_of}
use Rattle.join_steps.specs.Lists.{list_sizes, lists_of, listed_row_count, AreOfScans}
use Rattle.join_steps.proofs.WholeScans.{scans_of_length, length-lists_of, list_at_buffer, no_rows, list_sizes_at, list_sizes_length}
use Rattle.joined_texts.specs.Printed.{constants_of}
use Rattle.bushy_join.specs.Trees.{node_rows}
use Rattle.plans.specs.declared.bushy.BushyPlan.{BushyPlan}
use Rattle.plans.specs.Orders.{order_of_tree, tree_of_order, IsOrderTree}
use Rattle.tree_rows.specs.Memory.{tree_bytes}
use Rattle.tree_rows.specs.Nodes.{Node}
use Rattle.tree_rows.specs.Trees.{node_count}
use Rattle.reduced_scans.specs.Lists.{HaveNoSpare}
use Rattle.reserve_plan.specs.Memory.{lists_bytes}
use Rattle.outcomes.specs.Reads.{◌>>=◌, AtFile, Reads}
use Rattle.outcomes.specs.declared.names.FileId.TheVariants as file
use Rattle.outcomes.specs.declared.refusal.Refusal.{Refusal}
use Rattle.table_files.specs.EntryTables.{entry_rows, tables_in}
use Rattle.safebound_words.specs.declared.command.Command.{Command}
use Rattle.prepared_runs.specs.KeptBuffers.{joined_bytes, counts_by, counts_in, node_rows_in, part_rows_by, part_rows_in, AreDone, AreNodesOf, HasParts, IsJoined, HasBuffersOf, KeepsBuffers, KeepsPending, KeepsItsBuffers}
use Rattle.prepared_runs.specs.AcceptedQuery.{AcceptedQuery}
use Rattle.prepared_runs.specs.RunOutcome.{RunOutcome, Planned}
use Rattle.prepared_runs.specs.PreparedQuery.{room_and_list_bytes, pending_plan, pending_text, AreOverLists, HoldsBytes}
use Rattle.prepared_runs.specs.Shapes.{part_count, part_rows, part_sizes, IsShapedPlan}
use Rattle.prepared_runs.specs.Shops.{demo_number_of, store_read}
use Rattle.prepared_runs.specs.Verdict.{schema_task_run, command_run, command_stage, schema_stage, verdict}
use Rattle.prepared_runs.specs.declared.joined.Joined.{Joined}
use Rattle.prepared_runs.specs.declared.prepare.PendingOutput.{PendingOutput}
use Rattle.prepared_runs.specs.declared.prepare.PendingOutput.TheVariants as rest
use Rattle.prepared_runs.specs.declared.scans.Joins.{Joins}
use Rattle.safebound_words.specs.declared.command.ListSource.{ListSource}
use Rattle.safebound_words.specs.declared.command.OutText.{OutText}
use Rattle.safebound_words.specs.declared.command.OutText.TheVariants as out_text
use Rattle.safebound_words.specs.declared.command.Shape.{Shape}
use Rattle.safebound_words.specs.declared.command.Shape.TheVariants as shapes
use Rattle.prepared_runs.proofs.OrderParts.{counts_of_levels, each_part}
use Rattle.prepared_runs.proofs.RootFacts.{counts_of_nodes}

pub if_ok : {A E P : Type 0} (r : Result A E) → P → OnOk r P
if_ok (Ok x) is = is
if_ok (Err e) is = tt

-- ---- lists without room to spare

own_sizes : (query : Query) (lists : List (Rows ℕ)) → length lists ≡ length query.from → HaveNoSpare lists → map capacity lists ≡ list_sizes query (lists_of lists)
own_sizes query lists count full =
    ext_get_or 0 (map capacity lists) (list_sizes query (lists_of lists)) (length-map lists capacity ∙ count ∙ sym (list_sizes_length query (lists_of lists)))
    (λ k low.
    let there : k < length lists = omega (arith, low, length-map lists capacity) in
    let rows : listed_row_count (lists_of lists) k ≡ length (get_or lists k no_rows).items = ap (λ (rows : List ℕ). length rows) (list_at_buffer lists k) in
    get_or-map capacity lists k no_rows 0 there ∙ omega (arith, full k no_rows there, rows, list_sizes_at query (lists_of lists) k (omega (arith, there, count))))

pub own_bytes : (query : Query) (tables : Tables) (family : List (List ℕ)) (lists : List (Rows ℕ)) (held : ℕ) → AreOfScans query tables family → lists_of lists ≡ family → held ≡ length query.from → HaveNoSpare lists
    → BUFFER_BYTES * held + ROW_NUMBER_BYTES * sum (map capacity lists) ≡ lists_bytes (list_sizes query family)
own_bytes query tables family lists held are same count full =
    let lengths : length lists ≡ length query.from = sym (length-lists_of lists) ∙ ap (λ (f : List (List ℕ)). length f) same ∙ are.count ∙ scans_of_length query tables in
    let sizes : map capacity lists ≡ list_sizes query family = own_sizes query lists lengths full ∙ ap (list_sizes query) same in
    let one_each : held ≡ length (list_sizes query family) = count ∙ sym (list_sizes_length query family) in
    rw (one_each, sizes) refl

-- ---- finished joins

module _ (query : Query) (db : Database) (lists : List (List ℕ)) (database : IsDatabaseOf query db) where
  -- the nodes of an order's tree
  order_nodes : (plan : BushyPlan) (nodes : List Node) → IsOrderTree (length query.from) plan → AreNodesOf query db lists plan nodes → AreNodesOf query db lists (tree_of_order (order_of_tree plan)) nodes
  order_nodes plan nodes of is = subst (λ (t : BushyPlan). AreNodesOf query db lists t nodes) of.its_tree is

  counted : (shape : Shape) (plan : BushyPlan) (nodes : List Node) → IsShapedPlan (length query.from) shape plan → AreNodesOf query db lists plan nodes
      → counts_by (constants_of query (tables_of db)) shape plan nodes ≡ part_sizes query (tables_of db) lists shape plan
  counted shapes.Order plan nodes of is =
      let its = order_nodes plan nodes of is in counts_of_levels query db lists (order_of_tree plan) nodes database of.order its.rows.scanned its.choices
  counted shapes.Tree plan nodes of is = counts_of_nodes query (tables_of db) plan of lists nodes is.count is.choices

  parts_by : (shape : Shape) (plan : BushyPlan) (nodes : List Node) → IsShapedPlan (length query.from) shape plan → AreNodesOf query db lists plan nodes
      → (k : ℕ) → k < part_count shape plan → part_rows_by (constants_of query (tables_of db)) shape plan nodes k ≡ part_rows query (tables_of db) lists shape plan k
  parts_by shapes.Order plan nodes of is k low =
      let its = order_nodes plan nodes of is in each_part query db lists (order_of_tree plan) nodes database of.order its.rows.scanned its.choices k low
  parts_by shapes.Tree plan nodes of is k low = is.choices (length plan.scans + k) (omega (arith, low))

  pub counts_are : (shape : Shape) (it : Joined) → IsShapedPlan (length query.from) shape it.plan → IsJoined query db lists it
      → counts_in query db shape it ≡ part_sizes query (tables_of db) lists shape it.plan
  counts_are shape it of is = counted shape it.plan it.done.nodes of is

  pub has_parts : (shape : Shape) (it : Joined) → IsShapedPlan (length query.from) shape it.plan → IsJoined query db lists it → HasParts (length query.from) shape it
  has_parts shape it of is = record { plan = of; nodes = omega (arith, is.count, is.plan_of.for_each_entry.scans, is.plan_of.for_each_entry.joins) }

pub are_done : (query : Query) (db : Database) (shape : Shape) (joins : Joins) (it : Joined) → IsDatabaseOf query db → IsShapedPlan (length query.from) shape joins.room.plan → it.plan ≡ joins.room.plan
    → IsJoined query db (lists_of joins.lists.items) it → joined_bytes it ≡ room_and_list_bytes joins → AreDone query db shape joins it
are_done query db shape joins it database of same is bytes =
    let lists : List (List ℕ) = lists_of joins.lists.items in
    record {
      plan = same;
      nodes = subst (λ (t : BushyPlan). (node : ℕ) → node < node_count t → node_rows_in it node ≡ node_rows query (tables_of db) lists t node) same is.choices;
      parts = subst (λ (plan : BushyPlan). (k : ℕ) → k < part_count shape plan → part_rows_in query (tables_of db) shape it k ≡ part_rows query (tables_of db) lists shape plan k) same
          (parts_by query db lists database shape it.plan it.done.nodes (subst (IsShapedPlan (length query.from) shape) (sym same) of) is);
      bytes = bytes;
    }

-- after the joins, the buffers that were prepared for them are the buffers that the run keeps
module _ (query : Query) (db : Database) (source : ListSource) (lists : List (List ℕ)) (shape : Shape) (memory : Option ℕ) (same_tables : tables_in (entry_rows db) ≡ tables_of db) where
  abbrev the_run : BushyPlan → OutText → AcceptedQuery
  the_run plan out = record { query = query; rows = entry_rows db; shape = shape; plan = plan; source = source; lists = lists; memory = memory; out = out }

  kept_joins : (joins : Joins) (it : Joined) (out : OutText) → lists_of joins.lists.items ≡ lists → room_and_list_bytes joins ≡ tree_bytes joins.room.plan → AreDone query db shape joins it
      → KeepsBuffers (the_run joins.room.plan out) it
  kept_joins joins it out are holds is =
      let plan : BushyPlan = joins.room.plan in
      record {
        plan = is.plan;
        nodes = λ node low. is.nodes node low
            ∙ ap (λ (l : List (List ℕ)). node_rows query (tables_of db) l plan node) are
            ∙ ap (λ (t : Tables). node_rows query t lists plan node) (sym same_tables);
        parts = λ k low. subst (λ (t : Tables). part_rows_in query t shape it k ≡ part_rows query t lists shape plan k) (sym same_tables)
            (is.parts k low ∙ ap (λ (l : List (List ℕ)). part_rows query (tables_of db) l shape plan k) are);
        bytes = is.bytes ∙ holds;
      }

  pub kept_is : (bytes : ℕ) (left : PendingOutput) (kept : Option Joined) → AreOverLists lists left → HoldsBytes bytes left → bytes ≡ tree_bytes (pending_plan left) → KeepsPending query db shape left kept
      → HasBuffersOf (Planned (the_run (pending_plan left) (pending_text left))) kept
  kept_is bytes (rest.Rows joins) (Some it) are holds is done = kept_joins joins it out_text.Rows are (holds ∙ is) done
  kept_is bytes (rest.Rows joins) None are holds is done = done
  kept_is bytes (rest.Audit joins) (Some it) are holds is done = kept_joins joins it out_text.Audit are (holds ∙ is) done
  kept_is bytes (rest.Audit joins) None are holds is done = done
  kept_is bytes (rest.Nothing plan) kept are holds is none = none

-- ---- the buffers of a run over the files of a store

pub keeps_so : (ask : Command) {first : Reading} (after : Option Files) (schema : Schema) (kept : Option Joined) → Reads first (schema_stage ask.schema_file) (AtFile file.Schema) (Ok schema)
    → first.files_after ≡ after → ((files : Files) → after ≡ Some files → IsOkAnd (schema_task_run ask.schema_task schema files) (λ outcome. HasBuffersOf outcome kept))
    → (files : Files) → first.files ≡ Some files → IsOkAnd (command_run ask files) (λ outcome. HasBuffersOf outcome kept)
unfolding command_run
keeps_so ask {first} after schema kept reads meets keeps files told =
    let stage : (schema_stage ask.schema_file files >>= (λ (s : Schema). schema_task_run ask.schema_task s files)) ≡ schema_task_run ask.schema_task schema files = rw (reads.gives files told) refl in
    subst (λ (r : Result RunOutcome Refusal). IsOkAnd r (λ outcome. HasBuffersOf outcome kept)) (sym stage) (keeps files (sym meets ∙ reads.same ∙ told))

pub keeps_verdict : (words : List (List ℕ)) (ask : Command) → command_stage words ≡ Ok ask → (handed_in : Reading) (shop : Option ℕ) (kept : Option Joined) → demo_number_of words ≡ shop
    → KeepsItsBuffers (store_read shop handed_in) (command_run ask) kept → KeepsItsBuffers (store_read (demo_number_of words) handed_in) (verdict words) kept
unfolding verdict
keeps_verdict words ask command handed_in shop kept is keeps files told =
    let stage : (command_stage words >>= (λ (a : Command). command_run a files)) ≡ command_run ask files = rw command refl in
    subst (λ (r : Result RunOutcome Refusal). IsOkAnd r (λ outcome. HasBuffersOf outcome kept)) (sym stage)
    (keeps files (ap (λ (s : Option ℕ). (store_read s handed_in).files) (sym is) ∙ told))
