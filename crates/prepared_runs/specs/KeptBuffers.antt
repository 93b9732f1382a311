-- The buffers of a run, after its joins are done and its texts are written.
use Rattle.std.specs.Prelude.{ℕ, ◌≡◌, ◌+◌, ◌*◌, ◌<◌, Bool, List, length, Option, None, Some, IsOkAnd, IsSomeAnd, Result}
use Rattle.base_io.specs.Devices.{Reading}
use Rattle.base_io.specs.Files.{Files}
use Rattle.csv_tables.specs.declared.types.Database.{Database}
use Rattle.plans.specs.declared.bushy.BushyPlan.{BushyPlan}
use Rattle.query_types.specs.declared.types.Query.{Query}
use Rattle.sql_meaning.specs.Tables.{Tables, tables_of}
use Rattle.join_steps.specs.Lists.{lists_of}
use Rattle.bushy_join.specs.Trees.{node_rows, IsTreePlanOf}
use Rattle.joined_texts.specs.Printed.{constants_of, level_counts, node_counts, rows_of_level}
use Rattle.plans.specs.Orders.{order_of_tree}
use Rattle.tree_rows.specs.Memory.{tree_bytes}
use Rattle.tree_rows.specs.Nodes.{Node, node_at}
use Rattle.tree_rows.specs.Trees.{entries_at, node_count}
use Rattle.outcomes.specs.declared.refusal.Refusal.{Refusal}
use Rattle.prepared_runs.specs.AcceptedQuery.{AcceptedQuery, tables}
use Rattle.prepared_runs.specs.RunOutcome.{Appended, StatsMade, RunOutcome, Planned, PlannedFromStats}
use Rattle.prepared_runs.specs.PreparedQuery.{room_and_list_bytes}
use Rattle.prepared_runs.specs.Shapes.{IsShapedPlan, part_count, part_rows}
use Rattle.prepared_runs.specs.Standing.{LoseNoRow}
use Rattle.prepared_runs.specs.declared.joined.Joined.{Joined}
use Rattle.prepared_runs.specs.declared.prepare.PendingOutput.{PendingOutput}
use Rattle.prepared_runs.specs.declared.prepare.PendingOutput.TheVariants as rest
use Rattle.prepared_runs.specs.declared.scans.Joins.{Joins}
use Rattle.safebound_words.specs.declared.command.OutText.{OutText}
use Rattle.safebound_words.specs.declared.command.OutText.TheVariants as out_text
use Rattle.safebound_words.specs.declared.command.Shape.{Shape}
use Rattle.safebound_words.specs.declared.command.Shape.TheVariants as shapes

-- ---- the contents of the buffers. A part of a plan is a level of its order, or an inner node of its tree

-- the rows of a node of the plan's tree
abbrev pub node_rows_in : Joined → ℕ → List (List ℕ)
node_rows_in it node = (node_at it.done.nodes node).rows

-- the rows of part k of a plan, by the nodes of its tree. Level 1 of an order has no rows if a conjunct such as 1 = 2 fails (`constants` is false)
abbrev pub part_rows_by : Bool → Shape → BushyPlan → List Node → ℕ → List (List ℕ)
part_rows_by constants shapes.Order plan nodes k = rows_of_level constants (order_of_tree plan).order nodes (k + 1)
part_rows_by constants shapes.Tree plan nodes k = (node_at nodes (length plan.scans + k)).rows

abbrev pub part_rows_in : Query → Tables → Shape → Joined → ℕ → List (List ℕ)
part_rows_in query tables shape it k = part_rows_by (constants_of query tables) shape it.plan it.done.nodes k

-- how many rows each part has
abbrev pub counts_by : Bool → Shape → BushyPlan → List Node → List ℕ
counts_by constants shapes.Order plan nodes = level_counts constants (order_of_tree plan).order nodes
counts_by constants shapes.Tree plan nodes = node_counts (length plan.scans) nodes

abbrev pub counts_in : Query → Database → Shape → Joined → List ℕ
counts_in query db shape it = counts_by (constants_of query (tables_of db)) shape it.plan it.done.nodes

-- how many bytes the lists and all buffers take: the capacity of each, times the size of an item
abbrev pub joined_bytes : Joined → ℕ
joined_bytes it = it.done.bytes

-- the plan is for n entries, and there is a node for each leaf and each join of its tree
pub record HasParts (n : ℕ) (shape : Shape) (it : Joined) : Type 0 where
  pub plan : IsShapedPlan n shape it.plan
  pub nodes : length it.done.nodes + 1 ≡ 2 * n

-- ---- joins over lists that lose no row of the answer

-- the lists lose no row of the answer (`LoseNoRow`), the plan's bounds fit them (`IsTreePlanOf`), and each node of its tree has its entries and its
-- choices
pub record AreNodesOf (query : Query) (db : Database) (lists : List (List ℕ)) (plan : BushyPlan) (nodes : List Node) : Type 0 where
  pub rows : LoseNoRow query (tables_of db) lists
  pub plan_of : IsTreePlanOf query (tables_of db) lists plan
  pub count : length nodes ≡ node_count plan
  pub entries : (node : ℕ) → node < node_count plan → (node_at nodes node).entries ≡ entries_at plan node
  pub choices : (node : ℕ) → node < node_count plan → (node_at nodes node).rows ≡ node_rows query (tables_of db) lists plan node

abbrev pub IsJoined : Query → Database → List (List ℕ) → Joined → Type 0
IsJoined query db lists it = AreNodesOf query db lists it.plan it.done.nodes

-- ---- the buffers after a run

-- the prepared buffers now have the rows of each node of the plan's tree, and so the rows of each part of the plan. They hold as many bytes as before
pub record AreDone (query : Query) (db : Database) (shape : Shape) (joins : Joins) (kept : Joined) : Type 0 where
  pub plan : kept.plan ≡ joins.room.plan
  pub nodes : (node : ℕ) → node < node_count joins.room.plan
      → node_rows_in kept node ≡ node_rows query (tables_of db) (lists_of joins.lists.items) joins.room.plan node
  pub parts : (k : ℕ) → k < part_count shape joins.room.plan
      → part_rows_in query (tables_of db) shape kept k ≡ part_rows query (tables_of db) (lists_of joins.lists.items) shape joins.room.plan k
  pub bytes : joined_bytes kept ≡ room_and_list_bytes joins

-- `kept` has the buffers of the joins that were left to do. If no join was left, it is None
abbrev pub KeepsPending : Query → Database → Shape → PendingOutput → Option Joined → Type 0
KeepsPending query db shape (rest.Rows joins) kept = IsSomeAnd kept (AreDone query db shape joins)
KeepsPending query db shape (rest.Audit joins) kept = IsSomeAnd kept (AreDone query db shape joins)
KeepsPending query db shape (rest.Nothing plan) kept = kept ≡ None

-- the buffers of a run have the rows of each node of its plan's tree, and so the rows of each part of the plan. They hold exactly the plan's bytes
pub record KeepsBuffers (run : AcceptedQuery) (kept : Joined) : Type 0 where
  pub plan : kept.plan ≡ run.plan
  pub nodes : (node : ℕ) → node < node_count run.plan
      → node_rows_in kept node ≡ node_rows run.query (tables run) run.lists run.plan node
  pub parts : (k : ℕ) → k < part_count run.shape run.plan
      → part_rows_in run.query (tables run) run.shape kept k ≡ part_rows run.query (tables run) run.lists run.shape run.plan k
  pub bytes : joined_bytes kept ≡ tree_bytes run.plan

-- `run`, `audit` and `demo` keep their buffers; `plan` takes no buffers
abbrev pub KeepsBuffersFor : OutText → AcceptedQuery → Option Joined → Type 0
KeepsBuffersFor out_text.Rows run kept = IsSomeAnd kept (KeepsBuffers run)
KeepsBuffersFor out_text.Audit run kept = IsSomeAnd kept (KeepsBuffers run)
KeepsBuffersFor out_text.Nothing run kept = kept ≡ None

abbrev pub HasBuffersOf : RunOutcome → Option Joined → Type 0
HasBuffersOf (Planned run) kept = KeepsBuffersFor run.out run kept
HasBuffersOf (StatsMade made_stats) kept = kept ≡ None
HasBuffersOf (PlannedFromStats made) kept = kept ≡ None
HasBuffersOf (Appended made) kept = kept ≡ None

-- if the store says which files it has, the stage has an outcome over these files, and `kept` has the buffers of this outcome
abbrev pub KeepsItsBuffers : Reading → (Files → Result RunOutcome Refusal) → Option Joined → Type 0
KeepsItsBuffers store stage kept = (files : Files) → store.files ≡ Some files → IsOkAnd (stage files) (λ outcome. HasBuffersOf outcome kept)
