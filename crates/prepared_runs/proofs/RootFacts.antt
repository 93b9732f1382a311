-- The root of a tree has the rows of the last level. The numbers of listed rows are the numbers of rows of the tree's nodes.
use Rattle.std.proofs.Common.{◌≡◌, ℕ, ◌+◌, ◌-◌, ◌*◌, ◌<◌, ◌&&◌, Bool, true, false, List, length, map, ltb, refl, ap, sym, ◌∙◌, subst, arith, inl, inr}
use Rattle.std.specs.Prelude.{All}
use Rattle.std.specs.List.{range_with_len}
use Rattle.std.proofs.Math.Seq.{take-length}
use Rattle.std.proofs.lemmas.Bool.{cases_lt, le-ltb}
use Rattle.std.proofs.lemmas.List.{ext_get_or}
use Rattle.std.proofs.lemmas.List.Elements.{All-from_recursion}
use Rattle.std.proofs.lemmas.List.FromFn.{get_or-map-range_with_len, length-map-range_with_len}
use Rattle.csv_tables.specs.declared.types.Database.{Database}
use Rattle.query_types.specs.declared.types.Query.{Query}
use Rattle.sql_meaning.specs.Answers.{conjuncts_of}
use Rattle.sql_meaning.specs.Choices.{IsChoiceOf}
use Rattle.sql_meaning.specs.Databases.{IsDatabaseOf}
use Rattle.sql_meaning.specs.Levels.{level_over}
use Rattle.sql_meaning.specs.Tables.{Tables, row_counts, tables_of}
use Rattle.sql_meaning.proofs.AnswerFacts.{names_its_entries}
use Rattle.plans.specs.TreePlans.{IsTreePlan}
use Rattle.plans.specs.declared.bushy.BushyPlan.{BushyPlan}
use Rattle.tree_rows.specs.Nodes.{Node, node_at}
use Rattle.tree_rows.specs.Trees.{entries_at, node_count}
use Rattle.join_steps.specs.Lists.{list_at, IsOrderOf}
use Rattle.join_steps.specs.Levels.{query_level}
use Rattle.bushy_join.specs.Trees.{chosen_rows, is_joined_leaf, node_rows}
use Rattle.bushy_join.proofs.Running.{are_choices}
use Rattle.joined_texts.specs.JoinedRows.{root_of}
use Rattle.joined_texts.specs.Printed.{node_counts, printed_rows, selected_rows}
use Rattle.joined_texts.proofs.AuditLines.{node_count_at, node_counts_length}
use Rattle.prepared_runs.specs.Shapes.{part_sizes}
use Rattle.prepared_runs.specs.Standing.{LoseNoRow}
use Rattle.safebound_words.specs.declared.command.Shape.TheVariants as shapes
use Rattle.prepared_runs.proofs.ShapeFacts.{order_is, order_of}

and_false : (b : Bool) → (b && false) ≡ false
and_false true = refl
and_false false = refl

root_alone : (n : ℕ) (plan : BushyPlan) → IsTreePlan n plan → is_joined_leaf plan (node_count plan - 1) ≡ false
root_alone n plan is = elim (cases_lt 1 (length plan.scans)) [
  | inl several ↦ ap (λ (b : Bool). b && ltb 1 (length plan.scans)) (le-ltb (node_count plan - 1) (length plan.scans) (omega (arith, several, is.scans, is.joins)))
  | inr alone ↦ ap (λ (b : Bool). ltb (node_count plan - 1) (length plan.scans) && b) (le-ltb 1 (length plan.scans) alone)
      ∙ and_false (ltb (node_count plan - 1) (length plan.scans))
]

module _ (query : Query) (tables : Tables) (plan : BushyPlan) (is : IsTreePlan (length query.from) plan) (lists : List (List ℕ)) where
  root_chosen : node_rows query tables lists plan (node_count plan - 1) ≡ chosen_rows query tables lists (entries_at plan (node_count plan - 1))
  root_chosen = rw (root_alone (length query.from) plan is) refl

  last_root : node_count plan - 1 ≡ 2 * length query.from - 2
  last_root = omega (arith, is.scans, is.joins)

module _ (query : Query) (db : Database) (plan : BushyPlan) (is : IsTreePlan (length query.from) plan) (lists : List (List ℕ)) (database : IsDatabaseOf query db)
    (rows : LoseNoRow query (tables_of db) lists) where
  abbrev its : List ℕ
  its = entries_at plan (node_count plan - 1)

  root_rows : node_rows query (tables_of db) lists plan (node_count plan - 1) ≡ query_level query db its (length its)
  root_rows =
      root_chosen query (tables_of db) plan is lists
      ∙ ap (λ (placed : List ℕ). level_over (conjuncts_of query (tables_of db)) (list_at lists) placed) (sym (take-length its))
      ∙ rows.last (names_its_entries query db database) its (order_is query plan is)

  root_choices : All (IsChoiceOf (row_counts (tables_of db)) its) (node_rows query (tables_of db) lists plan (node_count plan - 1))
  root_choices =
      let order = order_of query plan is in
      subst (All (IsChoiceOf (row_counts (tables_of db)) its)) (sym (root_chosen query (tables_of db) plan is lists))
      (All-from_recursion (IsChoiceOf (row_counts (tables_of db)) its) (chosen_rows query (tables_of db) lists its)
      (are_choices query db lists rows.scanned its order.entries))

-- ---- the rows that were listed at the root

module _ (query : Query) (db : Database) (plan : BushyPlan) (is : IsTreePlan (length query.from) plan) (lists : List (List ℕ)) (database : IsDatabaseOf query db)
    (rows : LoseNoRow query (tables_of db) lists) (done : List Node) (entries : (node : ℕ) → node < node_count plan → (node_at done node).entries ≡ entries_at plan node)
    (listed : (node : ℕ) → node < node_count plan → (node_at done node).rows ≡ node_rows query (tables_of db) lists plan node) where
  there : node_count plan - 1 < node_count plan
  there = omega (arith, is.joins)

  root_is : root_of query done ≡ node_at done (node_count plan - 1)
  root_is = ap (node_at done) (sym (last_root query (tables_of db) plan is lists))

  abbrev root_leaves : List ℕ
  root_leaves = entries_at plan (node_count plan - 1)

  root_entries : (root_of query done).entries ≡ root_leaves
  root_entries = ap (λ (node : Node). node.entries) root_is ∙ entries (node_count plan - 1) there

  root_listed : (root_of query done).rows ≡ node_rows query (tables_of db) lists plan (node_count plan - 1)
  root_listed = ap (λ (node : Node). node.rows) root_is ∙ listed (node_count plan - 1) there

  pub root_order : IsOrderOf query (root_of query done).entries
  root_order = subst (IsOrderOf query) (sym root_entries) (order_of query plan is)

  pub root_whole : All (IsChoiceOf (row_counts (tables_of db)) (root_of query done).entries) (root_of query done).rows
  root_whole =
      subst (λ (e : List ℕ). All (IsChoiceOf (row_counts (tables_of db)) e) (root_of query done).rows) (sym root_entries)
      (subst (All (IsChoiceOf (row_counts (tables_of db)) root_leaves)) (sym root_listed) (root_choices query db plan is lists database rows))

  pub root_printed : selected_rows query db (root_of query done).entries (root_of query done).rows ≡ printed_rows query db root_leaves
  root_printed =
      ap (λ (e : List ℕ). selected_rows query db e (root_of query done).rows) root_entries
      ∙ ap (selected_rows query db root_leaves) (root_listed ∙ root_rows query db plan is lists database rows)

module _ (query : Query) (tables : Tables) (plan : BushyPlan) (is : IsTreePlan (length query.from) plan) (lists : List (List ℕ)) (done : List Node)
    (count : length done ≡ node_count plan) (listed : (node : ℕ) → node < node_count plan → (node_at done node).rows ≡ node_rows query tables lists plan node) where
  abbrev size : ℕ → ℕ
  size k = length (node_rows query tables lists plan (length plan.scans + k))

  pub counts_of_nodes : node_counts (length plan.scans) done ≡ part_sizes query tables lists shapes.Tree plan
  counts_of_nodes =
      let many : ℕ = length plan.joins in
      ext_get_or 0 (node_counts (length plan.scans) done) (map size (range_with_len 0 many))
      (omega (arith, node_counts_length (length plan.scans) done, count, length-map-range_with_len size 0 many))
      (λ k low.
      let within : k < many = omega (arith, low, node_counts_length (length plan.scans) done, count) in
      node_count_at (length plan.scans) done k (omega (arith, within, count))
      ∙ ap (λ (r : List (List ℕ)). length r) (listed (length plan.scans + k) (omega (arith, within)))
      ∙ sym (get_or-map-range_with_len size 0 many k k 0 within (omega arith)))
