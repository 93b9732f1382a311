-- The bounds of small tables with carried conjuncts, by computation.
use Rattle.std.proofs.Common.{◌≡◌, ℕ, zero, suc, true, Option, None, Some, List, [], ◌∷◌, length, map, refl, ap, ◌∙◌, arith}
use Rattle.std.specs.Prelude.{nat_lt, pos, if◌then◌else◌}
use Rattle.std.proofs.Math.Path.{fun_ext}
use Rattle.berge_tree.specs.declared.edges.Edge.{Edge}
use Rattle.berge_tree.specs.Equalities.{places_of}
use Rattle.berge_tree.specs.Testing.{edge_of}
use Rattle.cond_stats.specs.Leaves.{cuts}
use Rattle.cond_stats.specs.Lists.{list_of_node, list_of_value, rest}
use Rattle.csv_tables.specs.Values.{Int}
use Rattle.entry_sets.specs.Sets.{entries_of_set}
use Rattle.schema_types.specs.declared.types.Schema.{Schema}
use Rattle.query_grammar.specs.declared.tree.Op.TheVariants as op
use Rattle.query_types.specs.declared.types.Cond.{Cond}
use Rattle.query_types.specs.declared.types.Operand.TheVariants as operand
use Rattle.query_types.specs.declared.types.Query.{Query}
use Rattle.query_types.proofs.CondFacts.{entries_compare}
use Rattle.join_graph.specs.Conjuncts.{column_operand, equalities_of}
use Rattle.join_graph.proofs.Comparing.{equality_literal, equality_two}
use Rattle.tree_bounds.specs.TreeBounds.{EntryBounds}
use Rattle.set_bounds.specs.AllSets.{bounds_in_sets}
use Rattle.sql_meaning.specs.Tables.{Tables}
use Rattle.filtered_lists.specs.Filters.{ComparisonAnswers, Conjunction, and_answer, conjunction_of, filtered, one_conjunction, own_conjuncts}
use Rattle.filtered_lists.specs.Lists.{ColumnLists, RowCounts, count_answers, filtered_list, list_answers, row_bound}
use Rattle.filtered_lists.proofs.Parts.{conjunction_of_compare}
use Rattle.query_bounds.specs.Bounds.{is_among}
use Rattle.table_stats.specs.Statistics.{column_lists, entry_counts}
use Rattle.planning.specs.Bounds.{set_bounds_of}
use Rattle.planning.specs.ReducedExamples.{region_query, region_tables}
use Rattle.key_carriers.specs.Carriers.{carrying_equalities, carriers_to}
use Rattle.key_carriers.specs.Examples.{orders_and_customers, undeclared_schema}
use Rattle.key_stats.specs.Lists.{carried_counts, carried_lists}
use Rattle.key_bounds.specs.Bounds.{least_list, least_rows, set_bounds_by_keys}
use Rattle.key_bounds.specs.Examples.{two_references_query, manager_query, column_equals, trade_schema, trade_tables, stray_order_tables, worker_schema, worker_tables}
use Rattle.key_bounds.proofs.SmallShops.{shop_carriers, trade_carriers, undeclared_carriers, worker_carriers}

-- ---- lists and row counts, filtered by an own conjunct `column = 3`

abbrev own_of : ℕ → Option ℕ → List Cond
own_of entry None = []
own_of entry (Some column) = column_equals entry column 3 ∷ []

module _ {A : Type 0} (answers : ComparisonAnswers A) where
  abbrev of_these : List Cond → A
  of_these conjuncts = answers.both (and_answer answers (one_conjunction (map (λ c. conjunction_of answers c true) conjuncts))) answers.whole

  abbrev where_three : Option ℕ → A
  where_three None = answers.both answers.whole answers.whole
  where_three (Some column) = answers.both (answers.equal column (Int (pos 3))) answers.whole

  of_own : (query : Query) (entry : ℕ) (own : Option ℕ) → own_conjuncts entry query.conjuncts ≡ own_of entry own → filtered answers entry query.conjuncts ≡ where_three own
  of_own query entry None are = ap of_these are
  of_own query entry (Some column) are =
      ap of_these are
      ∙ ap (λ (c : Conjunction A). answers.both (and_answer answers (one_conjunction (c ∷ []))) answers.whole)
      (conjunction_of_compare answers op.Eq (column_operand entry column) (operand.Int (pos 3)) true)

abbrev AsKnown : Query → ℕ → Option (Option ℕ) → Type 0
AsKnown query entry None = entry ≡ entry
AsKnown query entry (Some own) = own_conjuncts entry query.conjuncts ≡ own_of entry own

abbrev count_known : Query → ℕ → Option (Option ℕ) → RowCounts → ℕ
count_known query entry None counts = row_bound counts entry query.conjuncts
count_known query entry (Some own) counts = where_three (count_answers counts) own

abbrev list_known : Query → ℕ → Option (Option ℕ) → ColumnLists → List ℕ
list_known query entry None lists = filtered_list lists entry query.conjuncts
list_known query entry (Some own) lists = where_three (list_answers lists) own

count_is : (query : Query) (entry : ℕ) (known : Option (Option ℕ)) → AsKnown query entry known → (counts : RowCounts)
    → row_bound counts entry query.conjuncts ≡ count_known query entry known counts
count_is query entry None stands counts = refl
count_is query entry (Some own) stands counts = of_own (count_answers counts) query entry own stands

list_is : (query : Query) (entry : ℕ) (known : Option (Option ℕ)) → AsKnown query entry known → (lists : ColumnLists)
    → filtered_list lists entry query.conjuncts ≡ list_known query entry known lists
list_is query entry None stands lists = refl
list_is query entry (Some own) stands lists = of_own (list_answers lists) query entry own stands

-- ---- bounds from equalities, carriers, and given filtered lists and row counts

abbrev told_by : Tables → ℕ → List Edge → List Edge → (ℕ → RowCounts → ℕ) → (ℕ → ColumnLists → List ℕ) → ℕ → EntryBounds
told_by tables n es cs counted listed subset = record {
  rows = λ entry. if nat_lt entry n
      then least_rows (counted entry (entry_counts tables entry)) (map (λ e. counted e.right.entry (carried_counts tables e)) (carriers_to cs subset entry)) else 0;
  list = λ entry column. if is_among (places_of es) entry column
      then least_list (listed entry (column_lists tables 1 entry column)) (map (λ e. listed e.right.entry (carried_lists tables 1 e column)) (carriers_to cs subset entry)) else [];
}

abbrev sets_by : Tables → ℕ → List Edge → List Edge → (ℕ → RowCounts → ℕ) → (ℕ → ColumnLists → List ℕ) → List ℕ
sets_by tables n es cs counted listed = bounds_in_sets (told_by tables n es cs counted listed) es n

abbrev sets_known : Query → (ℕ → Option (Option ℕ)) → Tables → List Edge → List Edge → List ℕ
sets_known query known tables es cs =
    sets_by tables (length query.from) es cs (λ entry counts. count_known query entry (known entry) counts) (λ entry lists. list_known query entry (known entry) lists)

module _ (query : Query) (es : List Edge) (joins : equalities_of query ≡ es) (known : ℕ → Option (Option ℕ)) (stands : (entry : ℕ) → AsKnown query entry (known entry)) where
  abbrev by_conjuncts : ℕ → RowCounts → ℕ
  by_conjuncts entry counts = row_bound counts entry query.conjuncts

  abbrev list_by_conjuncts : ℕ → ColumnLists → List ℕ
  list_by_conjuncts entry lists = filtered_list lists entry query.conjuncts

  parts_are : (tables : Tables) (cs : List Edge)
      → sets_by tables (length query.from) (equalities_of query) cs by_conjuncts list_by_conjuncts ≡ sets_known query known tables es cs
  parts_are tables cs =
      ap (λ (s : List Edge). sets_by tables (length query.from) s cs by_conjuncts list_by_conjuncts) joins
      ∙ ap (λ (counted : ℕ → RowCounts → ℕ). sets_by tables (length query.from) es cs counted list_by_conjuncts)
      (fun_ext (λ entry. fun_ext (count_is query entry (known entry) (stands entry))))
      ∙ ap (sets_by tables (length query.from) es cs (λ entry counts. count_known query entry (known entry) counts))
      (fun_ext (λ entry. fun_ext (list_is query entry (known entry) (stands entry))))

  by_keys : (schema : Schema) (tables : Tables) (cs : List Edge) → carrying_equalities schema query ≡ cs
      → set_bounds_by_keys schema query tables 1 ≡ sets_known query known tables es cs
  by_keys schema tables cs are =
      ap (λ (s : List Edge). sets_by tables (length query.from) (equalities_of query) s by_conjuncts list_by_conjuncts) are ∙ parts_are tables cs

-- ---- the example with the entries O and C

abbrev one_edge : List Edge
one_edge = edge_of 0 1 1 0 ∷ []

region_joined : equalities_of region_query ≡ one_edge
region_joined = rw (equality_two 0 1 1 0 (λ e. absurd (omega (arith, e))), equality_literal (column_operand 1 1) (operand.Int (pos 3)) refl) refl

abbrev region_own : ℕ → Option (Option ℕ)
region_own zero = Some None
region_own (suc zero) = Some (Some 1)
region_own (suc (suc n)) = None

region_known : (entry : ℕ) → AsKnown region_query entry (region_own entry)
region_known zero = rw (entries_compare op.Eq (column_operand 0 1) (column_operand 1 0), entries_compare op.Eq (column_operand 1 1) (operand.Int (pos 3))) refl
region_known (suc zero) =
    rw (entries_compare op.Eq (column_operand 0 1) (column_operand 1 0), entries_compare op.Eq (column_operand 1 1) (operand.Int (pos 3))) refl
region_known (suc (suc n)) = refl

plain_computed : sets_known region_query region_own region_tables one_edge [] ≡ 1 ∷ 5 ∷ 1 ∷ 4 ∷ []
unfolding entries_of_set cuts rest list_of_value list_of_node
plain_computed = refl

keyed_computed : sets_known region_query region_own region_tables one_edge one_edge ≡ 1 ∷ 5 ∷ 1 ∷ 1 ∷ []
unfolding entries_of_set cuts rest list_of_value list_of_node
keyed_computed = refl

stray_computed : sets_known region_query region_own stray_order_tables one_edge one_edge ≡ 1 ∷ 6 ∷ 1 ∷ 1 ∷ []
unfolding entries_of_set cuts rest list_of_value list_of_node
stray_computed = refl

pub region_plain : set_bounds_of region_query region_tables 1 ≡ 1 ∷ 5 ∷ 1 ∷ 4 ∷ []
region_plain = parts_are region_query one_edge region_joined region_own region_known region_tables [] ∙ plain_computed

pub region_keyed : set_bounds_by_keys orders_and_customers region_query region_tables 1 ≡ 1 ∷ 5 ∷ 1 ∷ 1 ∷ []
region_keyed = by_keys region_query one_edge region_joined region_own region_known orders_and_customers region_tables one_edge shop_carriers ∙ keyed_computed

pub region_stray : set_bounds_by_keys orders_and_customers region_query stray_order_tables 1 ≡ 1 ∷ 6 ∷ 1 ∷ 1 ∷ []
region_stray = by_keys region_query one_edge region_joined region_own region_known orders_and_customers stray_order_tables one_edge shop_carriers ∙ stray_computed

pub region_undeclared : set_bounds_by_keys undeclared_schema region_query region_tables 1 ≡ 1 ∷ 5 ∷ 1 ∷ 4 ∷ []
region_undeclared = by_keys region_query one_edge region_joined region_own region_known undeclared_schema region_tables [] undeclared_carriers ∙ plain_computed

-- ---- the example of workers and bosses

manager_joined : equalities_of manager_query ≡ one_edge
manager_joined = rw (equality_two 0 1 1 0 (λ e. absurd (omega (arith, e))), equality_literal (column_operand 1 2) (operand.Int (pos 3)) refl) refl

abbrev manager_own : ℕ → Option (Option ℕ)
manager_own zero = Some None
manager_own (suc zero) = Some (Some 2)
manager_own (suc (suc n)) = None

manager_known : (entry : ℕ) → AsKnown manager_query entry (manager_own entry)
manager_known zero = rw (entries_compare op.Eq (column_operand 0 1) (column_operand 1 0), entries_compare op.Eq (column_operand 1 2) (operand.Int (pos 3))) refl
manager_known (suc zero) =
    rw (entries_compare op.Eq (column_operand 0 1) (column_operand 1 0), entries_compare op.Eq (column_operand 1 2) (operand.Int (pos 3))) refl
manager_known (suc (suc n)) = refl

manager_computed : sets_known manager_query manager_own worker_tables one_edge one_edge ≡ 1 ∷ 5 ∷ 1 ∷ 2 ∷ []
unfolding entries_of_set cuts rest list_of_value list_of_node
manager_computed = refl

manager_alone : sets_known manager_query manager_own worker_tables one_edge [] ≡ 1 ∷ 5 ∷ 1 ∷ 3 ∷ []
unfolding entries_of_set cuts rest list_of_value list_of_node
manager_alone = refl

pub manager_plain : set_bounds_of manager_query worker_tables 1 ≡ 1 ∷ 5 ∷ 1 ∷ 3 ∷ []
manager_plain = parts_are manager_query one_edge manager_joined manager_own manager_known worker_tables [] ∙ manager_alone

pub manager_keyed : set_bounds_by_keys worker_schema manager_query worker_tables 1 ≡ 1 ∷ 5 ∷ 1 ∷ 2 ∷ []
manager_keyed = by_keys manager_query one_edge manager_joined manager_own manager_known worker_schema worker_tables one_edge worker_carriers ∙ manager_computed

-- ---- the example of trades between customers

abbrev two_edges : List Edge
two_edges = edge_of 0 1 1 0 ∷ edge_of 0 2 2 0 ∷ []

both_joined : equalities_of two_references_query ≡ two_edges
both_joined = rw (
  equality_two 0 1 1 0 (λ e. absurd (omega (arith, e))),
  equality_two 0 2 2 0 (λ e. absurd (omega (arith, e))),
  equality_literal (column_operand 1 1) (operand.Int (pos 3)) refl,
  equality_literal (column_operand 2 1) (operand.Int (pos 3)) refl,
) refl

abbrev both_own : ℕ → Option (Option ℕ)
both_own zero = Some None
both_own (suc zero) = Some (Some 1)
both_own (suc (suc zero)) = Some (Some 1)
both_own (suc (suc (suc n))) = None

both_known : (entry : ℕ) → AsKnown two_references_query entry (both_own entry)
both_known zero = rw (
  entries_compare op.Eq (column_operand 0 1) (column_operand 1 0),
  entries_compare op.Eq (column_operand 0 2) (column_operand 2 0),
  entries_compare op.Eq (column_operand 1 1) (operand.Int (pos 3)),
  entries_compare op.Eq (column_operand 2 1) (operand.Int (pos 3)),
) refl
both_known (suc zero) = rw (
  entries_compare op.Eq (column_operand 0 1) (column_operand 1 0),
  entries_compare op.Eq (column_operand 0 2) (column_operand 2 0),
  entries_compare op.Eq (column_operand 1 1) (operand.Int (pos 3)),
  entries_compare op.Eq (column_operand 2 1) (operand.Int (pos 3)),
) refl
both_known (suc (suc zero)) = rw (
  entries_compare op.Eq (column_operand 0 1) (column_operand 1 0),
  entries_compare op.Eq (column_operand 0 2) (column_operand 2 0),
  entries_compare op.Eq (column_operand 1 1) (operand.Int (pos 3)),
  entries_compare op.Eq (column_operand 2 1) (operand.Int (pos 3)),
) refl
both_known (suc (suc (suc n))) = refl

both_computed : sets_known two_references_query both_own trade_tables two_edges two_edges ≡ 1 ∷ 5 ∷ 1 ∷ 2 ∷ 1 ∷ 2 ∷ 1 ∷ 1 ∷ []
unfolding entries_of_set cuts rest list_of_value list_of_node
both_computed = refl

both_alone : sets_known two_references_query both_own trade_tables two_edges [] ≡ 1 ∷ 5 ∷ 1 ∷ 3 ∷ 1 ∷ 3 ∷ 1 ∷ 3 ∷ []
unfolding entries_of_set cuts rest list_of_value list_of_node
both_alone = refl

pub both_plain : set_bounds_of two_references_query trade_tables 1 ≡ 1 ∷ 5 ∷ 1 ∷ 3 ∷ 1 ∷ 3 ∷ 1 ∷ 3 ∷ []
both_plain = parts_are two_references_query two_edges both_joined both_own both_known trade_tables [] ∙ both_alone

pub both_keyed : set_bounds_by_keys trade_schema two_references_query trade_tables 1 ≡ 1 ∷ 5 ∷ 1 ∷ 2 ∷ 1 ∷ 2 ∷ 1 ∷ 1 ∷ []
both_keyed = by_keys two_references_query two_edges both_joined both_own both_known trade_schema trade_tables two_edges trade_carriers ∙ both_computed
