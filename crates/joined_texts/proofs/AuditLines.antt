-- The audit text is written line by line. The lemmas say which line is next, and that its number of rows is the size of its level or node.
use Rattle.std.proofs.Common.{◌≡◌, ℕ, suc, ◌+◌, ◌-◌, ◌*◌, ◌<◌, ◌≤◌, inl, inr, Bool, List, ◌∷◌, ◌++◌, drop, length, get_or, refl, ap, sym, ◌∙◌, arith, add-one}
use Rattle.std.specs.Prelude.{slice_get}
use Rattle.std.proofs.Math.Seq.{drop-cons}
use Rattle.std.proofs.lemmas.Bool.{cases_eq}
use Rattle.std.proofs.lemmas.List.{get_or-drop, get_or-map, length-drop, length-map}
use Rattle.std.proofs.lemmas.List.FromFn.{get_or-map-range_with_len, length-map-range_with_len}
use Rattle.query_types.specs.declared.types.Source.{Source}
use Rattle.plans.specs.declared.bushy.BushyPlan.{BushyPlan}
use Rattle.plans.specs.declared.bushy.Join.{Join}
use Rattle.plans.specs.Orders.{level_node, order_of_tree, IsOrderTree}
use Rattle.plans.proofs.Building.{level_later}
use Rattle.plans.proofs.Reading.{entry_low}
use Rattle.tree_rows.specs.Nodes.{no_node, node_at, Node}
use Rattle.printed_texts.specs.Plans.{alias_of, audit_line, audit_lines, level_audits}
use Rattle.printed_texts.specs.TreePlans.{node_audit, node_audits}
use Rattle.printed_texts.proofs.PlanLines.{rest_at as left_in}
use Rattle.joined_texts.specs.Printed.{level_counts, rows_of_level, node_counts}

-- ---- the lines of levels

rest_at : (xs : List ℕ) (i x : ℕ) → i < length xs → x ≡ get_or xs i 0 → drop i xs ≡ x ∷ drop (i + 1) xs
rest_at xs i x low at' =
    drop-cons xs i 0 low ∙ ap (λ (y : ℕ). y ∷ drop (suc i) xs) (sym at') ∙ ap (λ (j : ℕ). x ∷ drop j xs) (sym (add-one i))

pub next_audit : (k : ℕ) (sources : List Source) (order bounds counts : List ℕ) (i entry bound rows : ℕ)
    → i < length order → i < length bounds → i < length counts → entry ≡ get_or order i 0 → bound ≡ get_or bounds i 0 → rows ≡ get_or counts i 0
    → level_audits k sources (drop i order) (drop i bounds) (drop i counts)
    ≡ audit_line k (alias_of (slice_get sources entry)) bound rows ++ level_audits (k + 1) sources (drop (i + 1) order) (drop (i + 1) bounds) (drop (i + 1) counts)
next_audit k sources order bounds counts i entry bound rows some more count is at' counted =
    ap (λ (left : List ℕ). level_audits k sources left (drop i bounds) (drop i counts)) (rest_at order i entry some is)
    ∙ ap (λ (left : List ℕ). level_audits k sources (entry ∷ drop (i + 1) order) left (drop i counts)) (rest_at bounds i bound more at')
    ∙ ap (λ (left : List ℕ). level_audits k sources (entry ∷ drop (i + 1) order) (bound ∷ drop (i + 1) bounds) left) (rest_at counts i rows count counted)

-- ---- the numbers of rows of levels

pub count_at : (constants : Bool) (order : List ℕ) (nodes : List Node) (i : ℕ) → i < length order → get_or (level_counts constants order nodes) i 0 ≡ length (rows_of_level constants order nodes (i + 1))
count_at constants order nodes i low = get_or-map-range_with_len (λ k. length (rows_of_level constants order nodes (k + 1))) 0 (length order) i i 0 low (omega arith)

pub count_of_counts : (constants : Bool) (order : List ℕ) (nodes : List Node) → length (level_counts constants order nodes) ≡ length order
count_of_counts constants order nodes = length-map-range_with_len (λ k. length (rows_of_level constants order nodes (k + 1))) 0 (length order)

pub audit_is : (sources from : List Source) (plan : BushyPlan) (nodes : List Node) (constants all : Bool) → sources ≡ from → constants ≡ all
    → level_audits 1 sources (order_of_tree plan).order (order_of_tree plan).levels (level_counts constants (order_of_tree plan).order nodes)
    ≡ audit_lines from (order_of_tree plan) (level_counts all (order_of_tree plan).order nodes)
audit_is sources from plan nodes constants all same_sources same_answer =
    ap (λ (s : List Source). level_audits 1 s (order_of_tree plan).order (order_of_tree plan).levels (level_counts constants (order_of_tree plan).order nodes)) same_sources
    ∙ ap (λ (b : Bool). audit_lines from (order_of_tree plan) (level_counts b (order_of_tree plan).order nodes)) same_answer

-- ---- the nodes of levels

pub level_there : (n : ℕ) (plan : BushyPlan) (k : ℕ) → IsOrderTree n plan → 1 ≤ k → k ≤ n → level_node n (order_of_tree plan).order k + 1 < 2 * n
level_there n plan k is some within = elim (cases_eq k 1) [
  | inl one ↦ (let at' : level_node n (order_of_tree plan).order k ≡ get_or (order_of_tree plan).order 0 0 = ap (level_node n (order_of_tree plan).order) one in
      omega (arith, at', entry_low n plan 0 is (omega (arith, some, within)), some, within))
  | inr later ↦ omega (arith, level_later n (order_of_tree plan).order k (omega (arith, some, later)), within, some, later)
]

-- ---- the lines of inner nodes

pub next_node_audit : (k : ℕ) (joins : List Join) (counts : List ℕ) (i : ℕ) (otherwise : Join) (rows : ℕ) → i < length joins → i < length counts → rows ≡ get_or counts i 0
    → node_audits k (drop i joins) (drop i counts) ≡ node_audit k (get_or joins i otherwise) rows ++ node_audits (k + 1) (drop (i + 1) joins) (drop (i + 1) counts)
next_node_audit k joins counts i otherwise rows some count counted =
    let join : Join = get_or joins i otherwise in
    ap (λ (left : List Join). node_audits k left (drop i counts)) (left_in joins i join otherwise some refl)
    ∙ ap (λ (left : List ℕ). node_audits k (join ∷ drop (i + 1) joins) left) (rest_at counts i rows count counted)

pub node_count_at : (n : ℕ) (nodes : List Node) (i : ℕ) → n + i < length nodes → get_or (node_counts n nodes) i 0 ≡ length (node_at nodes (n + i)).rows
node_count_at n nodes i low =
    get_or-map (λ (node : Node). length node.rows) (drop n nodes) i no_node 0 (omega (arith, low, length-drop n nodes))
    ∙ ap (λ (node : Node). length node.rows) (get_or-drop n nodes i no_node)

pub node_counts_length : (n : ℕ) (nodes : List Node) → length (node_counts n nodes) ≡ length nodes - n
node_counts_length n nodes = length-map (drop n nodes) (λ node. length node.rows) ∙ length-drop n nodes
