-- The plan text of a join tree, and the audit text. A node is named by its number. The leaves come first, numbered from 0 in FROM order, and
-- then the inner nodes.
use Rattle.std.specs.Prelude.{ℕ, ◌+◌, List, [], ◌∷◌, ◌++◌, length, codes, decimal}
use Rattle.query_types.specs.declared.types.Source.{Source}
use Rattle.plans.specs.declared.bushy.BushyPlan.{BushyPlan}
use Rattle.plans.specs.declared.bushy.Join.{Join}
use Rattle.printed_texts.specs.Plans.{rows_and_line_end, scan_lines}

-- `node K LEFT RIGHT BOUND`, without a line end
abbrev pub node_bound : ℕ → Join → List ℕ
node_bound k join =
    codes "node " ++ (decimal k ++ (codes " " ++ (decimal join.left ++ (codes " " ++ (decimal join.right ++ (codes " " ++ decimal join.bound))))))

abbrev pub node_line : ℕ → Join → List ℕ
node_line k join = node_bound k join ++ codes "\n"

-- a line for each inner node; the first node has number k
abbrev pub node_lines : ℕ → List Join → List ℕ
node_lines k [] = []
node_lines k (join ∷ joins) = node_line k join ++ node_lines (k + 1) joins

-- the plan text: a line for each FROM entry's scan, and then a line for each inner node
abbrev pub tree_lines : List Source → BushyPlan → List ℕ
tree_lines sources plan = scan_lines sources plan.scans ++ node_lines (length plan.scans) plan.joins

-- the line `node K LEFT RIGHT BOUND ROWS`
abbrev pub node_audit : ℕ → Join → ℕ → List ℕ
node_audit k join rows = node_bound k join ++ rows_and_line_end rows

-- a line for each inner node with the number of its rows; the first node has number k
abbrev pub node_audits : ℕ → List Join → List ℕ → List ℕ
node_audits k [] counts = []
node_audits k (join ∷ joins) [] = []
node_audits k (join ∷ joins) (rows ∷ counts) = node_audit k join rows ++ node_audits (k + 1) joins counts

-- the audit text: a line for each inner node, with its number of rows from `counts`. For one entry the text is empty
abbrev pub tree_audits : BushyPlan → List ℕ → List ℕ
tree_audits plan counts = node_audits (length plan.scans) plan.joins counts
