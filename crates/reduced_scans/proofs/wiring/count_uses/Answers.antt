use Rattle.std.proofs.Common.{arith, ◌≡◌, ◌+◌, ◌*◌, ◌<◌, ◌≤◌, ℕ, List, length, get_or}
use Rattle.std.specs.Prelude.{All}
use Rattle.limits.specs.Profile.{most_rows}
use Rattle.berge_tree.specs.declared.edges.Edge.{Edge}
use Rattle.row_buf.specs.Rows.{Rows}
use Rattle.join_steps.specs.Lists.{list_at, lists_of}
use Rattle.reduced_scans.proofs.OfQuery.{read_list_within_limit}
use Rattle.reduced_scans.proofs.wiring.count_uses.Goals as goal

abbrev nothing : Edge
nothing = record { left = record { entry = 0; column = 0 }; right = record { entry = 0; column = 0 } }

sides_within_limit : (scans : List (Rows ℕ)) (equalities : List Edge) → All (λ e. (e.left.entry < length scans) × (e.right.entry < length scans)) equalities
    → ((entry : ℕ) → length (list_at (lists_of scans) entry) ≤ most_rows) → (k : ℕ) (left right : Rows ℕ) → k < length equalities
    → left ≡ get_or scans (get_or equalities k nothing).left.entry left → right ≡ get_or scans (get_or equalities k nothing).right.entry right
    → length left.items + length right.items ≤ 2 * most_rows
sides_within_limit scans equalities entries short k left right k_in_range is_left is_right =
    let e : Edge = get_or equalities k nothing in
    let sides : (e.left.entry < length scans) × (e.right.entry < length scans) = entries k nothing k_in_range in
    omega (arith, read_list_within_limit scans short e.left.entry left sides.0 is_left, read_list_within_limit scans short e.right.entry right sides.1 is_right)

pub overflow_add-count : goal.overflow_add-count
overflow_add-count c =
    let sides_fit = sides_within_limit c.args.scans.now c.args.equalities.now c.requires.entries c.requires.sizes c.equalities.edge-index c.index-scans-edge.result c.index-scans-edge-in-equalities.result
    (omega arith) c.index-scans-edge.is c.index-scans-edge-in-equalities.is in
    omega (arith, sides_fit, c.len.ensures, c.len-in-equalities.ensures)

pub overflow_add-count-in-equalities : goal.overflow_add-count-in-equalities
overflow_add-count-in-equalities c =
    let sides_fit = sides_within_limit c.args.scans.now c.args.equalities.now c.requires.entries c.requires.sizes c.equalities.edge-index c.index-scans-edge.result c.index-scans-edge-in-equalities.result
    (omega arith) c.index-scans-edge.is c.index-scans-edge-in-equalities.is in
    omega (arith, sides_fit, c.len.ensures, c.len-in-equalities.ensures, c.equalities.invariant, c.requires.few)

pub equalities-preserved : goal.equalities-preserved
equalities-preserved c =
    let sides_fit = sides_within_limit c.args.scans.now c.args.equalities.now c.requires.entries c.requires.sizes c.equalities.edge-index c.index-scans-edge.result c.index-scans-edge-in-equalities.result
    (omega arith) c.index-scans-edge.is c.index-scans-edge-in-equalities.is in
    omega (arith, sides_fit, c.len.ensures, c.len-in-equalities.ensures, c.equalities.invariant)
