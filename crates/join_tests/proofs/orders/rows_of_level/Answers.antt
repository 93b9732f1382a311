use Rattle.std.proofs.Common.{ℕ, ◌<◌, length, refl, sym, subst}
use Rattle.std.specs.List.{AllByRecursion}
use Rattle.tree_rows.specs.Nodes.{node_at}
use Rattle.join_tests.specs.Examples.{t_r_s}
use Rattle.join_tests.proofs.OrderLevels.{low_entries}
use Rattle.join_tests.proofs.orders.rows_of_level.Goals as goal

pub rows_of-requires : goal.rows_of-requires
rows_of-requires c =
    let nodes = c.args.done.now.nodes in
    let levels = c.requires.levels in
    let k = c.args.k in
    let place = c.level_node.ensures t_r_s.order refl in
    record {
      node = subst (λ (m : ℕ). m < length nodes) (sym place) (levels.there k c.requires.some c.requires.within);
      within = subst (λ (m : ℕ). AllByRecursion (λ entry. entry < 3) (node_at nodes m).entries) (sym place)
          (subst (AllByRecursion (λ entry. entry < 3)) (sym (levels.entries k c.requires.some c.requires.within)) (low_entries k c.requires.some c.requires.within));
    }
