use Rattle.std.proofs.Common.{◌<◌, List, ℕ, length, sym, subst}
use Rattle.std.specs.List.{AllByRecursion}
use Rattle.std.proofs.lemmas.List.Elements.{recursion_from_All}
use Rattle.safebound_plans.proofs.Numbered.{entries_of_levels_exist}
use Rattle.safebound_plans.specs.Orders.{entries_in}
use Rattle.safebound_plans.proofs.memory.order_memory.Goals as goal

pub order_memory-requires-clause-entries : goal.order_memory-requires-clause-entries
order_memory-requires-clause-entries c =
    subst (λ (s : List ℕ). AllByRecursion (λ e. e < length c.args.rows.now) s) (sym c.write_entries.ensures)
    (recursion_from_All (λ e. e < length c.args.rows.now) (entries_in c.args.levels.now) (entries_of_levels_exist (length c.args.rows.now) c.args.levels.now c.in_default.ensures))
