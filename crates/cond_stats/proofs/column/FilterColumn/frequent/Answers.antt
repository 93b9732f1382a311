use Rattle.std.proofs.Common.{◌≡◌, ◌<◌, ℕ, List, take, min, length, map, ap, sym, subst, ◌∙◌}
use Rattle.std.specs.List.{All}
use Rattle.std.proofs.lemmas.List.Elements.{All-take}
use Rattle.cond_stats.specs.declared.groups.ValueRun.{ValueRun}
use Rattle.cond_stats.specs.Columns.{CellColumn}
use Rattle.cond_stats.specs.Frequency.{frequent}
use Rattle.cond_stats.specs.Runs.{value_of_run}
use Rattle.cond_stats.proofs.OnDemand.{frequent_values}
use Rattle.cond_stats.proofs.column.FilterColumn.frequent.Goals as goal
use Rattle.std.proofs.Common.{refl}

pub values_of-requires : goal.values_of-requires
values_of-requires c =
    All-take (λ (g : ValueRun). g.first < length c.self.inside.cells.now) c.min-frequent.result c.deref.result.now
    (subst (λ (gs : List ValueRun). All (λ (g : ValueRun). g.first < length c.self.inside.cells.now) gs) (sym c.deref.ensures.value) c.self.invariant.groups_are.firsts)

pub returns : goal.returns
returns c =
    let groups : List ValueRun = c.self.inside.groups.items in
    let column : List ℕ = c.self.inside.cells.now in
    let front : c.min-frequent.result ≡ min (length groups) 32 = c.min-frequent.ensures ∙ ap (λ n. min n 32) (c.len.ensures ∙ sym c.deref.ensures.len ∙ ap length c.deref.ensures.value) in
    let taken : take c.min-frequent.result c.deref.result.now ≡ take (min (length groups) 32) groups = ap (λ n. take n c.deref.result.now) front ∙ ap (take (min (length groups) 32)) c.deref.ensures.value in
    c.from_vec.ensures ∙ c.in_ok-values.ensures ∙ ap (map (value_of_run column)) taken
    ∙ frequent_values c.self.invariant column refl ∙ ap (λ (v : CellColumn). frequent v.cells) c.self.view_is
