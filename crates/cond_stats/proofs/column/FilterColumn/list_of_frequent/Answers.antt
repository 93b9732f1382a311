use Rattle.std.proofs.Common.{◌≡◌, ◌<◌, ◌+◌, ◌-◌, ℕ, eqb, List, take, drop, min, length, map, ap, sym, subst, ◌∙◌}
use Rattle.std.specs.List.{All, Contains, zip, list_any}
use Rattle.std.specs.Prelude.{slice_range}
use Rattle.std.proofs.lemmas.List.Elements.{All-take, All-drop}
use Rattle.cond_stats.specs.declared.groups.ValueRun.{ValueRun}
use Rattle.cond_stats.specs.Columns.{CellColumn}
use Rattle.cond_stats.specs.Lists.{is_frequent, compressed_degrees, keys_with}
use Rattle.cond_stats.specs.Runs.{value_of_run}
use Rattle.cond_stats.specs.Sorted.{keys_at}
use Rattle.cond_stats.proofs.OnDemand.{places_are_rows, frequent_by_runs, found_is_frequent, group_list}
use Rattle.cond_stats.proofs.column.FilterColumn.list_of_frequent.Goals as goal

pub run_of_cell-requires : goal.run_of_cell-requires
run_of_cell-requires c =
    All-take (λ (g : ValueRun). g.first < length c.self.inside.cells.now) c.min-frequent.result c.deref.result.now
    (subst (λ (gs : List ValueRun). All (λ (g : ValueRun). g.first < length c.self.inside.cells.now) gs) (sym c.deref.ensures.value) c.self.invariant.groups_are.firsts)

pub list_at-requires-clause-places : goal.list_at-requires-clause-places
list_at-requires-clause-places c =
    let same : length c.args.joined.now ≡ length c.self.inside.cells.now = c.requires.joined ∙ ap (λ (v : CellColumn). length v.cells) (sym c.self.view_is) in
    let all : All (λ place. place < length c.args.joined.now) c.deref-in-Some.result.now =
    subst (λ (s : List ℕ). All (λ place. place < length c.args.joined.now) s) (sym c.deref-in-Some.ensures.value) (places_are_rows c.self.invariant c.args.joined.now same) in
    All-take (λ place. place < length c.args.joined.now) ((c.in-Some.group.start + c.in-Some.group.count) - c.in-Some.group.start) (drop c.in-Some.group.start c.deref-in-Some.result.now)
    (All-drop (λ place. place < length c.args.joined.now) c.in-Some.group.start c.deref-in-Some.result.now all)

pub returns-in_ok-list-in-Some : goal.returns-in_ok-list-in-Some
returns-in_ok-list-in-Some c =
    let joined : List ℕ = c.args.joined.now in
    let groups : List ValueRun = c.self.inside.groups.items in
    let column : List ℕ = c.self.inside.cells.now in
    let group : ValueRun = c.in-Some.group in
    let same : length joined ≡ length column = c.requires.joined ∙ ap (λ (v : CellColumn). length v.cells) (sym c.self.view_is) in
    let front : c.min-frequent.result ≡ min (length groups) 32 = c.min-frequent.ensures ∙ ap (λ n. min n 32) (c.len.ensures ∙ sym c.deref.ensures.len ∙ ap length c.deref.ensures.value) in
    let taken : take c.min-frequent.result c.deref.result.now ≡ take (min (length groups) 32) groups = ap (λ n. take n c.deref.result.now) front ∙ ap (take (min (length groups) 32)) c.deref.ensures.value in
    let there : Contains (take (min (length groups) 32) groups) group = subst (λ (gs : List ValueRun). Contains gs group) taken c.in-Some.ensures.0 in
    let value : value_of_run column group ≡ c.args.cell = c.in-Some.ensures.1 in (
      sym (ap (λ (v : CellColumn). is_frequent (zip v.cells joined) c.args.cell) c.self.view_is) ∙ found_is_frequent c.self.invariant joined same c.args.cell group there value,
      c.in_ok-list-in-Some.ensures
          ∙ ap (λ (s : List ℕ). compressed_degrees c.args.accuracy (keys_at joined (slice_range s group.start (group.start + group.count)))) c.deref-in-Some.ensures.value
          ∙ group_list c.self.invariant joined same c.args.accuracy c.args.cell group (min (length groups) 32) there value
          ∙ ap (λ (v : CellColumn). compressed_degrees c.args.accuracy (keys_with c.args.cell (zip v.cells joined))) c.self.view_is,
    )

pub returns-in-None : goal.returns-in-None
returns-in-None c =
    let joined : List ℕ = c.args.joined.now in
    let groups : List ValueRun = c.self.inside.groups.items in
    let column : List ℕ = c.self.inside.cells.now in
    let same : length joined ≡ length column = c.requires.joined ∙ ap (λ (v : CellColumn). length v.cells) (sym c.self.view_is) in
    let front : c.min-frequent.result ≡ min (length groups) 32 = c.min-frequent.ensures ∙ ap (λ n. min n 32) (c.len.ensures ∙ sym c.deref.ensures.len ∙ ap length c.deref.ensures.value) in
    let taken : take c.min-frequent.result c.deref.result.now ≡ take (min (length groups) 32) groups = ap (λ n. take n c.deref.result.now) front ∙ ap (take (min (length groups) 32)) c.deref.ensures.value in
    sym (frequent_by_runs c.self.invariant joined same c.args.cell ∙ ap (λ (v : CellColumn). is_frequent (zip v.cells joined) c.args.cell) c.self.view_is)
    ∙ ap (λ (gs : List ValueRun). list_any (λ v. eqb v c.args.cell) (map (value_of_run column) gs)) (sym taken) ∙ c.in-None.ensures
