use Rattle.std.proofs.Common.{◌≡◌, ◌<◌, ◌-◌, ℕ, List, take, drop, length-drop, min, length, map, ap, sym, subst, ◌∙◌, arith}
use Rattle.std.specs.List.{All, zip}
use Rattle.std.proofs.lemmas.List.{take_all}
use Rattle.std.proofs.lemmas.Result.{IfOk-weaker}
use Rattle.degree_sequences.specs.Compression.{compressed}
use Rattle.degree_sequences.specs.RunningSums.{capped_at}
use Rattle.cond_stats.specs.declared.groups.ValueRun.{ValueRun}
use Rattle.cond_stats.specs.Columns.{CellColumn}
use Rattle.cond_stats.specs.Lists.{maxima, greatest, rest}
use Rattle.cond_stats.specs.Sorted.{degrees_of_run}
use Rattle.cond_stats.proofs.OnDemand.{places_are_rows, places_as_long_as_column, rest_is}
use Rattle.cond_stats.proofs.column.FilterColumn.rest.Goals as goal

pub rest_list-requires-clause-places : goal.rest_list-requires-clause-places
rest_list-requires-clause-places c =
    let same : length c.args.joined.now ≡ length c.self.inside.cells.now = c.requires.joined ∙ ap (λ (v : CellColumn). length v.cells) (sym c.self.view_is) in
    subst (λ (s : List ℕ). All (λ place. place < length c.args.joined.now) s) (sym c.as_slice.ensures.value) (places_are_rows c.self.invariant c.args.joined.now same)

pub rest_list-requires-clause-rows : goal.rest_list-requires-clause-rows
rest_list-requires-clause-rows c =
    let same : length c.args.joined.now ≡ length c.self.inside.cells.now = c.requires.joined ∙ ap (λ (v : CellColumn). length v.cells) (sym c.self.view_is) in
    omega (arith, ap length c.as_slice.ensures.value, places_as_long_as_column c.self.invariant c.args.joined.now same, c.self.invariant.rows)

pub returns : goal.returns
returns c =
    let joined : List ℕ = c.args.joined.now in
    let groups : List ValueRun = c.self.inside.groups.items in
    let same : length joined ≡ length c.self.inside.cells.now = c.requires.joined ∙ ap (λ (v : CellColumn). length v.cells) (sym c.self.view_is) in
    let front : c.min-frequent.result ≡ min (length groups) 32 = c.min-frequent.ensures ∙ ap (λ n. min n 32) (c.len.ensures ∙ sym c.deref.ensures.len ∙ ap length c.deref.ensures.value) in
    let slice : List ValueRun = take (length c.deref.result.now - c.min-frequent.result) (drop c.min-frequent.result c.deref.result.now) in
    let back : slice ≡ drop (min (length groups) 32) groups =
    take_all (length c.deref.result.now - c.min-frequent.result) (drop c.min-frequent.result c.deref.result.now) (omega (arith, length-drop c.min-frequent.result c.deref.result.now)) ∙ ap (λ n. drop n c.deref.result.now) front ∙ ap (drop (min (length groups) 32)) c.deref.ensures.value in
    let list : List ℕ → List ValueRun → List ℕ = λ places gs. compressed c.args.accuracy (capped_at (maxima (map (degrees_of_run joined places) gs)) (greatest (map (λ (g : ValueRun). g.count) gs))) in
    IfOk-weaker c.rest_list.result (λ r. r ≡ list c.as_slice.result.now slice) (λ r. r ≡ rest c.args.accuracy (zip c.args.self.now.cells joined))
    (λ r is. is ∙ ap (λ (s : List ℕ). list s slice) c.as_slice.ensures.value ∙ ap (list c.self.inside.places.items) back
    ∙ rest_is c.self.invariant joined same c.args.accuracy ∙ ap (λ (v : CellColumn). rest c.args.accuracy (zip v.cells joined)) c.self.view_is)
    c.rest_list.ensures
