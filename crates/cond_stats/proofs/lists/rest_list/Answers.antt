use Rattle.std.proofs.Common.{◌≡◌, ◌<◌, ◌≤◌, length, ◌+◌, ◌++◌, ◌∷◌, [], ℕ, List, map, take, max, get_or, sum, ap, sym, subst, ◌∙◌, arith}
use Rattle.std.specs.List.{All}
use Rattle.std.proofs.lemmas.List.{take_more, take_all, map_push}
use Rattle.std.proofs.lemmas.List.Elements.{All-take, All-weaker, All-from_recursion}
use Rattle.std.proofs.lemmas.Result.{IfOk-weaker}
use Rattle.degree_sequences.specs.ByRank.{rank_maximum}
use Rattle.degree_sequences.specs.Compression.{compressed}
use Rattle.degree_sequences.specs.Descending.{IsDescending}
use Rattle.degree_sequences.specs.RunningSums.{capped_at}
use Rattle.degree_sequences.proofs.DegreeLists.{IsDescending-degree_list}
use Rattle.degree_sequences.proofs.Minima.{IsDescending-capped_at}
use Rattle.cond_stats.specs.declared.groups.ValueRun.{ValueRun}
use Rattle.cond_stats.specs.Lists.{maxima, greatest}
use Rattle.cond_stats.specs.Sorted.{keys_at, LiesWithin, degrees_of_run}
use Rattle.std.specs.Prelude.{slice_range}
use Rattle.piece_math.proofs.Cutting.{positive-capped_at}
use Rattle.cond_stats.proofs.Maxima.{IsDescending-maxima, maxima-push, greatest-push, greatest-le}
use Rattle.cond_stats.proofs.Sums.{sum-capped_at}
use Rattle.cond_stats.proofs.lists.rest_list.Goals as goal

abbrev no_run : ValueRun
no_run = record { first = 0; start = 0; count = 0 }

descends : (row_keys places : List ℕ) (runs : List ValueRun) → IsDescending (maxima (map (degrees_of_run row_keys places) runs))
descends row_keys places runs = IsDescending-maxima (degrees_of_run row_keys places) (λ g. IsDescending-degree_list (keys_at row_keys (slice_range places g.start (g.start + g.count)))) runs

pub loop-run-preserved : goal.loop-run-preserved
loop-run-preserved c =
    let row_keys : List ℕ = c.args.row_keys.now in
    let places : List ℕ = c.args.places.now in
    let runs : List ValueRun = c.args.runs.now in
    let i : ℕ = c.loop-run.run-index in
    let run : ValueRun = get_or runs i no_run in
    let next : take (i + 1) runs ≡ take i runs ++ run ∷ [] = take_more runs i no_run c.loop-run-test.true in (
      c.in_ok-raise_maxima.ensures ∙ ap (λ (s : List ℕ). rank_maximum s c.as_slice.result.now) c.loop-run.invariant.0
          ∙ ap (rank_maximum (maxima (map (degrees_of_run row_keys places) (take i runs)))) (c.as_slice.ensures ∙ c.in_ok-degrees.ensures)
          ∙ sym (maxima-push (map (degrees_of_run row_keys places) (take i runs)) (degrees_of_run row_keys places run))
          ∙ ap maxima (sym (map_push (degrees_of_run row_keys places) (take i runs) run))
          ∙ ap (λ (gs : List ValueRun). maxima (map (degrees_of_run row_keys places) gs)) (sym next),
      c.max-most.ensures ∙ ap (λ (n : ℕ). max n run.count) c.loop-run.invariant.1
          ∙ sym (greatest-push (map (λ (g : ValueRun). g.count) (take i runs)) run.count)
          ∙ ap greatest (sym (map_push (λ (g : ValueRun). g.count) (take i runs) run))
          ∙ ap (λ (gs : List ValueRun). greatest (map (λ (g : ValueRun). g.count) gs)) (sym next),
    )

pub cap_sum-requires : goal.cap_sum-requires
cap_sum-requires c =
    let fall : IsDescending c.loop-run.maxima.items = subst IsDescending (sym c.loop-run.invariant.0) (descends c.args.row_keys.now c.args.places.now (take c.loop-run.run-index c.args.runs.now)) in
    subst IsDescending (sym c.as_slice-2.ensures.value) fall

pub compress-requires-clause-descends : goal.compress-requires-clause-descends
compress-requires-clause-descends c =
    let fall : IsDescending c.as_slice-2.result.now = subst IsDescending (sym (c.as_slice-2.ensures.value ∙ c.loop-run.invariant.0)) (descends c.args.row_keys.now c.args.places.now (take c.loop-run.run-index c.args.runs.now)) in
    subst IsDescending (sym (c.as_slice-3.ensures.value ∙ c.in_ok-list.ensures)) (IsDescending-capped_at c.as_slice-2.result.now c.from.result fall)

pub compress-requires-clause-positive : goal.compress-requires-clause-positive
compress-requires-clause-positive c =
    let fall : IsDescending c.as_slice-2.result.now = subst IsDescending (sym (c.as_slice-2.ensures.value ∙ c.loop-run.invariant.0)) (descends c.args.row_keys.now c.args.places.now (take c.loop-run.run-index c.args.runs.now)) in
    subst (λ (s : List ℕ). All (λ x. 0 < x) s) (sym (c.as_slice-3.ensures.value ∙ c.in_ok-list.ensures))
    (All-from_recursion (λ x. 0 < x) (capped_at c.as_slice-2.result.now c.from.result) (positive-capped_at c.as_slice-2.result.now c.from.result fall))

pub compress-requires-clause-small : goal.compress-requires-clause-small
compress-requires-clause-small c =
    let is : c.as_slice-3.result.now ≡ capped_at c.as_slice-2.result.now c.from.result = c.as_slice-3.ensures.value ∙ c.in_ok-list.ensures in
    let runs : List ValueRun = take c.loop-run.run-index c.args.runs.now in
    let few : greatest (map (λ (g : ValueRun). g.count) runs) ≤ length c.args.places.now =
    greatest-le (λ (g : ValueRun). g.count) runs (length c.args.places.now)
    (All-take (λ (g : ValueRun). g.count ≤ length c.args.places.now) c.loop-run.run-index c.args.runs.now
    (All-weaker (LiesWithin (length c.args.places.now)) (λ (g : ValueRun). g.count ≤ length c.args.places.now) (λ (g : ValueRun) lies. omega (arith, lies)) c.args.runs.now c.requires.runs)) in
    omega (arith, ap sum is, sum-capped_at c.as_slice-2.result.now c.from.result, c.from.ensures, c.loop-run.invariant.1, few, c.requires.rows)

pub returns : goal.returns
returns c =
    let row_keys : List ℕ = c.args.row_keys.now in
    let places : List ℕ = c.args.places.now in
    let runs : List ValueRun = c.args.runs.now in
    let all : take c.loop-run.run-index runs ≡ runs = take_all c.loop-run.run-index runs c.loop-run-test.false in
    let lists : c.as_slice-2.result.now ≡ maxima (map (degrees_of_run row_keys places) runs) =
    c.as_slice-2.ensures.value ∙ c.loop-run.invariant.0 ∙ ap (λ (gs : List ValueRun). maxima (map (degrees_of_run row_keys places) gs)) all in
    let most : c.from.result ≡ greatest (map (λ (g : ValueRun). g.count) runs) =
    c.from.ensures ∙ c.loop-run.invariant.1 ∙ ap (λ (gs : List ValueRun). greatest (map (λ (g : ValueRun). g.count) gs)) all in
    let is : c.as_slice-3.result.now ≡ capped_at (maxima (map (degrees_of_run row_keys places) runs)) (greatest (map (λ (g : ValueRun). g.count) runs)) =
    c.as_slice-3.ensures.value ∙ c.in_ok-list.ensures ∙ ap (λ (s : List ℕ). capped_at s c.from.result) lists ∙ ap (capped_at (maxima (map (degrees_of_run row_keys places) runs))) most in
    IfOk-weaker c.compress.result (λ list. list ≡ compressed c.args.accuracy c.as_slice-3.result.now)
    (λ list. list ≡ compressed c.args.accuracy (capped_at (maxima (map (degrees_of_run row_keys places) runs)) (greatest (map (λ (g : ValueRun). g.count) runs))))
    (λ list same. same ∙ ap (compressed c.args.accuracy) is) c.compress.ensures.compressed
