use Rattle.std.proofs.Common.{◌≡◌, ◌*◌, ◌/◌, ◌<◌, min, arith, inl, inr}
use Rattle.degree_sequences.specs.RunningSums.{running_sum}
use Rattle.degree_sequences.specs.Saturation.{saturated}
use Rattle.piece_math.specs.Expanded.{IsAppended}
use Rattle.piece_math.specs.PiecePlaces.{ahead_of, rest_from}
use Rattle.piece_math.proofs.Building.{run_falls, run_fits}
use Rattle.piece_math.proofs.Grouping.{grouped_start, grouped_falls, grouped_fits, grouped_end, grouped_smaller, block_positive, mixed_run, mixed_step, full_blocks_run, full_blocks_step, full_blocks_runs, block_exceeds_run, block_fits_run, blocks_fit_run}
use Rattle.piece_math.proofs.blocks.grouped.Goals as goal
use Rattle.piece_math.proofs.blocks.grouped.Goals.{then-loop-at-test+else-row-rows, else-loop-at-test}

pub nonzero_div-whole : goal.nonzero_div-whole
nonzero_div-whole c = rw c.ahead-block.ensures (block_positive c.pieces-blocks.result.now c.loop-at.at.at c.loop-at.at.used c.pieces-blocks.ensures.whole.descends c.loop-at-test.true)

pub loop-at-init : goal.loop-at-init
loop-at-init c = rw c.in_ok-list.ensures (grouped_start c.pieces-blocks.result.now c.pieces-rows.result.now c.pieces-blocks.ensures.whole c.pieces-rows.ensures.whole)

-- these goals are about a block over several runs of rows

pub put-requires-clause-descends : goal.put-requires-clause-descends
put-requires-clause-descends c =
    let mixed_is : c.block_from-mixed.result.sum ≡ saturated (running_sum (rest_from c.pieces-rows.result.now c.loop-at.row) (ahead_of c.pieces-blocks.result.now c.loop-at.at).value) = rw c.ahead-block.ensures at c.block_from-mixed.ensures.sum in
    rw mixed_is (λ pos some. run_falls c.loop-at.invariant.built (mixed_run c.pieces-blocks.ensures.whole c.pieces-rows.ensures.whole c.loop-at.invariant c.loop-at-test.true) (grouped_falls c.pieces-blocks.ensures.whole c.pieces-rows.ensures.whole) some)

pub put-requires-clause-room : goal.put-requires-clause-room
put-requires-clause-room c =
    let mixed_is : c.block_from-mixed.result.sum ≡ saturated (running_sum (rest_from c.pieces-rows.result.now c.loop-at.row) (ahead_of c.pieces-blocks.result.now c.loop-at.at).value) = rw c.ahead-block.ensures at c.block_from-mixed.ensures.sum in
    rw mixed_is (λ pos some. omega (arith, grouped_fits c.pieces-blocks.ensures.whole c.pieces-rows.ensures.whole, run_fits c.loop-at.invariant.built (mixed_run c.pieces-blocks.ensures.whole c.pieces-rows.ensures.whole c.loop-at.invariant c.loop-at-test.true) pos))

pub loop-at-smaller-then-whole-eq0 : goal.loop-at-smaller-then-whole-eq0
loop-at-smaller-then-whole-eq0 c = grouped_smaller c.pieces-blocks.ensures.whole c.pieces-rows.ensures.whole c.loop-at.invariant c.loop-at-test.true c.place_after-at.result 1 c.place_after-at.ensures.rest (omega arith)

pub loop-at-preserved-then-whole-eq0 : goal.loop-at-preserved-then-whole-eq0
loop-at-preserved-then-whole-eq0 c =
    let mixed_is : c.block_from-mixed.result.sum ≡ saturated (running_sum (rest_from c.pieces-rows.result.now c.loop-at.row) (ahead_of c.pieces-blocks.result.now c.loop-at.at).value) = rw c.ahead-block.ensures at c.block_from-mixed.ensures.sum in
    let none : (ahead_of c.pieces-rows.result.now c.loop-at.row).count / (ahead_of c.pieces-blocks.result.now c.loop-at.at).value ≡ 0 = rw (c.from.ensures, c.ahead-run.ensures, c.ahead-block.ensures) at c.if-whole-eq0.true in
    let short : (ahead_of c.pieces-rows.result.now c.loop-at.row).count < c.ahead-block.result.value = rw c.ahead-block.ensures (block_exceeds_run (ahead_of c.pieces-rows.result.now c.loop-at.row).count (ahead_of c.pieces-blocks.result.now c.loop-at.at).value (block_positive c.pieces-blocks.result.now c.loop-at.at.at c.loop-at.at.used c.pieces-blocks.ensures.whole.descends c.loop-at-test.true) none) in
    mixed_step c.pieces-blocks.ensures.whole c.pieces-rows.ensures.whole c.loop-at.invariant c.loop-at-test.true (rw mixed_is at c.in_ok-put.ensures)
    c.place_after-at.ensures.rest (rw c.ahead-block.ensures at c.block_from-mixed.ensures.rest) c.place_after-at.ensures.place c.block_from-mixed.ensures.next
    c.place_after-at.ensures.stays (c.block_from-mixed.ensures.onward c.if-row-rows.true short)

-- these goals are about whole blocks within one run of rows

pub put-requires-else-whole-eq0-clause-descends : goal.put-requires-else-whole-eq0-clause-descends
put-requires-else-whole-eq0-clause-descends c =
    let count_is : c.min-count.result ≡ min ((ahead_of c.pieces-rows.result.now c.loop-at.row).count / (ahead_of c.pieces-blocks.result.now c.loop-at.at).value) (ahead_of c.pieces-blocks.result.now c.loop-at.at).count = rw (c.from.ensures, c.ahead-run.ensures, c.ahead-block.ensures) at c.min-count.ensures in
    let product_is : c.saturating_mul.result ≡ saturated ((ahead_of c.pieces-blocks.result.now c.loop-at.at).value * (ahead_of c.pieces-rows.result.now c.loop-at.row).value) = rw (c.ahead-block.ensures, c.ahead-run.ensures) at c.saturating_mul.ensures in
    rw product_is (λ pos some. run_falls c.loop-at.invariant.built (full_blocks_run c.pieces-blocks.ensures.whole c.pieces-rows.ensures.whole c.loop-at.invariant (omega (arith, count_is)) (blocks_fit_run (ahead_of c.pieces-rows.result.now c.loop-at.row).count (ahead_of c.pieces-blocks.result.now c.loop-at.at).value c.min-count.result (block_positive c.pieces-blocks.result.now c.loop-at.at.at c.loop-at.at.used c.pieces-blocks.ensures.whole.descends c.loop-at-test.true) (omega (arith, count_is)))) (grouped_falls c.pieces-blocks.ensures.whole c.pieces-rows.ensures.whole) some)

pub put-requires-else-whole-eq0-clause-room : goal.put-requires-else-whole-eq0-clause-room
put-requires-else-whole-eq0-clause-room c =
    let count_is : c.min-count.result ≡ min ((ahead_of c.pieces-rows.result.now c.loop-at.row).count / (ahead_of c.pieces-blocks.result.now c.loop-at.at).value) (ahead_of c.pieces-blocks.result.now c.loop-at.at).count = rw (c.from.ensures, c.ahead-run.ensures, c.ahead-block.ensures) at c.min-count.ensures in
    let product_is : c.saturating_mul.result ≡ saturated ((ahead_of c.pieces-blocks.result.now c.loop-at.at).value * (ahead_of c.pieces-rows.result.now c.loop-at.row).value) = rw (c.ahead-block.ensures, c.ahead-run.ensures) at c.saturating_mul.ensures in
    rw product_is (λ pos some. omega (arith, grouped_fits c.pieces-blocks.ensures.whole c.pieces-rows.ensures.whole, run_fits c.loop-at.invariant.built (full_blocks_run c.pieces-blocks.ensures.whole c.pieces-rows.ensures.whole c.loop-at.invariant (omega (arith, count_is)) (blocks_fit_run (ahead_of c.pieces-rows.result.now c.loop-at.row).count (ahead_of c.pieces-blocks.result.now c.loop-at.at).value c.min-count.result (block_positive c.pieces-blocks.result.now c.loop-at.at.at c.loop-at.at.used c.pieces-blocks.ensures.whole.descends c.loop-at-test.true) (omega (arith, count_is)))) pos))

pub loop-at-smaller : goal.loop-at-smaller
loop-at-smaller c =
    let count_is : c.min-count.result ≡ min ((ahead_of c.pieces-rows.result.now c.loop-at.row).count / (ahead_of c.pieces-blocks.result.now c.loop-at.at).value) (ahead_of c.pieces-blocks.result.now c.loop-at.at).count = rw (c.from.ensures, c.ahead-run.ensures, c.ahead-block.ensures) at c.min-count.ensures in
    let whole : (ahead_of c.pieces-rows.result.now c.loop-at.row).count / (ahead_of c.pieces-blocks.result.now c.loop-at.at).value ≡ 0 → ⊥ = rw (c.from.ensures, c.ahead-run.ensures, c.ahead-block.ensures) at c.if-whole-eq0.false in
    grouped_smaller c.pieces-blocks.ensures.whole c.pieces-rows.ensures.whole c.loop-at.invariant c.loop-at-test.true c.place_after-at-else-whole-eq0.result c.min-count.result c.place_after-at-else-whole-eq0.ensures.rest
    (omega (arith, count_is, whole, c.loop-at.invariant.block_place.inside))

pub loop-at-preserved : goal.loop-at-preserved
loop-at-preserved c =
    let count_is : c.min-count.result ≡ min ((ahead_of c.pieces-rows.result.now c.loop-at.row).count / (ahead_of c.pieces-blocks.result.now c.loop-at.at).value) (ahead_of c.pieces-blocks.result.now c.loop-at.at).count = rw (c.from.ensures, c.ahead-run.ensures, c.ahead-block.ensures) at c.min-count.ensures in
    let product_is : c.saturating_mul.result ≡ saturated ((ahead_of c.pieces-blocks.result.now c.loop-at.at).value * (ahead_of c.pieces-rows.result.now c.loop-at.row).value) = rw (c.ahead-block.ensures, c.ahead-run.ensures) at c.saturating_mul.ensures in
    let whole : (ahead_of c.pieces-rows.result.now c.loop-at.row).count / (ahead_of c.pieces-blocks.result.now c.loop-at.at).value ≡ 0 → ⊥ = rw (c.from.ensures, c.ahead-run.ensures, c.ahead-block.ensures) at c.if-whole-eq0.false in
    let put : IsAppended c.loop-at.list c.put-else-whole-eq0.new.self (saturated ((ahead_of c.pieces-blocks.result.now c.loop-at.at).value * (ahead_of c.pieces-rows.result.now c.loop-at.row).value)) c.min-count.result = rw product_is at c.in_ok-put-2.ensures in
    full_blocks_step c.pieces-blocks.ensures.whole c.pieces-rows.ensures.whole c.loop-at.invariant (omega (arith, count_is)) (blocks_fit_run (ahead_of c.pieces-rows.result.now c.loop-at.row).count (ahead_of c.pieces-blocks.result.now c.loop-at.at).value c.min-count.result (block_positive c.pieces-blocks.result.now c.loop-at.at.at c.loop-at.at.used c.pieces-blocks.ensures.whole.descends c.loop-at-test.true) (omega (arith, count_is))) put
    c.place_after-at-else-whole-eq0.ensures.rest (rw c.ahead-block.ensures at c.place_after-row.ensures.rest) c.place_after-at-else-whole-eq0.ensures.place c.place_after-row.ensures.place
    (full_blocks_runs c.pieces-blocks.ensures.whole c.pieces-rows.ensures.whole c.loop-at.invariant c.put-else-whole-eq0.new.self c.place_after-at-else-whole-eq0.result c.place_after-row.result c.min-count.result c.loop-at-test.true c.if-row-rows.true (block_positive c.pieces-blocks.result.now c.loop-at.at.at c.loop-at.at.used c.pieces-blocks.ensures.whole.descends c.loop-at-test.true)
    (block_fits_run (ahead_of c.pieces-rows.result.now c.loop-at.row).count (ahead_of c.pieces-blocks.result.now c.loop-at.at).value (block_positive c.pieces-blocks.result.now c.loop-at.at.at c.loop-at.at.used c.pieces-blocks.ensures.whole.descends c.loop-at-test.true) whole) count_is put.few
    c.place_after-at-else-whole-eq0.ensures.stays c.place_after-row.ensures.stays c.place_after-at-else-whole-eq0.ensures.ends c.place_after-at-else-whole-eq0.ensures.within
    (rw c.ahead-block.ensures at c.place_after-row.ensures.ends) (rw c.ahead-block.ensures at c.place_after-row.ensures.within) (blocks_fit_run (ahead_of c.pieces-rows.result.now c.loop-at.row).count (ahead_of c.pieces-blocks.result.now c.loop-at.at).value c.min-count.result (block_positive c.pieces-blocks.result.now c.loop-at.at.at c.loop-at.at.used c.pieces-blocks.ensures.whole.descends c.loop-at-test.true) (omega (arith, count_is))))

pub returns-clause-value : goal.returns-clause-value
returns-clause-value c =
    rw (c.pieces-blocks.ensures.stands_for, c.pieces-rows.ensures.stands_for)
    (grouped_end c.pieces-blocks.ensures.whole c.pieces-rows.ensures.whole c.loop-at.invariant (elim c.loop-at-test.branch [ then-loop-at-test+else-row-rows w ↦ inr w.if-row-rows.false | else-loop-at-test w ↦ inl w.loop-at-test.false ]))
