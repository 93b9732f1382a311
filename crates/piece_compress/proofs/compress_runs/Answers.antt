use Rattle.std.proofs.Common.{ℕ, ◌+◌, ◌*◌, ◌≤◌, List, length, get_or, sum, ap, arith, refl, subst, sym, ◌∙◌}
use Rattle.degree_sequences.specs.Compression.{compressed}
use Rattle.degree_sequences.specs.Domination.{DominatesKeys}
use Rattle.degree_sequences.proofs.CompressedLists.{compressed_dominates, sum-compressed, compressed-near}
use Rattle.degree_sequences.proofs.FewRuns.{compressed_is_short}
use Rattle.piece_math.specs.Expanded.{expanded}
use Rattle.piece_compress.specs.BinaryDigits.{binary_digits}
use Rattle.piece_compress.proofs.DigitCounts.{below_power_of_digits}
use Rattle.piece_compress.proofs.Growing.{growing_empty, growing_ended}
use Rattle.piece_compress.proofs.GrowingRuns.{covered_small, degree_below, head_between, head_within, no_piece, positive, rank_at_end, room_for_run, rows_within, run_covered, run_skipped, growing_runs_start}
use Rattle.piece_compress.proofs.compress_runs.Goals.{then-covered-rows+in_ok-run, else-covered-rows, then-run-gt0+in_ok-finish, else-run-gt0}
use Rattle.piece_compress.proofs.compress_runs.Goals as goal

pub loop-equal-init : goal.loop-equal-init
loop-equal-init c =
    rw c.empty-pieces.ensures
    (growing_runs_start c.args.accuracy c.pieces-runs.result.now c.first_degree-head.result
    (c.first_degree-head.ensures ∙ ap (λ (s : List ℕ). get_or s 0 0) c.pieces-runs.ensures.stands_for))

-- ---- no arithmetic overflows

pub overflow_cast-degree : goal.overflow_cast-degree
overflow_cast-degree c =
    omega (
      arith,
      c.requires.small,
      ap sum c.pieces-runs.ensures.stands_for,
      degree_below c.args.accuracy c.pieces-runs.result.now c.loop-equal.equal-index c.loop-equal.pieces c.loop-equal.run.value c.loop-equal.run.count c.loop-equal.head c.loop-equal.rows c.loop-equal.covered c.pieces-runs.ensures.whole c.loop-equal-test.true c.loop-equal.invariant,
      head_within c.args.accuracy c.pieces-runs.result.now c.loop-equal.equal-index c.loop-equal.pieces c.loop-equal.run.value c.loop-equal.run.count c.loop-equal.head c.loop-equal.rows c.loop-equal.covered c.pieces-runs.ensures.whole c.loop-equal-test.true c.loop-equal.invariant,
    )

pub head_after-head-requires-clause-degree : goal.head_after-head-requires-clause-degree
head_after-head-requires-clause-degree c =
    degree_below c.args.accuracy c.pieces-runs.result.now c.loop-equal.equal-index c.loop-equal.pieces c.loop-equal.run.value c.loop-equal.run.count c.loop-equal.head c.loop-equal.rows c.loop-equal.covered c.pieces-runs.ensures.whole c.loop-equal-test.true c.loop-equal.invariant

pub overflow_mul-rows : goal.overflow_mul-rows
overflow_mul-rows c =
    omega (
      arith,
      c.requires.small,
      ap sum c.pieces-runs.ensures.stands_for,
      rows_within c.args.accuracy c.pieces-runs.result.now c.loop-equal.equal-index c.loop-equal.pieces c.loop-equal.run.value c.loop-equal.run.count c.loop-equal.head c.loop-equal.rows c.loop-equal.covered c.pieces-runs.ensures.whole c.loop-equal-test.true c.loop-equal.invariant,
    )

pub overflow_add-rows : goal.overflow_add-rows
overflow_add-rows c =
    omega (
      arith,
      c.requires.small,
      ap sum c.pieces-runs.ensures.stands_for,
      rows_within c.args.accuracy c.pieces-runs.result.now c.loop-equal.equal-index c.loop-equal.pieces c.loop-equal.run.value c.loop-equal.run.count c.loop-equal.head c.loop-equal.rows c.loop-equal.covered c.pieces-runs.ensures.whole c.loop-equal-test.true c.loop-equal.invariant,
    )

pub div_ceil-times-requires : goal.div_ceil-times-requires
div_ceil-times-requires c =
    omega (
      arith,
      positive c.args.accuracy c.pieces-runs.result.now c.loop-equal.equal-index c.loop-equal.pieces c.loop-equal.run.value c.loop-equal.run.count c.loop-equal.head c.loop-equal.rows c.loop-equal.covered c.pieces-runs.ensures.whole c.loop-equal-test.true c.loop-equal.invariant,
      (head_between c.args.accuracy c.pieces-runs.result.now c.loop-equal.equal-index c.loop-equal.pieces c.loop-equal.run.value c.loop-equal.run.count c.loop-equal.head c.loop-equal.rows c.loop-equal.covered c.pieces-runs.ensures.whole c.loop-equal-test.true c.loop-equal.invariant
          c.head_after-head.result (c.loop-equal.rows + (get_or c.pieces-runs.result.now c.loop-equal.equal-index no_piece).value * (get_or c.pieces-runs.result.now c.loop-equal.equal-index no_piece).count) c.head_after-head.ensures refl).0,
    )

pub extended-requires-clause-positive : goal.extended-requires-clause-positive
extended-requires-clause-positive c =
    omega (
      arith,
      positive c.args.accuracy c.pieces-runs.result.now c.loop-equal.equal-index c.loop-equal.pieces c.loop-equal.run.value c.loop-equal.run.count c.loop-equal.head c.loop-equal.rows c.loop-equal.covered c.pieces-runs.ensures.whole c.loop-equal-test.true c.loop-equal.invariant,
      (head_between c.args.accuracy c.pieces-runs.result.now c.loop-equal.equal-index c.loop-equal.pieces c.loop-equal.run.value c.loop-equal.run.count c.loop-equal.head c.loop-equal.rows c.loop-equal.covered c.pieces-runs.ensures.whole c.loop-equal-test.true c.loop-equal.invariant
          c.head_after-head.result (c.loop-equal.rows + (get_or c.pieces-runs.result.now c.loop-equal.equal-index no_piece).value * (get_or c.pieces-runs.result.now c.loop-equal.equal-index no_piece).count) c.head_after-head.ensures refl).0,
    )

pub extended-requires-clause-lower : goal.extended-requires-clause-lower
extended-requires-clause-lower c =
    omega (
      arith,
      c.loop-equal.invariant.growing.lower,
      (head_between c.args.accuracy c.pieces-runs.result.now c.loop-equal.equal-index c.loop-equal.pieces c.loop-equal.run.value c.loop-equal.run.count c.loop-equal.head c.loop-equal.rows c.loop-equal.covered c.pieces-runs.ensures.whole c.loop-equal-test.true c.loop-equal.invariant
          c.head_after-head.result (c.loop-equal.rows + (get_or c.pieces-runs.result.now c.loop-equal.equal-index no_piece).value * (get_or c.pieces-runs.result.now c.loop-equal.equal-index no_piece).count) c.head_after-head.ensures refl).1,
    )

pub extended-requires-clause-room : goal.extended-requires-clause-room
extended-requires-clause-room c =
    omega (
      arith,
      c.requires.small,
      ap sum c.pieces-runs.ensures.stands_for,
      room_for_run c.args.accuracy c.pieces-runs.result.now c.loop-equal.equal-index c.loop-equal.pieces c.loop-equal.run.value c.loop-equal.run.count c.loop-equal.head c.loop-equal.rows c.loop-equal.covered c.pieces-runs.ensures.whole c.loop-equal-test.true c.loop-equal.invariant
          c.head_after-head.result (c.loop-equal.rows + (get_or c.pieces-runs.result.now c.loop-equal.equal-index no_piece).value * (get_or c.pieces-runs.result.now c.loop-equal.equal-index no_piece).count) c.head_after-head.ensures refl
          c.div_ceil-times.result c.if-covered-rows.true c.div_ceil-times.ensures,
    )

pub overflow_mul-covered : goal.overflow_mul-covered
overflow_mul-covered c =
    omega (
      arith,
      c.requires.small,
      ap sum c.pieces-runs.ensures.stands_for,
      covered_small c.args.accuracy c.pieces-runs.result.now c.loop-equal.equal-index c.loop-equal.pieces c.loop-equal.run.value c.loop-equal.run.count c.loop-equal.head c.loop-equal.rows c.loop-equal.covered c.pieces-runs.ensures.whole c.loop-equal-test.true c.loop-equal.invariant
          c.head_after-head.result (c.loop-equal.rows + (get_or c.pieces-runs.result.now c.loop-equal.equal-index no_piece).value * (get_or c.pieces-runs.result.now c.loop-equal.equal-index no_piece).count) c.head_after-head.ensures refl
          c.div_ceil-times.result c.if-covered-rows.true c.div_ceil-times.ensures,
    )

pub overflow_add-covered : goal.overflow_add-covered
overflow_add-covered c =
    omega (
      arith,
      c.requires.small,
      ap sum c.pieces-runs.ensures.stands_for,
      covered_small c.args.accuracy c.pieces-runs.result.now c.loop-equal.equal-index c.loop-equal.pieces c.loop-equal.run.value c.loop-equal.run.count c.loop-equal.head c.loop-equal.rows c.loop-equal.covered c.pieces-runs.ensures.whole c.loop-equal-test.true c.loop-equal.invariant
          c.head_after-head.result (c.loop-equal.rows + (get_or c.pieces-runs.result.now c.loop-equal.equal-index no_piece).value * (get_or c.pieces-runs.result.now c.loop-equal.equal-index no_piece).count) c.head_after-head.ensures refl
          c.div_ceil-times.result c.if-covered-rows.true c.div_ceil-times.ensures,
    )

-- ---- the loop over the runs

pub loop-equal-preserved : goal.loop-equal-preserved
loop-equal-preserved c = elim c.if-covered-rows.branch [
  | then-covered-rows+in_ok-run w ↦ (let value_is = w.in_ok-run.ensures.value in
      rw (w.pieces-is, w.run-is, w.covered-is, value_is) (run_covered c.args.accuracy c.pieces-runs.result.now c.loop-equal.equal-index c.loop-equal.pieces c.loop-equal.run.value c.loop-equal.run.count c.loop-equal.head c.loop-equal.rows c.loop-equal.covered c.pieces-runs.ensures.whole c.loop-equal-test.true c.loop-equal.invariant
      c.head_after-head.result (c.loop-equal.rows + (get_or c.pieces-runs.result.now c.loop-equal.equal-index no_piece).value * (get_or c.pieces-runs.result.now c.loop-equal.equal-index no_piece).count) c.head_after-head.ensures refl
      w.div_ceil-times.result w.if-covered-rows.true w.div_ceil-times.ensures w.extended.new.pieces c.head_after-head.result w.in_ok-run.run'.count refl
      w.in_ok-run.ensures.more (rw value_is at w.in_ok-run.ensures.before) (rw value_is at w.in_ok-run.ensures.descends)))
  | else-covered-rows w ↦ rw (w.pieces-is, w.run-is, w.covered-is) (run_skipped c.args.accuracy c.pieces-runs.result.now c.loop-equal.equal-index c.loop-equal.pieces c.loop-equal.run.value c.loop-equal.run.count c.loop-equal.head c.loop-equal.rows c.loop-equal.covered c.pieces-runs.ensures.whole c.loop-equal-test.true c.loop-equal.invariant
      c.head_after-head.result (c.loop-equal.rows + (get_or c.pieces-runs.result.now c.loop-equal.equal-index no_piece).value * (get_or c.pieces-runs.result.now c.loop-equal.equal-index no_piece).count) c.head_after-head.ensures refl w.if-covered-rows.false)
]

-- ---- after the loop

pub finish-requires-clause-excess : goal.finish-requires-clause-excess
finish-requires-clause-excess c =
    (growing_ended c.args.accuracy (expanded c.pieces-runs.result.now) c.loop-equal.invariant.rank c.loop-equal.pieces c.loop-equal.run.value c.loop-equal.run.count c.loop-equal.head c.loop-equal.rows c.loop-equal.covered c.loop-equal.invariant.growing
    (rank_at_end c.pieces-runs.result.now c.loop-equal.equal-index c.loop-equal.invariant.rank c.loop-equal.invariant.before (omega arith)) c.if-run-gt0.true).2

pub returns-clause-compressed : goal.returns-clause-compressed
returns-clause-compressed c =
    let end : length (expanded c.pieces-runs.result.now) ≤ c.loop-equal.invariant.rank = rank_at_end c.pieces-runs.result.now c.loop-equal.equal-index c.loop-equal.invariant.rank c.loop-equal.invariant.before (omega arith) in
    elim c.if-run-gt0.branch [
      | then-run-gt0+in_ok-finish w ↦ (let run_ended = growing_ended c.args.accuracy (expanded c.pieces-runs.result.now) c.loop-equal.invariant.rank c.loop-equal.pieces c.loop-equal.run.value c.loop-equal.run.count c.loop-equal.head c.loop-equal.rows c.loop-equal.covered c.loop-equal.invariant.growing end w.if-run-gt0.true in
          w.pieces-is ∙ w.in_ok-finish.ensures ∙ (rw run_ended.0 (c.loop-equal.invariant.growing.complete w.if-run-gt0.true run_ended.1)))
      | else-run-gt0 w ↦ w.pieces-is ∙ growing_empty c.args.accuracy (expanded c.pieces-runs.result.now) c.loop-equal.invariant.rank c.loop-equal.pieces c.loop-equal.run.value c.loop-equal.run.count c.loop-equal.head c.loop-equal.rows c.loop-equal.covered c.loop-equal.invariant.growing end w.if-run-gt0.false
    ]
    ∙ ap (compressed c.args.accuracy) (sym c.pieces-runs.ensures.stands_for)

pub returns-clause-dominates : goal.returns-clause-dominates
returns-clause-dominates c = λ keys same.
    rw (returns-clause-compressed c) (subst (λ (f : List ℕ). DominatesKeys (compressed c.args.accuracy f) keys) same (compressed_dominates c.args.accuracy keys))

pub returns-clause-sum : goal.returns-clause-sum
returns-clause-sum c = rw (returns-clause-compressed c) (sum-compressed c.args.accuracy c.args.falling.now c.pieces-runs.ensures.list_falls)

pub returns-clause-near : goal.returns-clause-near
returns-clause-near c = rw (returns-clause-compressed c) (compressed-near c.args.accuracy c.args.falling.now c.pieces-runs.ensures.list_falls)

pub returns-clause-few_pieces : goal.returns-clause-few_pieces
returns-clause-few_pieces c =
    let f : List ℕ = c.args.falling.now in
    rw (returns-clause-compressed c) (compressed_is_short c.args.accuracy c.value.ensures.range.0 f c.pieces-runs.ensures.list_falls c.pieces-runs.ensures.positive (binary_digits (get_or f 0 0)) (below_power_of_digits (get_or f 0 0)))
