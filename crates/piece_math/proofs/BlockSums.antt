-- The loop that sums the weights of a block, run by run.
use Rattle.std.proofs.Common.{◌≡◌, ℕ, zero, suc, ◌+◌, ◌-◌, ◌*◌, ◌<◌, ◌≤◌, min, List, [], length, get_or, drop, refl, ap, sym, ◌∙◌, arith, length-drop, inl, inr, ◌⊎◌}
use Rattle.std.proofs.Math.Seq.{drop-nil}
use Rattle.std.proofs.lemmas.Bool.{cases_lt}
use Rattle.std.proofs.lemmas.List.{drop_all}
use Rattle.degree_sequences.proofs.RunningSums.{running_sum-suc, running_sum-past, running_sum-add}
use Rattle.degree_sequences.specs.RunningSums.{running_sum}
use Rattle.degree_sequences.specs.Saturation.{saturated}
use Rattle.piece_math.specs.declared.pieces.Piece.{Piece}
use Rattle.piece_math.specs.declared.walk.PiecePlace.{PiecePlace}
use Rattle.piece_math.specs.PiecePlaces.{rest_from, ahead_of, IsPiecePlace}
use Rattle.piece_math.proofs.PiecePlaces.{drop-drop, equal_ahead}

running_sum-equal : (s : List ℕ) (c x : ℕ) → ((k : ℕ) → k < c → get_or s k 0 ≡ x) → running_sum s c ≡ c * x
running_sum-equal s zero x same = omega arith
running_sum-equal s (suc c) x same = omega (arith, running_sum-suc s c, same c (omega arith), running_sum-equal s c x (λ k h. same k (omega arith)))

-- This is the state of the loop that sums a block of `rows` rows from `start` on. `left` rows aren't summed yet.
pub record BlockSoFar (ps : List Piece) (start : PiecePlace) (rows : ℕ) (next : PiecePlace) (left total : ℕ) : Type 0 where
  pub taken : ℕ
  pub all : taken + left ≡ rows
  pub rest : rest_from ps next ≡ drop taken (rest_from ps start)
  pub sum : total ≡ saturated (running_sum (rest_from ps start) taken)
  pub place : IsPiecePlace ps next
  pub stays : start.at ≤ next.at
  pub fresh : taken ≡ 0 → next ≡ start
  pub onward : 0 < taken → (ahead_of ps start).count < rows → start.at < next.at

pub block_start : (ps : List Piece) (start : PiecePlace) (rows : ℕ) → IsPiecePlace ps start → BlockSoFar ps start rows start rows 0
block_start ps start rows place = record {
  taken = 0;
  all = omega arith;
  rest = refl;
  sum = refl;
  place = place;
  stays = omega arith;
  fresh = λ none. refl;
  onward = λ some. absurd (omega arith);
}

module _ {ps : List Piece} {start next : PiecePlace} {rows left total : ℕ} (so_far : BlockSoFar ps start rows next left total) where
  -- the step sums the next run of rows, or as much of it as the block still needs
  pub block_step : (inside : next.at < length ps) (after : PiecePlace) (count value total' : ℕ) → count ≡ min left (ahead_of ps next).count → value ≡ (ahead_of ps next).value
      → total' ≡ saturated (total + saturated (value * count)) → rest_from ps after ≡ drop count (rest_from ps next) → IsPiecePlace ps after → next.at ≤ after.at
      → (next.at < length ps → count ≡ (ahead_of ps next).count → after.at ≡ next.at + 1) → 0 < left
      → BlockSoFar ps start rows after (left - count) total'
  block_step inside after count value total' count_is value_is total_is rest place stays ends more = record {
    taken = so_far.taken + count;
    all = omega (arith, so_far.all);
    rest = rest ∙ ap (drop count) so_far.rest ∙ drop-drop so_far.taken count (rest_from ps start);
    sum =
        let part : running_sum (drop so_far.taken (rest_from ps start)) count ≡ count * value =
        ap (λ s. running_sum s count) (sym so_far.rest)
        ∙ running_sum-equal (rest_from ps next) count value (λ k h. equal_ahead ps next k (omega arith) ∙ sym value_is) in
        omega (arith, total_is, so_far.sum, running_sum-add (rest_from ps start) so_far.taken count, part);
    place = place;
    stays = omega (arith, so_far.stays);
    fresh = λ none. absurd (omega (arith, so_far.place.inside));
    onward = λ some short. elim (cases_lt 0 so_far.taken) [
      | inl later ↦ omega (arith, so_far.onward later short)
      | inr first ↦ (let at_start : next ≡ start = so_far.fresh (omega arith) in
          let same_count : (ahead_of ps next).count ≡ (ahead_of ps start).count = ap (λ p. (ahead_of ps p).count) at_start in
          omega (arith, ends inside (omega (arith, so_far.all)), ap (λ (p : PiecePlace). p.at) at_start))
    ];
  }

  rest_ended : length ps ≤ next.at → drop so_far.taken (rest_from ps start) ≡ []
  rest_ended over = sym so_far.rest ∙ rw (drop_all next.at ps over) (drop-nil next.used)

  block_past : length ps ≤ next.at → length (rest_from ps start) ≤ so_far.taken
  block_past over = omega (arith, length-drop so_far.taken (rest_from ps start), ap length (rest_ended over))

  pub block_sum : (left ≡ 0) ⊎ (length ps ≤ next.at) → total ≡ saturated (running_sum (rest_from ps start) rows)
  block_sum over = elim over [
    | inl none ↦ so_far.sum ∙ ap (λ n. saturated (running_sum (rest_from ps start) n)) (omega (arith, so_far.all))
    | inr past ↦ so_far.sum
        ∙ ap saturated (running_sum-past (rest_from ps start) so_far.taken (block_past past)
        ∙ sym (running_sum-past (rest_from ps start) rows (omega (arith, block_past past, so_far.all))))
  ]

  pub block_rest : (left ≡ 0) ⊎ (length ps ≤ next.at) → rest_from ps next ≡ drop rows (rest_from ps start)
  block_rest over = elim over [
    | inl none ↦ so_far.rest ∙ ap (λ n. drop n (rest_from ps start)) (omega (arith, so_far.all))
    | inr past ↦ so_far.rest ∙ rest_ended past ∙ sym (drop_all rows (rest_from ps start) (omega (arith, block_past past, so_far.all)))
  ]

  pub block_onward : (left ≡ 0) ⊎ (length ps ≤ next.at) → start.at < length ps → (ahead_of ps start).count < rows → start.at < next.at
  block_onward over inside short = elim over [
    | inl none ↦ so_far.onward (omega (arith, so_far.all)) short
    | inr past ↦ omega arith
  ]
