-- The lower of two lines is the steeper line before their crossing, and the flatter line after it.
use Rattle.std.proofs.Common.{◌≡◌, ℕ, ◌+◌, ◌-◌, ◌*◌, ◌/◌, ◌%◌, ◌<◌, ◌≤◌, min, ap, arith}
use Rattle.degree_sequences.proofs.Crossing.{before_crossing, after_crossing}
use Rattle.piece_math.specs.declared.minima.Line.{Line}
use Rattle.piece_math.specs.declared.minima.Bend.{Bend}
use Rattle.piece_math.specs.Lines.{IsBend}

rises_before : (p q x y k : ℕ) → p ≤ q → y < x → k + 1 ≤ (q - p) / (x - y) → min (p + (k + 1) * x) (q + (k + 1) * y) ≡ min (p + k * x) (q + k * y) + x
rises_before p q x y k low steep h = omega (arith, before_crossing p q x y k low steep (omega arith), before_crossing p q x y (k + 1) low steep h)

rises_between : (p q x y k : ℕ) → p ≤ q → y < x → k ≡ (q - p) / (x - y) → min (p + (k + 1) * x) (q + (k + 1) * y) ≡ min (p + k * x) (q + k * y) + (y + (q - p) % (x - y))
rises_between p q x y k low steep at =
    let d : ℕ = x - y in
    let e : x ≡ y + d = omega arith in
    let parts : d * k + (q - p) % d ≡ q - p = rw at (omega arith) in
    omega (arith, ap (λ z. k * z) e, parts, before_crossing p q x y k low steep (omega arith), after_crossing p q x y (k + 1) low steep (omega arith))

rises_after : (p q x y k : ℕ) → p ≤ q → y < x → (q - p) / (x - y) < k → min (p + (k + 1) * x) (q + (k + 1) * y) ≡ min (p + k * x) (q + k * y) + y
rises_after p q x y k low steep h = omega (arith, after_crossing p q x y k low steep h, after_crossing p q x y (k + 1) low steep (omega arith))

-- here the lines don't cross within these ranks
pub IsBend-straight : (low high : Line) (c : ℕ) → low.sum ≤ high.sum → high.step < low.step → c ≤ (high.sum - low.sum) / (low.step - high.step)
    → IsBend low high c (record { before = record { value = low.step; count = c }; between = record { value = 0; count = 0 }; after = record { value = 0; count = 0 } })
IsBend-straight low high c order steep h = record {
  counts = omega arith;
  before = λ k j. rises_before low.sum high.sum low.step high.step k order steep (omega arith);
  between = λ k j. absurd (omega arith);
  after = λ k j. absurd (omega arith);
}

-- here the lines cross within these ranks
pub IsBend-crossing : (low high : Line) (c : ℕ) → low.sum ≤ high.sum → high.step < low.step → (high.sum - low.sum) / (low.step - high.step) < c
    → IsBend low high c (record {
      before = record { value = low.step; count = (high.sum - low.sum) / (low.step - high.step) };
      between = record { value = high.step + (high.sum - low.sum) % (low.step - high.step); count = 1 };
      after = record { value = high.step; count = c - (high.sum - low.sum) / (low.step - high.step) - 1 };
    })
IsBend-crossing low high c order steep h =
    let d : ℕ = (high.sum - low.sum) / (low.step - high.step) in
    record {
      counts = omega arith;
      before = λ k j. rises_before low.sum high.sum low.step high.step k order steep (omega arith);
      between = λ k j. rises_between low.sum high.sum low.step high.step (d + k) order steep (omega arith);
      after = λ k j. rises_after low.sum high.sum low.step high.step (d + 1 + k) order steep (omega arith);
    }

pub IsBend-turned : (left right : Line) (c : ℕ) (bend : Bend) → IsBend right left c bend → IsBend left right c bend
IsBend-turned left right c bend b = record {
  counts = b.counts;
  before = λ k j. omega (arith, b.before k j);
  between = λ k j. omega (arith, b.between k j);
  after = λ k j. omega (arith, b.after k j);
}
