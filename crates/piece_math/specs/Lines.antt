-- Running sums that rise by equal steps.
use Rattle.std.specs.Prelude.{◌≡◌, ℕ, ◌+◌, ◌*◌, ◌<◌, min}
use Rattle.piece_math.specs.declared.minima.Line.{Line}
use Rattle.piece_math.specs.declared.minima.Bend.{Bend}

-- the lower of two lines after k ranks
abbrev pub lower_at : Line → Line → ℕ → ℕ
lower_at line other k = min (line.sum + k * line.step) (other.sum + k * other.step)

-- the bend has the steps by which the lower of two lines rises over `count` ranks
pub record IsBend (line other : Line) (count : ℕ) (bend : Bend) : Type 0 where
  pub counts : bend.before.count + bend.between.count + bend.after.count ≡ count
  pub before : (k : ℕ) → k < bend.before.count → lower_at line other (k + 1) ≡ lower_at line other k + bend.before.value
  pub between : (k : ℕ) → k < bend.between.count
      → lower_at line other (bend.before.count + k + 1) ≡ lower_at line other (bend.before.count + k) + bend.between.value
  pub after : (k : ℕ) → k < bend.after.count
      → lower_at line other (bend.before.count + bend.between.count + k + 1)
      ≡ lower_at line other (bend.before.count + bend.between.count + k) + bend.after.value
