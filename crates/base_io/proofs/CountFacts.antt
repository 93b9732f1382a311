-- If a count rose in one of several calls in a row, it rose over all these calls together.
use Rattle.std.proofs.Common.{ℕ, ◌≤◌, arith}
use Rattle.base_io.specs.Causes.{Rose}

pub rose_then_later : (before mid now : ℕ) → before ≤ mid → Rose before mid → mid ≤ now → Rose before now
rose_then_later before mid now first rose next = grind arith

pub later_then_rose : (before mid now : ℕ) → before ≤ mid → Rose mid now → Rose before now
later_then_rose before mid now first rose = grind arith
