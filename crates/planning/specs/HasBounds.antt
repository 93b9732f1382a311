-- The bounds in a `QueryBounds`.
use Rattle.std.specs.Prelude.{◌≡◌, ℕ, List}
use Rattle.planning.specs.declared.known.QueryBounds.{QueryBounds}

-- `known` has these bounds of all sets of a query's entries, and these bounds of its scans
pub record HasBounds (set_bounds scan_bounds : List ℕ) (known : QueryBounds) : Type 0 where
  pub sets : known.sets ≡ set_bounds
  pub scans : known.scans ≡ scan_bounds
