-- Ways and their weights. A way is an order of the entries that are still to be joined: the set `left`. No public contract uses ways.
use Rattle.std.specs.Prelude.{◌≡◌, ℕ, ◌+◌, ◌-◌, ◌^◌, ◌<◌, ◌≤◌, max, min, List, [], ◌∷◌, slice_index, nat_le, if◌then◌else◌}
use Rattle.std.specs.Int.{bit_at}
use Rattle.limits.specs.Profile.{top_bound}
use Rattle.order_search.specs.Orders.{IsNotAfter}
use Rattle.order_search.specs.declared.weight.Weighing.{Weighing}
use Rattle.order_search.specs.declared.weight.Weighing.TheVariants as weight

-- the way has each entry of the set once, and no other entry
abbrev pub IsWay : ℕ → List ℕ → Type 0
IsWay left [] = left ≡ 0
IsWay left (entry ∷ entries) = (bit_at left entry ≡ 1) × IsWay (left - 2 ^ entry) entries

-- a bound combined with the weight of the rest of the way. In a sum, a bound above `most` makes the weight `top_bound`, the greatest weight
abbrev pub combined : Weighing → ℕ → ℕ → ℕ
combined weight.Greatest bound weight_of_rest = max bound weight_of_rest
combined (weight.SumIfBoundsAtMost most) bound weight_of_rest = if nat_le bound most then (min (bound + weight_of_rest) top_bound) else top_bound

-- the bound of `entry` together with all entries that aren't in `left`
abbrev pub bound_with : List ℕ → ℕ → ℕ → ℕ → ℕ
bound_with bounds all left entry = slice_index bounds (all - (left - 2 ^ entry))

-- the weight of a way: the bounds along it, combined
abbrev pub weight_of : Weighing → List ℕ → ℕ → ℕ → List ℕ → ℕ
weight_of w bounds all left [] = 0
weight_of w bounds all left (entry ∷ entries) = combined w (bound_with bounds all left entry)
    (weight_of w bounds all (left - 2 ^ entry) entries)

-- some way has this weight, and no way is lighter
pub record IsLeastWeight (w : Weighing) (bounds : List ℕ) (all left least : ℕ) : Type 0 where
  pub way : List ℕ
  pub is_way : IsWay left way
  pub weighs : weight_of w bounds all left way ≡ least
  pub none_lighter : (other : List ℕ) → IsWay left other → least ≤ weight_of w bounds all left other

-- `table` has the least weight of each set whose number is below `end`
abbrev pub HasLeastWeights : Weighing → List ℕ → ℕ → List ℕ → ℕ → Type 0
HasLeastWeights w bounds all table end = (left : ℕ) → left < end → IsLeastWeight w bounds all left (slice_index table left)

-- the weight of the lightest way that begins with the entry, by the least weights in `table`
abbrev pub weight_through : Weighing → List ℕ → List ℕ → ℕ → ℕ → ℕ → ℕ
weight_through w bounds table all left entry = combined w (bound_with bounds all left entry) (slice_index table (left - 2 ^ entry))

-- a lightest way begins with the entry
pub record BeginsLightest (w : Weighing) (bounds table : List ℕ) (all left entry : ℕ) : Type 0 where
  pub is_left : bit_at left entry ≡ 1
  pub is_least : weight_through w bounds table all left entry ≡ slice_index table left

-- no way is lighter, and this way is the first of the lightest ways
pub record IsFirstLightest (w : Weighing) (bounds : List ℕ) (all left : ℕ) (way : List ℕ) : Type 0 where
  pub is_way : IsWay left way
  pub none_lighter : (other : List ℕ) → IsWay left other → weight_of w bounds all left way ≤ weight_of w bounds all left other
  pub none_earlier : (other : List ℕ) → IsWay left other → weight_of w bounds all left other ≡ weight_of w bounds all left way
      → IsNotAfter way other
