-- Orders in which entries are joined, and the best order. `bounds` has a bound for every set of entries. The index of {0, 2} is 5, which is 101 in
-- binary.
use Rattle.std.specs.Prelude.{◌≡◌, ℕ, ◌<◌, ◌≤◌, ◌⊎◌, max, List, [], ◌∷◌, map, slice_index, ⊤}
use Rattle.std.specs.List.{sum}
use Rattle.entry_sets.specs.Sets.{set_of}
use Rattle.plans.specs.LeftDeep.{IsOrder}

-- the prefixes of an order: its first entry, its first two entries, and so on up to all
abbrev pub prefixes : List ℕ → List (List ℕ)
prefixes [] = []
prefixes (entry ∷ entries) = (entry ∷ []) ∷ map (λ prefix. entry ∷ prefix) (prefixes entries)

-- the bounds of the order's first k entries, for k from 1
abbrev pub levels : List ℕ → List ℕ → List ℕ
levels bounds order = map (λ prefix. slice_index bounds (set_of prefix)) (prefixes order)

abbrev pub greatest : List ℕ → ℕ
greatest [] = 0
greatest (x ∷ xs) = max x (greatest xs)

-- the cost of an order: the largest bound of its levels
abbrev pub cost : List ℕ → List ℕ → ℕ
cost bounds order = greatest (levels bounds order)

-- the total of an order: the sum of the bounds of its levels
abbrev pub total : List ℕ → List ℕ → ℕ
total bounds order = sum (levels bounds order)

-- the first list equals the second, or comes before it in lexicographic order
abbrev pub IsNotAfter : List ℕ → List ℕ → Type 0
IsNotAfter [] ys = ⊤
IsNotAfter (x ∷ xs) [] = ⊥
IsNotAfter (x ∷ xs) (y ∷ ys) = (x < y) ⊎ ((x ≡ y) × IsNotAfter xs ys)

-- `best` has the least cost of all orders. Among orders of this cost it has the least sum, and among those of this cost and sum it comes first
pub record IsBest (bounds : List ℕ) (n : ℕ) (best : List ℕ) : Type 0 where
  pub is_order : IsOrder n best
  pub none_cheaper : (other : List ℕ) → IsOrder n other → cost bounds best ≤ cost bounds other
  pub none_smaller : (other : List ℕ) → IsOrder n other → cost bounds other ≡ cost bounds best → total bounds best ≤ total bounds other
  pub none_earlier : (other : List ℕ) → IsOrder n other → cost bounds other ≡ cost bounds best → total bounds other ≡ total bounds best
      → IsNotAfter best other

-- some order has this cost, and no order has a lower cost
pub record IsLeastCost (bounds : List ℕ) (n least : ℕ) : Type 0 where
  pub order : List ℕ
  pub is_order : IsOrder n order
  pub costs : cost bounds order ≡ least
  pub none_cheaper : (other : List ℕ) → IsOrder n other → least ≤ cost bounds other
