-- A filter column whose rows are in the order of its leaves, with the rows of one value together.
use Rattle.std.specs.Prelude.{ℕ, ◌≡◌, ◌+◌, ◌<◌, ◌≤◌, ◌^◌, Bool, List, length, map, slice_index, slice_range}
use Rattle.std.specs.List.{range_with_len}
use Rattle.std.specs.List.Sorted.{IsPermutation}
use Rattle.degree_sequences.specs.Degrees.{degree_list}
use Rattle.cond_stats.specs.declared.groups.ValueRun.{ValueRun}
use Rattle.cond_stats.specs.Leaves.{cuts}
use Rattle.cond_stats.specs.Runs.{AreRunsByFrequency, AreStarts}

-- `places` lists the row numbers, each once. In it the rows of each value are together, and `groups` says where. The rows of each leaf come before
-- the rows of the next leaf, and `starts` says where they begin. `its_cuts` has the column's cuts
pub record IsColumnByLeaves (at_most : ℕ → ℕ → Bool) (column places : List ℕ) (groups : List ValueRun) (its_cuts starts : List ℕ) : Type 0 where
  pub rows : length column < 2 ^ 32
  pub moved : IsPermutation (range_with_len 0 (length column)) places
  pub groups_are : AreRunsByFrequency column places groups
  pub cuts_are : its_cuts ≡ cuts at_most column
  pub starts_are : AreStarts at_most column places starts

-- the joined keys of the rows with these row numbers
abbrev pub keys_at : List ℕ → List ℕ → List ℕ
keys_at joined places = map (λ place. slice_index joined place) places

-- the run's rows are among the first `rows` elements of `places`
abbrev pub LiesWithin : ℕ → ValueRun → Type 0
LiesWithin rows group = group.start + group.count ≤ rows

-- the degree list of the joined keys of a run's rows
abbrev pub degrees_of_run : List ℕ → List ℕ → ValueRun → List ℕ
degrees_of_run joined places group = degree_list (keys_at joined (slice_range places group.start (group.start + group.count)))
