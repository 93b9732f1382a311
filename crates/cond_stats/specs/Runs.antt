-- The runs of a column whose rows are sorted by value. A run is the rows of one value.
use Rattle.std.specs.Prelude.{ℕ, ◌≡◌, ◌+◌, ◌<◌, ◌≤◌, ◌==◌, ◌*◌, ◌/◌, ◌||◌, not, nat_lt, Bool, List, map, length, All, slice_index, slice_index_or}
use Rattle.degree_sequences.specs.Degrees.{different}
use Rattle.cond_stats.specs.declared.groups.ValueRun.{ValueRun}
use Rattle.cond_stats.specs.Frequency.{by_frequency}
use Rattle.cond_stats.specs.Leaves.{leaf_of}
use Rattle.cond_stats.specs.Order.{AreInValueOrder, AreSorted, numbers_at}
use Rattle.cond_stats.specs.Windows.{IsWindow}

-- the run has all rows of one number. `numbers` has the numbers of the sorted rows
pub record IsRun (numbers places : List ℕ) (run : ValueRun) : Type 0 where
  pub some : 0 < run.count
  pub ends : run.start + run.count ≤ length numbers
  pub first : run.first ≡ slice_index places run.start
  pub alike : (k : ℕ) → run.start ≤ k → k < run.start + run.count → slice_index numbers k ≡ slice_index numbers run.start
  pub lower : (k : ℕ) → k < run.start → slice_index numbers k < slice_index numbers run.start
  pub higher : (k : ℕ) → run.start + run.count ≤ k → k < length numbers → slice_index numbers run.start < slice_index numbers k

-- each number has exactly one run, and the runs are in the order of their starts
pub record AreRunsOfNumbers (numbers places : List ℕ) (runs : List ValueRun) : Type 0 where
  pub each : All (IsRun numbers places) runs
  pub all : map (λ run. slice_index numbers run.start) runs ≡ different numbers
  pub ascend : (i j : ℕ) (none : ValueRun) → i < j → j < length runs → (slice_index_or runs i none).start < (slice_index_or runs j none).start

-- `places` lists the row numbers in ascending order of the rows' numbers. If two rows have equal numbers, the earlier row comes first. `runs` has the
-- runs of equal numbers
pub record AreSortedInRuns (numbers places : List ℕ) (runs : List ValueRun) : Type 0 where
  pub sorted : AreSorted numbers (numbers_at numbers places) places
  pub runs_are : AreRunsOfNumbers (numbers_at numbers places) places runs

-- `places` lists the column's row numbers in ascending order of the rows' values. If two rows have equal values, the earlier row comes first. `runs`
-- has the runs of equal values
pub record AreInRuns (at_most : ℕ → ℕ → Bool) (column places : List ℕ) (runs : List ValueRun) : Type 0 where
  pub numbers : List ℕ
  pub order : AreInValueOrder at_most column numbers places
  pub runs_are : AreRunsOfNumbers numbers places runs

-- the value of a run
abbrev pub value_of_run : List ℕ → ValueRun → ℕ
value_of_run column run = slice_index column run.first

-- `runs` has the run of each value of a column, and the run of the most frequent value comes first
pub record AreRunsByFrequency (column places : List ℕ) (runs : List ValueRun) : Type 0 where
  pub values : map (value_of_run column) runs ≡ by_frequency column
  pub firsts : All (λ run. run.first < length column) runs
  pub windows : All (λ run. IsWindow column places (λ value. value == value_of_run column run) run.start run.count) runs

-- `starts` says for each leaf from 0 to 32 how many rows have a lower leaf; these rows come first in `places`
pub record AreStarts (at_most : ℕ → ℕ → Bool) (column places starts : List ℕ) : Type 0 where
  pub length_is : length starts ≡ 33
  pub within : (leaf : ℕ) → slice_index starts leaf ≤ length places
  pub tell : (leaf k : ℕ) → leaf ≤ 32 → k < length places
      → nat_lt (leaf_of at_most column (slice_index column (slice_index places k))) leaf ≡ nat_lt k (slice_index starts leaf)

-- `start` is how many numbers are below the cut of a leaf. For leaf 0 `start` is 0. For 32, the end of the last leaf, `start` is how many numbers
-- there are
pub record IsLeafStart (numbers : List ℕ) (leaf start : ℕ) : Type 0 where
  pub within : start ≤ length numbers
  pub first : leaf ≡ 0 → start ≡ 0
  pub last : leaf ≡ 32 → start ≡ length numbers
  pub between : (k : ℕ) → 0 < leaf → leaf < 32 → k < length numbers
      → nat_lt (slice_index numbers k) (slice_index numbers (length numbers * leaf / 32)) ≡ nat_lt k start

-- whether a number is the last of its run: no number follows, or a different number follows
abbrev pub ends_run : List ℕ → ℕ → ℕ → Bool
ends_run numbers i number = i + 1 == length numbers || not (slice_index numbers (i + 1) == number)
