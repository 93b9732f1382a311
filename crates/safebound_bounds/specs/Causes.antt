-- The causes for which a call for bounds is refused. Each cause also says that the causes which the call tests earlier don't apply. So for
-- given arguments at most one result is possible, apart from NoMemory.
use Rattle.std.specs.Prelude.{◌≡◌, ◌⊎◌, ℕ, ◌^◌, ◌<◌, ◌≤◌, ⊤, List, length}
use Rattle.limits.specs.Profile.{greatest_entries, most_conjuncts}
use Rattle.safebound_lists.specs.declared.refusal.Refusal.{Refusal}
use Rattle.safebound_lists.specs.declared.refusal.Refusal.TheVariants as refusal
use Rattle.safebound_lists.specs.declared.runs.Run.{Run}
use Rattle.safebound_lists.specs.First.{IsFirstWrong}
use Rattle.safebound_bounds.specs.declared.arguments.ColumnList.{ColumnList}
use Rattle.safebound_bounds.specs.declared.arguments.Equality.{Equality}
use Rattle.safebound_bounds.specs.Meaning.{edges_of, in_64_bits}
use Rattle.safebound_bounds.specs.Work.{work_of}
use Rattle.safebound_bounds.specs.Arguments.{ColumnsHaveLists, AreRunsValidAt, IsEqualityValid, IsListValidAt, IsRowBoundValidAt, IsWrongRun, equality_at}

-- there are 1 to `greatest_entries` entries, each with a valid row bound
pub record AreRowsValid (rows : List ℕ) : Type 0 where
  pub some : 1 ≤ length rows
  pub few : length rows ≤ greatest_entries
  pub each : (i : ℕ) → i < length rows → IsRowBoundValidAt rows i

-- there are at most 256 equalities, and each is valid
pub record AreEqualitiesValid (entries : ℕ) (equalities : List Equality) : Type 0 where
  pub few : length equalities ≤ most_conjuncts
  pub each : (i : ℕ) → i < length equalities → IsEqualityValid entries (equality_at equalities i)

-- each list is valid, apart from its runs
abbrev pub AreListsValid : ℕ → ℕ → List ColumnList → Type 0
AreListsValid entries runs lists = (i : ℕ) → i < length lists → IsListValidAt entries runs lists i

-- the runs of each list are valid
abbrev pub AreRunsValid : List ColumnList → List Run → Type 0
AreRunsValid lists runs = (i : ℕ) → i < length lists → AreRunsValidAt lists runs i

-- every value is valid
pub record AreArgumentsValid (rows : List ℕ) (equalities : List Equality) (lists : List ColumnList) (runs : List Run) : Type 0 where
  pub rows_are_valid : AreRowsValid rows
  pub equalities_are_valid : AreEqualitiesValid (length rows) equalities
  pub lists_are_valid : AreListsValid (length rows) (length runs) lists
  pub runs_are_valid : AreRunsValid lists runs
  pub listed : (i : ℕ) → i < length equalities → ColumnsHaveLists lists (equality_at equalities i)

-- The cause of each refusal.
-- - Entries: there are no entries, or more than `greatest_entries`.
-- - Rows, Equality, List, Run: `place` is the index of the first invalid row bound, equality, list or run.
-- - Equalities: there are more than 256.
-- - MissingList: `place` is the index of the first equality with a column that has no list.
-- - Room: the caller's buffer is too small for all bounds.
-- - NoMemory needs no cause.
abbrev pub IsBoundsCause : List ℕ → List Equality → List ColumnList → List Run → ℕ → Refusal → Type 0
IsBoundsCause rows equalities lists runs room (refusal.Entries count) = (count ≡ length rows) × ((count ≡ 0) ⊎ (greatest_entries < count))
IsBoundsCause rows equalities lists runs room (refusal.Rows place) =
    (1 ≤ length rows) × (length rows ≤ greatest_entries) × IsFirstWrong (IsRowBoundValidAt rows) (length rows) place
IsBoundsCause rows equalities lists runs room (refusal.Equalities count) = AreRowsValid rows × (count ≡ length equalities) × (most_conjuncts < count)
IsBoundsCause rows equalities lists runs room (refusal.Equality place) =
    AreRowsValid rows × (length equalities ≤ most_conjuncts)
    × IsFirstWrong (λ i. IsEqualityValid (length rows) (equality_at equalities i)) (length equalities) place
IsBoundsCause rows equalities lists runs room (refusal.List place) =
    AreRowsValid rows × AreEqualitiesValid (length rows) equalities
    × IsFirstWrong (IsListValidAt (length rows) (length runs) lists) (length lists) place
IsBoundsCause rows equalities lists runs room (refusal.Run place) =
    AreRowsValid rows × AreEqualitiesValid (length rows) equalities × AreListsValid (length rows) (length runs) lists
    × IsWrongRun lists runs place
IsBoundsCause rows equalities lists runs room (refusal.MissingList place) =
    AreRowsValid rows × AreEqualitiesValid (length rows) equalities × AreListsValid (length rows) (length runs) lists
    × AreRunsValid lists runs × IsFirstWrong (λ i. ColumnsHaveLists lists (equality_at equalities i)) (length equalities) place
IsBoundsCause rows equalities lists runs room (refusal.Room needed) =
    AreArgumentsValid rows equalities lists runs × (needed ≡ 2 ^ length rows) × (room < needed)
IsBoundsCause rows equalities lists runs room refusal.NoMemory = ⊤
IsBoundsCause rows equalities lists runs room _ = ⊥

-- the causes of `bounds_within`: those of `bounds`, and one more. The additional cause is that the work is above the limit, although all values are
-- valid and there is room
abbrev pub IsWithinCause : List ℕ → List Equality → List ColumnList → List Run → ℕ → ℕ → Refusal → Type 0
IsWithinCause rows equalities lists runs limit room (refusal.Work needed) =
    AreArgumentsValid rows equalities lists runs × (2 ^ length rows ≤ room) × (limit < work_of lists (edges_of equalities) (length rows))
    × (needed ≡ in_64_bits (work_of lists (edges_of equalities) (length rows)))
IsWithinCause rows equalities lists runs limit room why = IsBoundsCause rows equalities lists runs room why

-- the causes of `set_bound`: those of `bounds` with enough room, and one more. The additional cause is that the set has an entry that doesn't exist,
-- although all values are valid
abbrev pub IsSetCause : List ℕ → List Equality → List ColumnList → List Run → ℕ → Refusal → Type 0
IsSetCause rows equalities lists runs subset (refusal.Set given) = AreArgumentsValid rows equalities lists runs × (given ≡ subset) × (2 ^ length rows ≤ subset)
IsSetCause rows equalities lists runs subset why = IsBoundsCause rows equalities lists runs (2 ^ length rows) why
