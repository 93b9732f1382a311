-- Why the calls for lists refuse. A call tests for its causes in a fixed order, and each cause also says that the earlier causes don't apply. So
-- for given arguments at most one refusal is possible. NoMemory is the exception: it needs no cause.
use Rattle.std.specs.Prelude.{◌≡◌, ◌⊎◌, ℕ, ◌+◌, ◌<◌, ◌≤◌, ⊤, List, length}
use Rattle.std.specs.List.{sum}
use Rattle.limits.specs.Profile.{greatest_rows, most_accuracy}
use Rattle.degree_sequences.specs.ByRank.{rank_maximum, rank_sum}
use Rattle.degree_sequences.specs.Compression.{compressed}
use Rattle.degree_sequences.specs.Degrees.{degree_list}
use Rattle.degree_sequences.specs.RunningSums.{capped_at, lesser}
use Rattle.degree_sequences.specs.Runs.{runs as runs_in}
use Rattle.safebound_lists.specs.declared.refusal.Refusal.{Refusal}
use Rattle.safebound_lists.specs.declared.refusal.Refusal.TheVariants as refusal
use Rattle.safebound_lists.specs.declared.runs.Run.{Run}
use Rattle.safebound_lists.specs.First.{IsFirstWrong}
use Rattle.safebound_lists.specs.Runs.{AreBothValid, AreValid, IsValidAt, MayBeAdded, MayBeCompressed, MayTakeGreater, list_of}

-- why a call for the degrees of keys refuses: too many keys, too little room, or no memory, which needs no cause
abbrev pub IsDegreesCause : List ℕ → ℕ → Refusal → Type 0
IsDegreesCause keys room (refusal.Keys count) = (count ≡ length keys) × (greatest_rows < length keys)
IsDegreesCause keys room (refusal.Room needed) = (length keys ≤ greatest_rows) × (needed ≡ runs_in (degree_list keys)) × (room < needed)
IsDegreesCause keys room refusal.NoMemory = ⊤
IsDegreesCause keys room _ = ⊥

-- why a call for the sum of two lists refuses: an invalid run, a sum that is too large, too little room, or no memory
abbrev pub IsAppendCause : List Run → List Run → ℕ → Refusal → Type 0
IsAppendCause runs others room (refusal.Run place) = IsFirstWrong (IsValidAt runs) (length runs) place
IsAppendCause runs others room (refusal.OtherRun place) = AreValid runs × IsFirstWrong (IsValidAt others) (length others) place
IsAppendCause runs others room (refusal.Sum both) =
    AreValid runs × AreValid others × (both ≡ sum (list_of runs) + sum (list_of others)) × (greatest_rows < both)
IsAppendCause runs others room (refusal.Room needed) =
    MayBeAdded runs others × (needed ≡ runs_in (rank_sum (list_of runs) (list_of others))) × (room < needed)
IsAppendCause runs others room refusal.NoMemory = ⊤
IsAppendCause runs others room _ = ⊥

-- why a call for a compressed list refuses: an accuracy out of its range, an invalid run, too little room, or no memory
abbrev pub IsCompressCause : List Run → ℕ → ℕ → Refusal → Type 0
IsCompressCause runs accuracy room (refusal.Accuracy given) = (given ≡ accuracy) × ((accuracy ≡ 0) ⊎ (most_accuracy < accuracy))
IsCompressCause runs accuracy room (refusal.Run place) =
    (0 < accuracy) × (accuracy ≤ most_accuracy) × IsFirstWrong (IsValidAt runs) (length runs) place
IsCompressCause runs accuracy room (refusal.Room needed) =
    MayBeCompressed runs accuracy × (needed ≡ runs_in (compressed accuracy (list_of runs))) × (room < needed)
IsCompressCause runs accuracy room refusal.NoMemory = ⊤
IsCompressCause runs accuracy room _ = ⊥

-- why a call for the lesser of two lists refuses: an invalid run, too little room, or no memory
abbrev pub IsLesserCause : List Run → List Run → ℕ → Refusal → Type 0
IsLesserCause runs others room (refusal.Run place) = IsFirstWrong (IsValidAt runs) (length runs) place
IsLesserCause runs others room (refusal.OtherRun place) = AreValid runs × IsFirstWrong (IsValidAt others) (length others) place
IsLesserCause runs others room (refusal.Room needed) =
    AreBothValid runs others × (needed ≡ runs_in (lesser (list_of runs) (list_of others))) × (room < needed)
IsLesserCause runs others room refusal.NoMemory = ⊤
IsLesserCause runs others room _ = ⊥

-- why a call for the greater of two lists refuses: an invalid run, a sum that is too large, too little room, or no memory
abbrev pub IsGreaterCause : List Run → List Run → ℕ → Refusal → Type 0
IsGreaterCause runs others room (refusal.Run place) = IsFirstWrong (IsValidAt runs) (length runs) place
IsGreaterCause runs others room (refusal.OtherRun place) = AreValid runs × IsFirstWrong (IsValidAt others) (length others) place
IsGreaterCause runs others room (refusal.Sum of_both) =
    AreBothValid runs others × (of_both ≡ sum (rank_maximum (list_of runs) (list_of others))) × (greatest_rows < of_both)
IsGreaterCause runs others room (refusal.Room needed) =
    MayTakeGreater runs others × (needed ≡ runs_in (rank_maximum (list_of runs) (list_of others))) × (room < needed)
IsGreaterCause runs others room refusal.NoMemory = ⊤
IsGreaterCause runs others room _ = ⊥

-- why a call that cuts a list at a number of rows refuses: an invalid run, too little room, or no memory
abbrev pub IsCutCause : List Run → ℕ → ℕ → Refusal → Type 0
IsCutCause runs rows room (refusal.Run place) = IsFirstWrong (IsValidAt runs) (length runs) place
IsCutCause runs rows room (refusal.Room needed) = AreValid runs × (needed ≡ runs_in (capped_at (list_of runs) rows)) × (room < needed)
IsCutCause runs rows room refusal.NoMemory = ⊤
IsCutCause runs rows room _ = ⊥
