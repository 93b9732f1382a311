-- Each row gets a number: the index of the first row that is like it.
use Rattle.std.specs.Prelude.{ℕ, ◌≡◌, ◌<◌, ◌≤◌, ◌+◌, ◌==◌, ◌&&◌, nat_eq, Bool, true, false, if◌then◌else◌, List, [], ◌∷◌, length, slice_index, slice_index_or, Option, None, Some}
use Rattle.std.specs.List.{list_all}
use Rattle.csv_tables.specs.declared.types.Repeat.{Repeat}

abbrev pub same_pair : ℕ × ℕ → ℕ × ℕ → Bool
same_pair a b = nat_eq a.0 b.0 && nat_eq a.1 b.1

-- two rows have the same number and the same cell
abbrev pub are_alike : List ℕ → List ℕ → ℕ → ℕ → Bool
are_alike first_places cells i j = nat_eq (slice_index first_places i) (slice_index first_places j) && nat_eq (slice_index cells i) (slice_index cells j)

-- `first` is the first row that is like row i
pub record IsFirst (like : ℕ → ℕ → Bool) (i first : ℕ) : Type 0 where
  pub at_most : first ≤ i
  pub same : like i first ≡ true
  pub least : (j : ℕ) → j < first → like i j ≡ false

-- `first_places` has for each row the index of the first row that is like it
abbrev pub AreFirsts : (ℕ → ℕ → Bool) → List ℕ → Type 0
AreFirsts like first_places = (i : ℕ) → i < length first_places → IsFirst like i (slice_index first_places i)

-- two rows have the same cells in the columns of a key
abbrev pub have_same_cells : List (List ℕ) → List ℕ → ℕ → ℕ → Bool
have_same_cells columns key i j = list_all
    (λ column. slice_index (slice_index_or columns column []) i == slice_index (slice_index_or columns column []) j) key

-- finds the first row that is like an earlier row, and the first row that it is like. Both are given as record numbers, from 1. The list begins with
-- the number of row `at`
abbrev pub repeat_from : ℕ → List ℕ → Option Repeat
repeat_from at [] = None
repeat_from at (first ∷ first_places) = if first == at then repeat_from (at + 1) first_places else Some (record { later = at + 1; earlier = first + 1 })

-- `found` is the first repeat of a key among the first `rows` rows, or None
pub record IsRepeat (columns : List (List ℕ)) (key : List ℕ) (rows : ℕ) (found : Option Repeat) : Type 0 where
  pub first_places : List ℕ
  pub lengths : length first_places ≡ rows
  pub firsts : AreFirsts (have_same_cells columns key) first_places
  pub found_is : found ≡ repeat_from 0 first_places
