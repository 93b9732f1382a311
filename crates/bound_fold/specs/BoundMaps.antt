-- Row bounds by entry, and lists by entry and column, in hash maps.
use Rattle.std.specs.Prelude.{◌≡◌, ℕ, ◌<◌, ◌^◌, ◌&&◌, nat_eq, Bool, List, Option, Some}
use Rattle.std.specs.List.{sum}
use Rattle.std.specs.declared.hash.FoldHasher.{FoldHasher}
use Rattle.std.specs.declared.hash.BuildHasherDefault.{BuildHasherDefault}
use Rattle.std.specs.HashMap.{get, HashMap}
use Rattle.degree_sequences.specs.Descending.{IsDescending}

-- a hash map whose keys are numbers or pairs of numbers
abbrev pub MapOf : Type 0 → Type 0 → Type 0
MapOf K X = HashMap K X (BuildHasherDefault FoldHasher)

-- whether two pairs are equal
abbrev pub same_pair : ℕ × ℕ → ℕ × ℕ → Bool
same_pair a b = nat_eq a.0 b.0 && nat_eq a.1 b.1

-- in these maps: the row bound of an entry, and the list of one of its columns
abbrev pub row_bound_in : MapOf ℕ ℕ → ℕ → Option ℕ
row_bound_in rows entry = get nat_eq rows entry

abbrev pub list_in : MapOf (ℕ × ℕ) (List ℕ) → ℕ → ℕ → Option (List ℕ)
list_in lists entry column = get same_pair lists (entry, column)

-- each row bound is a number of 64 bits
abbrev pub AreBounds : MapOf ℕ ℕ → Type 0
AreBounds rows = (entry n : ℕ) → row_bound_in rows entry ≡ Some n → n < 2 ^ 64

-- each list is in descending order, and its sum is the row bound of its entry
abbrev pub AreListsOf : MapOf ℕ ℕ → MapOf (ℕ × ℕ) (List ℕ) → Type 0
AreListsOf rows lists = (entry column : ℕ) (list : List ℕ) → list_in lists entry column ≡ Some list → IsDescending list
    × (row_bound_in rows entry ≡ Some (sum list))
