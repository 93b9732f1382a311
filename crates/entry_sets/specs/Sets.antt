-- Sets of FROM entries as the bits of a number: entry x is in the set if bit x is set. A set has a bit for each of `greatest_entries` entries.
use Rattle.std.specs.Prelude.{◌≡◌, ℕ, ◌+◌, ◌^◌, Bool, true, ◌&&◌, ◌==◌, nat_lt, List, [], ◌∷◌, filter}
use Rattle.std.specs.List.{range_with_len}
use Rattle.std.specs.Int.{bit_at}
use Rattle.limits.specs.Profile.{greatest_entries}

-- the entry is in the set
abbrev pub has_entry : ℕ → ℕ → Bool
has_entry set entry = nat_lt entry greatest_entries && (bit_at set entry == 1)

-- each entry of `set` is in `other`
abbrev pub IsSubset : ℕ → ℕ → Type 0
IsSubset set other = (entry : ℕ) → has_entry set entry ≡ true → has_entry other entry ≡ true

-- the entries of the set among the `count` entries from `first` on, in FROM order
abbrev pub entries_from : ℕ → ℕ → ℕ → List ℕ
entries_from set first count = filter (λ entry. bit_at set entry == 1) (range_with_len first count)

-- the entries of a set
unfoldable pub entries_of_set : ℕ → List ℕ
entries_of_set set = entries_from set 0 greatest_entries

-- the set of these entries, which have to be different
abbrev pub set_of : List ℕ → ℕ
set_of [] = 0
set_of (entry ∷ entries) = 2 ^ entry + set_of entries
