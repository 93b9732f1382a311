-- Uses with the same key, linked from the last use back to the first. The place of a use is its index in the list of uses.
use Rattle.std.specs.Prelude.{◌≡◌, ℕ, zero, suc, ◌<◌, ◌==◌, if◌then◌else◌, List, length, slice_index}

-- the index, counted from 1, of the last use with the key among the first n uses. It is 0 if none of these uses has the key
abbrev pub last_before : (ℕ → ℕ) → ℕ → ℕ → ℕ
last_before key_of key zero = 0
last_before key_of key (suc n) = if key_of n == key then suc n else last_before key_of key n

-- `lasts` has for each key the last use that has it. `befores` has for each use the use before it with the same key
pub record AreUseChains (key_of : ℕ → ℕ) (keys places : ℕ) (lasts befores : List ℕ) : Type 0 where
  pub key_count : length lasts ≡ keys
  pub place_count : length befores ≡ places
  pub last : (key : ℕ) → key < keys → slice_index lasts key ≡ last_before key_of key places
  pub before : (place : ℕ) → place < places → slice_index befores place ≡ last_before key_of (key_of place) place
