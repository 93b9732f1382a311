-- Definitions for the contracts and proofs of the reduction. No public contract uses them.
use Rattle.std.specs.Prelude.{◌≡◌, ℕ, zero, suc, ◌+◌, ◌<◌, ◌≤◌, ◌==◌, ◌&&◌, List, [], ◌∷◌, length, slice_index, slice_index_or, Bool, true, false, if◌then◌else◌}
use Rattle.std.specs.List.{Contains}
use Rattle.row_buf.specs.Rows.{Rows}
use Rattle.counted_sets.specs.declared.uses.Use.{Use}
use Rattle.counted_sets.specs.Sets.{IsConsistent, marked}

-- the use at index k
abbrev pub use_at : List Use → ℕ → Use
use_at uses k = slice_index_or uses k (record { item = 0; gives = 0; needs = 0 })

abbrev pub item_at : List Use → ℕ → ℕ
item_at uses k = (use_at uses k).item

abbrev pub need_at : List Use → ℕ → ℕ
need_at uses k = (use_at uses k).needs

-- how many of the first n uses belong to a kept item and give the slot
abbrev pub giver_count : (ℕ → Bool) → List Use → ℕ → ℕ → ℕ
giver_count is_kept uses slot zero = 0
giver_count is_kept uses slot (suc n) = (if is_kept (item_at uses n) && ((use_at uses n).gives == slot) then 1 else 0) + giver_count is_kept uses slot n

-- the number of counts above 0
abbrev pub positive_count : List ℕ → ℕ
positive_count [] = 0
positive_count (zero ∷ counts) = positive_count counts
positive_count (suc n ∷ counts) = suc (positive_count counts)

-- `work` lists the slots whose count is 0, each once
pub record EmptySlotsAreListed (counts work : List ℕ) : Type 0 where
  pub within : (p : ℕ) → p < length work → slice_index work p < length counts
  pub zero_there : (p : ℕ) → p < length work → slice_index counts (slice_index work p) ≡ 0
  pub all_there : (slot : ℕ) → slot < length counts → slice_index counts slot ≡ 0 → Contains work slot
  pub room : length work + positive_count counts ≡ length counts

-- `work` lists the slots whose count is 0, and has room for exactly the other slots
pub record IsWorkOf (counts : List ℕ) (work : Rows ℕ) : Type 0 where
  pub listed : EmptySlotsAreListed counts work.items
  pub spare : work.spare ≡ positive_count counts

-- the new list begins with the old one
pub record Extends (old new : List ℕ) : Type 0 where
  pub longer : length old ≤ length new
  pub same : (p : ℕ) → p < length old → slice_index new p ≡ slice_index old p

-- the count of each slot is the number of uses of marked items that give it. The slots with the count 0 are listed
pub record CountsAreCorrect (items slots : ℕ) (uses : List Use) (marks : List Bool) (counts : List ℕ) (work : Rows ℕ) : Type 0 where
  pub item_count : length marks ≡ items
  pub slot_count : length counts ≡ slots
  pub counted : (slot : ℕ) → slot < slots → slice_index counts slot ≡ giver_count (marked marks) uses slot (length uses)
  pub listed : IsWorkOf counts work

-- no item is newly marked. If all items of a consistent set were marked, they are still marked
pub record IsSafe (items : ℕ) (uses : List Use) (old new : List Bool) : Type 0 where
  pub fewer : (item : ℕ) → marked new item ≡ true → marked old item ≡ true
  pub safe : (other : ℕ → Bool) → IsConsistent items uses other → ((item : ℕ) → other item ≡ true → marked old item ≡ true)
      → (item : ℕ) → other item ≡ true → marked new item ≡ true

-- no item that needs the slot is marked
abbrev pub NeedersAreUnmarked : List Use → ℕ → List Bool → Type 0
NeedersAreUnmarked uses slot marks = (k : ℕ) → k < length uses → need_at uses k ≡ slot → marked marks (item_at uses k) ≡ false
