-- How the texts of a column's cells compare.
use Rattle.std.specs.Prelude.{ℕ, ◌≡◌, ◌<◌, ◌≤◌, Bool, true, List, [], All, length, slice_index, slice_index_or, position, unwrap_or, nat_eq}
use Rattle.std.specs.Cmp.Lexicographic.{slice_cmp}
use Rattle.std.specs.List.Sorted.{IsPermutation}
use Rattle.std.specs.Ordering.{is_le, nat_cmp}
use Rattle.std.specs.Str.{IsUtf8, chars}

abbrev pub text_of : List (List ℕ) → ℕ → List ℕ
text_of texts cell = slice_index_or texts cell []

-- the text of one cell is at most the text of another
abbrev pub text_le : List (List ℕ) → ℕ → ℕ → Bool
text_le texts a b = is_le (slice_cmp nat_cmp (chars (text_of texts a)) (chars (text_of texts b)))

-- `ordered` has these cells in the order of their texts, and the texts are UTF-8
pub record AreByText (texts : List (List ℕ)) (cells ordered : List ℕ) : Type 0 where
  pub moved : IsPermutation cells ordered
  pub utf8 : All (λ cell. IsUtf8 (text_of texts cell)) ordered
  pub ascend : (i j : ℕ) → i ≤ j → j < length ordered
      → text_le texts (slice_index ordered i) (slice_index ordered j) ≡ true

-- the index of a cell among the ordered cells, or 0 if it isn't one of them
abbrev pub rank_or_zero : List ℕ → ℕ → ℕ
rank_or_zero ordered cell = unwrap_or (position (nat_eq cell) ordered) 0

-- the text is the text of the cell, and is UTF-8
pub record IsTextOf (texts : List (List ℕ)) (cell : ℕ) (text : List ℕ) : Type 0 where
  pub is : text ≡ text_of texts cell
  pub utf8 : IsUtf8 text
