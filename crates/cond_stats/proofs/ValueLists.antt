-- If a value is frequent, it has a list of its own. Any other value has the rest list, and so has a value that has no cell.
use Rattle.std.proofs.Common.{◌≡◌, ℕ, true, false, List, Some, None, refl}
use Rattle.cond_stats.specs.Lists.{rest, is_frequent, compressed_degrees, keys_with, list_of_value}

pub list_of_frequent_value : (k : ℕ) (rows : List (ℕ × ℕ)) (v : ℕ) → is_frequent rows v ≡ true → list_of_value k rows (Some v) ≡ compressed_degrees k (keys_with v rows)
unfolding list_of_value
list_of_frequent_value k rows v e = rw e refl

pub list_of_other_value : (k : ℕ) (rows : List (ℕ × ℕ)) (v : ℕ) → is_frequent rows v ≡ false → list_of_value k rows (Some v) ≡ rest k rows
unfolding list_of_value
list_of_other_value k rows v e = rw e refl

pub list_without_cell : (k : ℕ) (rows : List (ℕ × ℕ)) → list_of_value k rows None ≡ rest k rows
unfolding list_of_value
list_without_cell k rows = refl
