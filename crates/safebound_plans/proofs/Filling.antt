-- The levels of an order are written into the room (the caller's buffer) one by one, in the loop of `write_levels`.
use Rattle.std.proofs.Common.{◌≡◌, ℕ, ◌+◌, ◌<◌, ◌≤◌, List, [], ◌∷◌, ◌++◌, length, take, drop, get_or, refl, ap, sym, ◌∙◌, arith}
use Rattle.std.proofs.Math.ListN.{set}
use Rattle.std.proofs.lemmas.List.{map-append, take_all, take_more}
use Rattle.safebound_lists.specs.Written.{RoomBeginsWith}
use Rattle.safebound_lists.proofs.Writing.{room_with_one_more, room_before_writing}
use Rattle.safebound_plans.specs.declared.ordering.Level.{Level}
use Rattle.safebound_plans.specs.Orders.{AreLevels, bounds_in, entries_in}

-- ---- the room before, in and after the loop

pub record AreFirstLevels (order levels : List ℕ) (old new : List Level) (i : ℕ) : Type 0 where
  pub front : List Level
  pub entries : entries_in front ≡ take i order
  pub bounds : bounds_in front ≡ take i levels
  pub filled : RoomBeginsWith front old new i

pub no_level_is_written_yet : (order levels : List ℕ) (old : List Level) → AreFirstLevels order levels old old 0
no_level_is_written_yet order levels old = record { front = []; entries = refl; bounds = refl; filled = room_before_writing old }

-- a look-up past the end of a list gives this level
abbrev pub default_level : Level
default_level = record { entry = 0; bound = 0 }

pub one_more_level : (order levels : List ℕ) (old new : List Level) (i : ℕ) (x : Level) → AreFirstLevels order levels old new i → i < length order → i < length levels → i < length old
    → x.entry ≡ get_or order i 0 → x.bound ≡ get_or levels i 0 → AreFirstLevels order levels old (set new i x) (i + 1)
one_more_level order levels old new i x so_far low lower room entry bound = record {
  front = so_far.front ++ x ∷ [];
  entries = map-append (λ (level : Level). level.entry) so_far.front (x ∷ [])
      ∙ ap (λ (s : List ℕ). s ++ x.entry ∷ []) so_far.entries
      ∙ ap (λ (e : ℕ). take i order ++ e ∷ []) entry
      ∙ sym (take_more order i 0 low);
  bounds = map-append (λ (level : Level). level.bound) so_far.front (x ∷ [])
      ∙ ap (λ (s : List ℕ). s ++ x.bound ∷ []) so_far.bounds
      ∙ ap (λ (e : ℕ). take i levels ++ e ∷ []) bound
      ∙ sym (take_more levels i 0 lower);
  filled = room_with_one_more so_far.front old new i x default_level so_far.filled room;
}

pub all_levels : (order levels : List ℕ) (old new : List Level) (i : ℕ) → AreFirstLevels order levels old new i → i ≡ length order → length levels ≤ i → AreLevels order levels old new
all_levels order levels old new i so_far whole end = record {
  front = so_far.front;
  entries = so_far.entries ∙ take_all i order (omega arith);
  bounds = so_far.bounds ∙ take_all i levels end;
  filled = record {
    counted = so_far.filled.counted ∙ whole;
    filled = so_far.filled.filled ∙ ap (λ k. so_far.front ++ drop k old) whole;
  };
}
