-- Lists of equalities that are alike. They have the same join trees.
use Rattle.std.specs.Prelude.{◌≡◌, ◌↔◌, ℕ, ◌<◌, List}
use Rattle.std.specs.List.{AllByRecursion, Contains}
use Rattle.berge_tree.specs.declared.edges.Edge.{Edge}
use Rattle.berge_tree.specs.declared.edges.Place.{Place}
use Rattle.berge_tree.specs.Equalities.{class_of, places_of}
use Rattle.join_graph.specs.Kept.{kept_of}
use Rattle.degree_sequences.specs.Saturation.{saturated}
use Rattle.tree_bounds.specs.SetBounds.{bound_of_turn, least_to}
use Rattle.tree_bounds.specs.TreeBounds.{EntryBounds}

-- two lists of equalities are alike: they name the same columns and make the same classes of these columns
pub record AreAlike (es fs : List Edge) : Type 0 where
  pub columns : (p : Place) → Contains (places_of es) p ↔ Contains (places_of fs) p
  pub classes : (p q : Place) → (class_of es p ≡ class_of es q) ↔ (class_of fs p ≡ class_of fs q)

-- both columns of the equality e are in the same class of the equalities es
abbrev pub IsWithinOneClass : List Edge → Edge → Type 0
IsWithinOneClass es e = class_of es e.left ≡ class_of es e.right

-- ---- turns that are like an earlier turn

-- some turn before `turn` keeps exactly these equalities
pub record IsOfTurnBefore (es : List Edge) (subset turn : ℕ) (kept : List Edge) : Type 0 where
  pub earlier : ℕ
  pub before : earlier < turn
  pub are_kept : kept ≡ kept_of subset earlier es

abbrev pub AreOfTurnsBefore : List Edge → ℕ → ℕ → List (List Edge) → Type 0
AreOfTurnsBefore es subset turn folded = AllByRecursion (IsOfTurnBefore es subset turn) folded

-- the kept equalities of some earlier turn are alike to those of `turn`
pub record IsLikeEarlier (es : List Edge) (subset turn : ℕ) : Type 0 where
  pub earlier : ℕ
  pub before : earlier < turn
  pub alike : AreAlike (kept_of subset earlier es) (kept_of subset turn es)

-- the least bound of the turns from 0 to `turn`, or 2^128 - 1 if it is larger
abbrev pub least_in_128_bits : EntryBounds → List Edge → ℕ → ℕ → ℕ
least_in_128_bits b es subset turn = saturated (least_to (bound_of_turn b es subset) turn)
