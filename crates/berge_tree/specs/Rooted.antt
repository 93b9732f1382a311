-- The tree of given equalities: the classes below each entry, the entries below each class, and the order of both.
use Rattle.std.specs.Prelude.{◌≡◌, ◌≢◌, ℕ, ◌≤◌, ⊤, List, [], ◌∷◌, Option, Some, None}
use Rattle.std.specs.List.{AllByRecursion, AllPairs, Contains}
use Rattle.std.specs.List.Sorted.{IsStrictlyIncreasing}
use Rattle.berge_tree.specs.declared.edges.Place.{Place}
use Rattle.berge_tree.specs.declared.edges.Edge.{Edge}
use Rattle.berge_tree.specs.Equalities.{place, places_of, class_of}
use Rattle.berge_tree.specs.Trees.{Classes, no_class, and_class, Members, one_member, and_member, BergeTree, entries, entries_of_all}

-- the entry's columns in the classes below it, one for each class
abbrev pub class_columns : Classes → List ℕ
class_columns no_class = []
class_columns (and_class column members rest) = column ∷ class_columns rest

-- the columns of a class, for the entries below it
abbrev pub member_places : Members → List Place
member_places (one_member entry column below) = place entry column ∷ []
member_places (and_member entry column below rest) = place entry column ∷ member_places rest

abbrev pub member_entries : Members → List ℕ
member_entries (one_member entry column below) = entry ∷ []
member_entries (and_member entry column below rest) = entry ∷ member_entries rest

-- the entry's columns that equalities name, except its column in the class above, in the order of their numbers
pub record AreItsColumns (es : List Edge) (entry : ℕ) (above : Option ℕ) (columns : List ℕ) : Type 0 where
  pub ascending : IsStrictlyIncreasing columns
  pub some : (c : ℕ) → Contains columns c → Contains (places_of es) (place entry c) × (above ≢ Some c)
  pub all : (c : ℕ) → Contains (places_of es) (place entry c) → above ≢ Some c → Contains columns c

-- the columns of the class of `above`, except `above` itself, in the FROM order of their entries
pub record AreItsOthers (es : List Edge) (above : Place) (ms : Members) : Type 0 where
  pub ascending : IsStrictlyIncreasing (member_entries ms)
  pub some : (q : Place) → Contains (member_places ms) q → Contains (places_of es) q × (class_of es above ≡ class_of es q) × (q ≢ above)
  pub all : (q : Place) → Contains (places_of es) q → class_of es above ≡ class_of es q → q ≢ above → Contains (member_places ms) q

abbrev mutual
  pub FollowsBelow : List Edge → ℕ → Classes → Type 0
  FollowsBelow es entry no_class = ⊤
  FollowsBelow es entry (and_class column members rest) =
      AreItsOthers es (place entry column) members × FollowsWithin es members × FollowsBelow es entry rest

  pub FollowsWithin : List Edge → Members → Type 0
  FollowsWithin es (one_member entry column below) =
      AreItsColumns es entry (Some column) (class_columns below) × FollowsBelow es entry below
  FollowsWithin es (and_member entry column below rest) =
      AreItsColumns es entry (Some column) (class_columns below) × FollowsBelow es entry below × FollowsWithin es rest

-- the tree of a component, whose root is the component's least entry
pub record IsTreeOf (es : List Edge) (t : BergeTree) : Type 0 where
  pub columns : AreItsColumns es t.root None (class_columns t.below)
  pub follows : FollowsBelow es t.root t.below
  pub least : AllByRecursion (λ e. t.root ≤ e) (entries t)

abbrev pub roots : List BergeTree → List ℕ
roots [] = []
roots (t ∷ ts) = t.root ∷ roots ts

-- one tree for each component of the set, in the order of their roots, and each entry of the set once
pub record AreAllTreesOf (es : List Edge) (set : List ℕ) (ts : List BergeTree) : Type 0 where
  pub trees : AllByRecursion (IsTreeOf es) ts
  pub ascending : IsStrictlyIncreasing (roots ts)
  pub once : AllPairs (λ e f. e ≢ f) (entries_of_all ts)
  pub covers : AllByRecursion (Contains (entries_of_all ts)) set
  pub within : AllByRecursion (Contains set) (entries_of_all ts)
