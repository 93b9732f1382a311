-- Join trees: entries and classes alternately.
use Rattle.std.specs.Prelude.{ℕ, List, [], ◌∷◌, ◌++◌}

mutual
  -- the classes below an entry, each with the entry's column in it
  pub data Classes : Type 0 where
    no_class : Classes
    and_class : (column : ℕ) → Members → Classes → Classes

  -- the entries below a class, one or more, each with its column in the class and the classes below it
  pub data Members : Type 0 where
    one_member : (entry column : ℕ) → Classes → Members
    and_member : (entry column : ℕ) → Classes → Members → Members

-- an entry and the classes below it
pub record BergeTree : Type 0 where
  pub root : ℕ
  pub below : Classes

-- ---- the entries of a tree, in the order of the walk

abbrev mutual
  pub entries_below : Classes → List ℕ
  entries_below no_class = []
  entries_below (and_class column members rest) = entries_within members ++ entries_below rest

  pub entries_within : Members → List ℕ
  entries_within (one_member entry column below) = entry ∷ entries_below below
  entries_within (and_member entry column below rest) = entry ∷ (entries_below below ++ entries_within rest)

abbrev pub entries : BergeTree → List ℕ
entries t = t.root ∷ entries_below t.below

abbrev pub entries_of_all : List BergeTree → List ℕ
entries_of_all [] = []
entries_of_all (t ∷ ts) = entries t ++ entries_of_all ts
