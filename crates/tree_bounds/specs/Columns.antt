-- Properties of each joined column of a tree, and of each column that equalities name.
use Rattle.std.specs.Prelude.{ℕ, ⊤, List}
use Rattle.std.specs.List.{AllByRecursion}
use Rattle.berge_tree.specs.declared.edges.Edge.{Edge}
use Rattle.berge_tree.specs.Equalities.{places_of}
use Rattle.berge_tree.specs.Trees.{Classes, no_class, and_class, Members, one_member, and_member, BergeTree}

-- each column below an entry has property Q. These are the entry's columns in the classes below it, and all columns below these classes
abbrev mutual
  pub EachColumnBelow : (ℕ → ℕ → Type 0) → ℕ → Classes → Type 0
  EachColumnBelow Q entry no_class = ⊤
  EachColumnBelow Q entry (and_class column members rest) = Q entry column × EachColumnWithin Q members × EachColumnBelow Q entry rest

  -- for each entry below a class, its column in the class has property Q, and so has each column below the entry
  pub EachColumnWithin : (ℕ → ℕ → Type 0) → Members → Type 0
  EachColumnWithin Q (one_member entry column below) = Q entry column × EachColumnBelow Q entry below
  EachColumnWithin Q (and_member entry column below rest) = Q entry column × EachColumnBelow Q entry below × EachColumnWithin Q rest

-- each column of a tree has property Q
abbrev pub EachColumn : (ℕ → ℕ → Type 0) → BergeTree → Type 0
EachColumn Q t = EachColumnBelow Q t.root t.below

-- each column that an equality names has property Q
abbrev pub EachNamedColumn : (ℕ → ℕ → Type 0) → List Edge → Type 0
EachNamedColumn Q es = AllByRecursion (λ p. Q p.entry p.column) (places_of es)
