-- The bound of a join tree. It is computed from the leaves up, from the columns' descending lists.
use Rattle.std.specs.Prelude.{◌≡◌, ℕ, ◌*◌, List, [], ◌∷◌}
use Rattle.std.specs.List.{sum}
use Rattle.degree_sequences.specs.ByRank.{rank_product}
use Rattle.degree_sequences.specs.Composition.{ChildLists, composed, root_total}
use Rattle.degree_sequences.specs.Descending.{IsDescending}
use Rattle.berge_tree.specs.Trees.{Classes, no_class, and_class, Members, one_member, and_member, BergeTree}
use Rattle.tree_bounds.specs.Columns.{EachColumn}

-- a bound for the number of rows of each entry, and a list for each of its joined columns
pub record EntryBounds : Type 0 where
  pub rows : ℕ → ℕ
  pub list : ℕ → ℕ → List ℕ

-- `list` may be a list of a column of an entry with this row bound: it is in descending order, and it sums to the row bound
pub record IsListOf (rows : ℕ) (list : List ℕ) : Type 0 where
  pub descends : IsDescending list
  pub total : sum list ≡ rows

abbrev pub HasList : EntryBounds → ℕ → ℕ → Type 0
HasList b entry column = IsListOf (b.rows entry) (b.list entry column)

-- every column of a tree has its list
abbrev pub TreeHasLists : EntryBounds → BergeTree → Type 0
TreeHasLists b t = EachColumn (HasList b) t

-- for each class below an entry: the list of the entry's column in the class, and the list of the class
abbrev mutual
  pub child_lists : EntryBounds → ℕ → Classes → List ChildLists
  child_lists b entry no_class = []
  child_lists b entry (and_class column members rest) = record { column = b.list entry column; class = class_list b members }
      ∷ child_lists b entry rest

  -- the list of a class: the rank-wise product of the lists of the entries below it. Each of these lists is first composed with the classes below its
  -- entry
  pub class_list : EntryBounds → Members → List ℕ
  class_list b (one_member entry column below) = composed (b.list entry column) (child_lists b entry below)
  class_list b (and_member entry column below rest) = rank_product (composed (b.list entry column) (child_lists b entry below))
      (class_list b rest)

-- the bound of a tree: the sum of the weights of the root's rows
abbrev pub bound_of_tree : EntryBounds → BergeTree → ℕ
bound_of_tree b t = root_total (child_lists b t.root t.below) (b.rows t.root)

-- the bound of several trees: the product of their bounds
abbrev pub bound_of_trees : EntryBounds → List BergeTree → ℕ
bound_of_trees b [] = 1
bound_of_trees b (t ∷ ts) = bound_of_tree b t * bound_of_trees b ts
