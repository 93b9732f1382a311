-- The tree in heap boxes, as a mathematical tree without the boxes' addresses.
use Rattle.std.specs.Prelude.{Option, Some, None}
use Rattle.berge_tree.specs.declared.tree.Classes.{Classes as ClassBoxes}
use Rattle.berge_tree.specs.declared.tree.Classes.TheVariants as classes
use Rattle.berge_tree.specs.declared.tree.Members.{Members as MemberBoxes}
use Rattle.berge_tree.specs.declared.tree.Members.TheVariants as members
use Rattle.berge_tree.specs.declared.tree.Tree.{Tree}
use Rattle.berge_tree.specs.Trees.{Classes, no_class, and_class, Members, one_member, and_member, BergeTree}

abbrev mutual
  pub classes_of : ClassBoxes → Classes
  classes_of classes.End = no_class
  classes_of (classes.And' column p members q rest) = and_class column (members_of members) (classes_of rest)

  pub members_of : MemberBoxes → Members
  members_of (members.One entry column below) = one_member entry column (classes_of below)
  members_of (members.And' entry column below p rest) = and_member entry column (classes_of below) (members_of rest)

-- the members, if there are any
abbrev pub some_members_of : Option MemberBoxes → Option Members
some_members_of None = None
some_members_of (Some members) = Some (members_of members)

abbrev pub tree_of : Tree → BergeTree
tree_of t = record { root = t.root; below = classes_of t.below }
