-- Equalities of an example, and their tree.
use Rattle.std.specs.Prelude.{ℕ, List, [], ◌∷◌}
use Rattle.berge_tree.specs.declared.edges.Edge.{Edge}
use Rattle.berge_tree.specs.Equalities.{place}
use Rattle.berge_tree.specs.Trees.{no_class, and_class, one_member, and_member, BergeTree}

-- the equalities R.X = S.X, S.X = T.X and S.Y = U.Y. The entries R, S, T and U have the numbers 0 to 3
abbrev pub four_entries : List Edge
four_entries =
    record { left = place 0 0; right = place 1 0 }
    ∷ record { left = place 1 0; right = place 2 0 }
    ∷ record { left = place 1 1; right = place 3 1 }
    ∷ []

-- below R is the class of X, with S and T below it. Below S is the class of Y, with U below it
abbrev pub four_entries_tree : BergeTree
four_entries_tree =
    record {
      root = 0;
      below = and_class 0
          (and_member 1 0 (and_class 1 (one_member 3 1 no_class) no_class) (one_member 2 0 no_class)) no_class;
    }

abbrev pub tree_of_one : ℕ → BergeTree
tree_of_one entry = record { root = entry; below = no_class }
