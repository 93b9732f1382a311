-- Equalities for examples. Entries are numbered in FROM order, and columns in the order of their table.
use Rattle.std.specs.Prelude.{List, [], ◌∷◌, replicate}
use Rattle.berge_tree.specs.declared.edges.Edge.{Edge}
use Rattle.berge_tree.specs.Testing.{edge_of}

-- the triangle: R(A, C), S(A, B) and T(B, C), where R.A = S.A, S.B = T.B and T.C = R.C
abbrev pub first_side : Edge
first_side = edge_of 0 0 1 0

abbrev pub second_side : Edge
second_side = edge_of 1 1 2 0

abbrev pub third_side : Edge
third_side = edge_of 2 1 0 1

abbrev pub triangle : List Edge
triangle = first_side ∷ second_side ∷ third_side ∷ []

-- R(A, B) and S(A, B), where R.A = S.A and R.B = S.B
abbrev pub pair : List Edge
pair = edge_of 0 0 1 0 ∷ edge_of 0 1 1 1 ∷ []

-- R.A = S.A, seventeen times
abbrev pub seventeen : List Edge
seventeen = replicate 17 (edge_of 0 0 1 0)
