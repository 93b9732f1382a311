-- Words of a command line, as their bytes.
use Rattle.std.specs.Prelude.{ℕ, Bool, false, ◌==◌, List, [], ◌∷◌}

abbrev pub Word : Type 0
Word = List ℕ

-- whether a word is a dash and at least one more byte. Such a word is a positional word only after `--`
abbrev pub is_dashed : Word → Bool
is_dashed [] = false
is_dashed (first ∷ []) = false
is_dashed (first ∷ second ∷ rest) = first == 45
