-- A text that is split at the first occurrence of a byte.
use Rattle.std.specs.Prelude.{ℕ, ◌≡◌, ◌≢◌, List, ◌∷◌, ◌++◌, All}

abbrev pub HasNoByte : ℕ → List ℕ → Type 0
HasNoByte byte text = All (λ c. c ≢ byte) text

-- `front` is the part of the text before the first `byte`, and `rest` the part after it
pub record IsSplitAt (byte : ℕ) (text front rest : List ℕ) : Type 0 where
  pub first : HasNoByte byte front
  pub whole : text ≡ front ++ (byte ∷ rest)
