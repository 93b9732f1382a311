-- What a sink has taken, if it tells its bytes.
use Rattle.std.specs.Prelude.{ℕ, ◌≡◌, List, ◌++◌, Option, None, Some}

-- the bytes that were taken before, followed by `bytes`
abbrev pub appended : Option (List ℕ) → List ℕ → Option (List ℕ)
appended None bytes = None
appended (Some before) bytes = Some (before ++ bytes)

-- the sink took a prefix of `text`
pub record GrewByPrefix (old new : Option (List ℕ)) (text : List ℕ) : Type 0 where
  pub front : List ℕ
  pub rest : List ℕ
  pub whole : front ++ rest ≡ text
  pub grew : new ≡ appended old front

-- the sink took `text` except for its last bytes, `waiting`, which wait in the buffer
pub record TookBut (old new : Option (List ℕ)) (waiting text : List ℕ) : Type 0 where
  pub front : List ℕ
  pub whole : front ++ waiting ≡ text
  pub grew : new ≡ appended old front
