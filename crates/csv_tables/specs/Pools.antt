-- The texts of a pool, and how it grows.
use Rattle.std.specs.Prelude.{ℕ, ◌≡◌, List, [], ◌∷◌, ◌++◌, if◌then◌else◌, AllPairs, ◌≢◌}
use Rattle.std.specs.List.{list_any}
use Rattle.std.specs.Str.{bytes_eq}

-- the texts, with this text added at the end if it is new
abbrev pub with_text : List (List ℕ) → List ℕ → List (List ℕ)
with_text texts text = if list_any (bytes_eq text) texts then texts else texts ++ text ∷ []

-- no two texts are equal
abbrev pub TextsAreDifferent : List (List ℕ) → Type 0
TextsAreDifferent texts = AllPairs (λ a b. a ≢ b) texts

-- the list `new` begins with the texts of the list `old`
pub record PoolBeginsWith (old new : List (List ℕ)) : Type 0 where
  pub more : List (List ℕ)
  pub grew : new ≡ old ++ more
