-- The relation between a word and the value that it spells.
use Rattle.std.specs.Prelude.{ℕ, ◌≡◌, ◌≢◌, List, Option, None, Some}

-- the word spells this value, and the value is allowed. `None`: the word spells no allowed value
abbrev pub Spells : {X : Type 0} → (X → List ℕ) → (X → Type 0) → List ℕ → Option X → Type 0
Spells {X} text IsAllowed word None = (x : X) → IsAllowed x → text x ≢ word
Spells {X} text IsAllowed word (Some x) = IsAllowed x × (text x ≡ word)
