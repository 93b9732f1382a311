-- A column whose numbers are replaced by other numbers.
use Rattle.std.specs.Prelude.{◌≡◌, ◌↔◌, ℕ, Bool, List, Option, None, Some, Contains, ⊤}

-- different numbers of a column get different numbers
abbrev pub IsOneToOne : (ℕ → ℕ) → List ℕ → Type 0
IsOneToOne f column = (a b : ℕ) → Contains column a → Contains column b → f a ≡ f b → a ≡ b

-- the new numbers compare by `new_at_most` as the column's numbers do by `at_most`
abbrev pub KeepsOrder : (ℕ → ℕ → Bool) → (ℕ → ℕ → Bool) → (ℕ → ℕ) → List ℕ → Type 0
KeepsOrder at_most new_at_most f column = (a b : ℕ) → Contains column a → Contains column b → new_at_most (f a) (f b) ≡ at_most a b

-- a number of a column passes one test if and only if its new number passes the other test
abbrev pub PassAlike : (ℕ → Bool) → (ℕ → Bool) → (ℕ → ℕ) → List ℕ → Type 0
PassAlike passes new_passes f column = (a : ℕ) → Contains column a → new_passes (f a) ≡ passes a

-- two rows have equal keys if and only if their other keys are equal
abbrev pub AreEqualAlike : (ℕ → ℕ) → (ℕ → ℕ) → List ℕ → Type 0
AreEqualAlike key other_key rows = (i j : ℕ) → Contains rows i → Contains rows j → (key i ≡ key j) ↔ (other_key i ≡ other_key j)

-- A number of a column is `value` if and only if its new number is `new_value`. If `value` is `None`, no new number of the column is `new_value`. If
-- `new_value` is `None`, no number of the column is `value`
abbrev pub MatchAlike : (ℕ → ℕ) → List ℕ → Option ℕ → Option ℕ → Type 0
MatchAlike f column new_value value = (a : ℕ) → Contains column a → (Some (f a) ≡ new_value) ↔ (Some a ≡ value)

-- no row of a column has the number, or the number is missing (`None`)
abbrev pub IsMissing : List ℕ → Option ℕ → Type 0
IsMissing column None = ⊤
IsMissing column (Some value) = Contains column value → ⊥
