-- The results of the stages that read a query: a value, or the first error. In names an `offence` is the offset of an error.
use Rattle.std.specs.Prelude.{◌≡◌, ℕ, List, [], ◌∷◌, Option, Some, None, ⊤}
use Rattle.query_names.specs.declared.errors.QueryError.{QueryError}
use Rattle.query_names.specs.declared.errors.QueryError.TheVariants as error

-- the first member of a list, if it has one
abbrev pub first : {A : Type 0} → List A → Option A
first [] = None
first (one ∷ rest) = Some one

-- the error is a Name error at the first of these offsets, or NoMemory, which may come at any time
abbrev pub IsNameError : List ℕ → QueryError → Type 0
IsNameError offsets (error.Name offset) = first offsets ≡ Some offset
IsNameError offsets error.NoMemory = ⊤
IsNameError offsets (error.Syntax offset) = ⊥
IsNameError offsets (error.Kind offset) = ⊥
IsNameError offsets (error.Limit which n) = ⊥

-- the number that was found before, or otherwise the first of `others`
abbrev pub or_first : Option ℕ → List ℕ → Option ℕ
or_first (Some n) others = Some n
or_first None others = first others
