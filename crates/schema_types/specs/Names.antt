-- Names, as their bytes after folding, and their indexes in lists.
use Rattle.std.specs.Prelude.{ℕ, ◌+◌, Bool, if◌then◌else◌, List, [], ◌∷◌, ◌++◌, map, Option, Some, None, option_map}
use Rattle.std.specs.Str.{bytes_eq}
use Rattle.ll_grammars.specs.declared.lexeme.Lexeme.{Lexeme}
use Rattle.sql_tokens.specs.Words.{name_of}

-- the first element of a list, if there is one
abbrev pub first : {A : Type 0} → List A → Option A
first [] = None
first (x ∷ rest) = Some x

-- a list of one element if the condition is true, and otherwise the empty list
abbrev pub list_if : {A : Type 0} → Bool → A → List A
list_if condition x = if condition then x ∷ [] else []

-- the index of the first name in the list that is equal to `name`, counted from 0
unfoldable pub index_of_name : List (List ℕ) → List ℕ → Option ℕ
index_of_name [] name = None
index_of_name (other ∷ rest) name = if bytes_eq name other then Some 0 else option_map (λ index. index + 1) (index_of_name rest name)

-- the index of a name after another name is added at index `last`. A name that was in the list keeps its index. Otherwise its index is `last`, if
-- `same` says that it is the added name
abbrev pub index_after_push : Option ℕ → ℕ → Bool → Option ℕ
index_after_push (Some index) last same = Some index
index_after_push None last same = if same then Some last else None

-- the names of tokens
abbrev pub names_of : List ℕ → List Lexeme → List (List ℕ)
names_of text tokens = map (name_of text) tokens

-- the lists that f gives for the elements, one after another. f takes an element and the elements before it
unfoldable pub flat_map_with_earlier : {X : Type 0} → (List X → X → List ℕ) → List X → List X → List ℕ
flat_map_with_earlier f earlier [] = []
flat_map_with_earlier f earlier (x ∷ rest) = f earlier x ++ flat_map_with_earlier f (earlier ++ x ∷ []) rest

abbrev pub flat_map_with_all_earlier : {X : Type 0} → (List X → X → List ℕ) → List X → List ℕ
flat_map_with_all_earlier f xs = flat_map_with_earlier f [] xs
