-- Searches among finitely many candidates, in a fixed order. A search gives what its first fitting candidate gives, or None.
use Rattle.std.specs.Prelude.{ℕ, zero, suc, ◌==◌, ◌&&◌, ◌||◌, Bool, true, false, List, [], ◌∷◌, Option, None, Some}
use Rattle.std.specs.Option.{option_or}

-- this value, if the test holds
abbrev pub when : {X : Type 0} → Bool → Option X → Option X
when false found = None
when true found = found

-- the candidates are the numbers below `most`, in ascending order
unfoldable pub first_below : {X : Type 0} → (ℕ → Option X) → ℕ → Option X
first_below at zero = None
first_below at (suc most) = option_or (at 0) (first_below (λ n. at (suc n)) most)

-- the candidates are the lists of at most `len` numbers, each below `most`
unfoldable pub first_list : {X : Type 0} → (List ℕ → Option X) → ℕ → ℕ → Option X
first_list at zero most = at []
first_list at (suc len) most = option_or (at []) (first_below (λ x. first_list (λ list. at (x ∷ list)) len most) most)

-- the candidates are the ways to split a text into a front and a rest, shorter fronts first
unfoldable pub first_split : {X : Type 0} → (List ℕ → List ℕ → Option X) → List ℕ → Option X
first_split at [] = at [] []
first_split at (c ∷ text) = option_or (at [] (c ∷ text)) (first_split (λ front rest. at (c ∷ front) rest) text)

-- whether some way to split the text passes the test
unfoldable pub some_split : (List ℕ → List ℕ → Bool) → List ℕ → Bool
some_split test [] = test [] []
some_split test (c ∷ text) = test [] (c ∷ text) || some_split (λ front rest. test (c ∷ front) rest) text

-- whether two lists have the same elements. `same` compares two elements
unfoldable pub same_list : {X : Type 0} → (X → X → Bool) → List X → List X → Bool
same_list same [] [] = true
same_list same [] (y ∷ ys) = false
same_list same (x ∷ xs) [] = false
same_list same (x ∷ xs) (y ∷ ys) = same x y && same_list same xs ys

abbrev pub same_numbers : List ℕ → List ℕ → Bool
same_numbers xs ys = same_list (λ x y. x == y) xs ys

-- whether a value passes the test. Where there is no value, the first says yes, and the second no
abbrev pub passes_if_some : {X : Type 0} → (X → Bool) → Option X → Bool
passes_if_some test None = true
passes_if_some test (Some x) = test x

abbrev pub is_some_that_passes : {X : Type 0} → (X → Bool) → Option X → Bool
is_some_that_passes test None = false
is_some_that_passes test (Some x) = test x
