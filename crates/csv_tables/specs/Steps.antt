-- How the steps of reading a file follow each other: the first refusal is the result.
use Rattle.std.specs.Prelude.{Bool, true, false, List, ◌∷◌, Option, None, Some, Result, Ok, Err}
use Rattle.csv_tables.specs.declared.types.TableError.{TableError}

infixl 10 ◌>>=◌
abbrev pub ◌>>=◌ : {A B : Type 0} → Result A TableError → (A → Result B TableError) → Result B TableError
(Ok x) >>= f = f x
(Err e) >>= f = Err e

-- the value, or this refusal if there is no value
abbrev pub or_refuse : {A : Type 0} → TableError → Option A → Result A TableError
or_refuse e None = Err e
or_refuse e (Some x) = Ok x

-- this refusal if the test holds, else the next step
abbrev pub refuse_if : {A : Type 0} → Bool → TableError → Result A TableError → Result A TableError
refuse_if true e next = Err e
refuse_if false e next = next

-- the list with the item put in front, or the first refusal
abbrev pub then_all : {A : Type 0} → Result A TableError → Result (List A) TableError → Result (List A) TableError
then_all (Ok x) (Ok xs) = Ok (x ∷ xs)
then_all (Ok x) (Err e) = Err e
then_all (Err e) rest = Err e
