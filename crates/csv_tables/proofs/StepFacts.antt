-- A list is read item by item. The whole list is the items that were read, followed by the result of reading the remaining items.
use Rattle.std.proofs.Common.{◌≡◌, List, [], ◌∷◌, ◌++◌, Result, Ok, Err, refl, ap, append_assoc, sym, ◌∙◌}
use Rattle.csv_tables.specs.declared.types.TableError.{TableError}
use Rattle.csv_tables.specs.Steps.{then_all}

abbrev pub after_all : {A : Type 0} → List A → Result (List A) TableError → Result (List A) TableError
after_all items (Ok rest) = Ok (items ++ rest)
after_all items (Err e) = Err e

-- `items` of a list are read, and `rest` is what remains: together they are the whole list or its refusal
pub record ReadTo {A : Type 0} (whole : Result (List A) TableError) (items : List A) (rest : Result (List A) TableError) : Type 0 where
  pub so_far : whole ≡ after_all items rest

none_before : {A : Type 0} (r : Result (List A) TableError) → r ≡ after_all [] r
none_before (Ok xs) = refl
none_before (Err e) = refl

pub read_none : {A : Type 0} (whole : Result (List A) TableError) → ReadTo whole [] whole
read_none whole = record { so_far = none_before whole }

one_before : {A : Type 0} (items : List A) (x : A) (r : Result (List A) TableError) → after_all items (then_all (Ok x) r) ≡ after_all (items ++ x ∷ []) r
one_before items x (Ok xs) = ap Ok (sym (append_assoc items (x ∷ []) xs))
one_before items x (Err e) = refl

pub read_one : {A : Type 0} (whole : Result (List A) TableError) (items : List A) (rest : Result (List A) TableError) (first : Result A TableError) (x : A) (after : Result (List A) TableError)
    → ReadTo whole items rest → rest ≡ then_all first after → first ≡ Ok x → ReadTo whole (items ++ x ∷ []) after
read_one whole items rest first x after r e f = record { so_far = r.so_far ∙ ap (after_all items) (e ∙ ap (λ a. then_all a after) f) ∙ one_before items x after }

pub read_refused : {A : Type 0} (whole : Result (List A) TableError) (items : List A) (rest : Result (List A) TableError) (first : Result A TableError) (e : TableError) (after : Result (List A) TableError)
    → ReadTo whole items rest → rest ≡ then_all first after → first ≡ Err e → whole ≡ Err e
read_refused whole items rest first e after r is f = r.so_far ∙ ap (after_all items) (is ∙ ap (λ a. then_all a after) f)
