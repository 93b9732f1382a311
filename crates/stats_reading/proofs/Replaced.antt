-- If one element of a list is exchanged for another, the list keeps each property that the new element has.
use Rattle.std.proofs.Common.{◌≡◌, ◌≢◌, ℕ, zero, suc, List, [], ◌∷◌, ◌++◌, length, get_or, map, refl, ap, sym, subst, ◌∙◌, arith}
use Rattle.std.specs.Prelude.{All, AllPairs}
use Rattle.stats_file.specs.declared.types.Datum.{Datum}

pub all_replaced : {X : Type 0} (P : X → Type 0) (xs : List X) (x y : X) (ys : List X) → All P (xs ++ x ∷ ys) → P y → All P (xs ++ y ∷ ys)
all_replaced P [] x y ys h own zero d lt = own
all_replaced P [] x y ys h own (suc k) d lt = h (suc k) d (omega arith)
all_replaced P (z ∷ xs) x y ys h own zero d lt = h 0 d (omega arith)
all_replaced P (z ∷ xs) x y ys h own (suc k) d lt = all_replaced P xs x y ys (λ j e less. h (suc j) e (omega arith)) own k d (omega arith)

pub length_replaced : {X : Type 0} (xs : List X) (x y : X) (ys : List X) → length (xs ++ x ∷ ys) ≡ length (xs ++ y ∷ ys)
length_replaced [] x y ys = refl
length_replaced (z ∷ xs) x y ys = ap suc (length_replaced xs x y ys)

pub map_replaced : {X Y : Type 0} (f : X → Y) (xs : List X) (x y : X) (ys : List X) → f x ≡ f y → map f (xs ++ x ∷ ys) ≡ map f (xs ++ y ∷ ys)
map_replaced f [] x y ys e = ap (λ z. z ∷ map f ys) e
map_replaced f (z ∷ xs) x y ys e = ap (λ l. f z ∷ l) (map_replaced f xs x y ys e)

same_firsts : (xs ys : List (Datum × List ℕ)) (k : ℕ) (d : Datum × List ℕ) → map (λ (f : Datum × List ℕ). f.0) xs ≡ map (λ (f : Datum × List ℕ). f.0) ys → (get_or xs k d).0 ≡ (get_or ys k d).0
same_firsts [] [] k d e = refl
same_firsts [] (y ∷ ys) k d e = absurd (cc)
same_firsts (x ∷ xs) [] k d e = absurd (cc)
same_firsts (x ∷ xs) (y ∷ ys) zero d e = cc
same_firsts (x ∷ xs) (y ∷ ys) (suc k) d e =
    let rest : map (λ (f : Datum × List ℕ). f.0) xs ≡ map (λ (f : Datum × List ℕ). f.0) ys = cc in
    same_firsts xs ys k d rest

same_lengths : (xs ys : List (Datum × List ℕ)) → map (λ (f : Datum × List ℕ). f.0) xs ≡ map (λ (f : Datum × List ℕ). f.0) ys → length xs ≡ length ys
same_lengths [] [] e = refl
same_lengths [] (y ∷ ys) e = absurd (cc)
same_lengths (x ∷ xs) [] e = absurd (cc)
same_lengths (x ∷ xs) (y ∷ ys) e =
    let rest : map (λ (f : Datum × List ℕ). f.0) xs ≡ map (λ (f : Datum × List ℕ). f.0) ys = cc in
    ap suc (same_lengths xs ys rest)

pub values_still_differ : (xs ys : List (Datum × List ℕ)) → map (λ (f : Datum × List ℕ). f.0) xs ≡ map (λ (f : Datum × List ℕ). f.0) ys → AllPairs (λ (a b : Datum × List ℕ). a.0 ≢ b.0) xs
    → AllPairs (λ (a b : Datum × List ℕ). a.0 ≢ b.0) ys
values_still_differ xs ys e h i j d less lt = λ same.
    h i j d less (omega (arith, same_lengths xs ys e)) (same_firsts xs ys i d e ∙ same ∙ sym (same_firsts xs ys j d e))

pub values_still_hold : (P : Datum → Type 0) (xs ys : List (Datum × List ℕ)) → map (λ (f : Datum × List ℕ). f.0) xs ≡ map (λ (f : Datum × List ℕ). f.0) ys → All (λ (f : Datum × List ℕ). P f.0) xs
    → All (λ (f : Datum × List ℕ). P f.0) ys
values_still_hold P xs ys e h k d lt = subst P (same_firsts xs ys k d e) (h k d (omega (arith, same_lengths xs ys e)))
