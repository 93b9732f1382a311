-- Facts for the invariants of loops: the first item that passes a test, numbers below a limit, and `map` over the first i items.
use Rattle.std.proofs.Common.{◌≡◌, ℕ, zero, suc, ◌+◌, ◌<◌, ◌≤◌, Bool, true, false, cond, List, [], ◌∷◌, ◌++◌, length, take, drop, get_or, map, Some, None, find, refl, ap, sym, ◌∙◌, add-one, arith}
use Rattle.std.proofs.lemmas.List.{take_more}

module _ {X : Type 0} (t : X → Bool) where
  pub found_here : (xs : List X) (i : ℕ) (d : X) → i < length xs → t (get_or xs i d) ≡ true → find t (drop i xs) ≡ Some (get_or xs i d)
  found_here [] i d low is = absurd (omega arith)
  found_here (x ∷ xs) zero d low is = ap (λ (b : Bool). cond b (Some x) (find t xs)) is
  found_here (x ∷ xs) (suc i) d low is = found_here xs i d (omega arith) is

  find_passes_over : (xs : List X) (i : ℕ) (d : X) → i < length xs → t (get_or xs i d) ≡ false → find t (drop i xs) ≡ find t (drop (suc i) xs)
  find_passes_over [] i d low is = absurd (omega arith)
  find_passes_over (x ∷ xs) zero d low is = ap (λ (b : Bool). cond b (Some x) (find t xs)) is
  find_passes_over (x ∷ xs) (suc i) d low is = find_passes_over xs i d (omega arith) is

  pub passed_one : (xs : List X) (i : ℕ) (d : X) → i < length xs → t (get_or xs i d) ≡ false → find t (drop (i + 1) xs) ≡ find t (drop i xs)
  passed_one xs i d low is = ap (λ (k : ℕ). find t (drop k xs)) (add-one i) ∙ sym (find_passes_over xs i d low is)

  pub none_left : (xs : List X) (i : ℕ) → length xs ≤ i → find t (drop i xs) ≡ None
  none_left [] zero past = refl
  none_left [] (suc i) past = refl
  none_left (x ∷ xs) zero past = absurd (omega arith)
  none_left (x ∷ xs) (suc i) past = none_left xs i (omega arith)

-- ---- numbers below m, with one more number below m at the end

pub one_more_below : (m : ℕ) (xs : List ℕ) (x : ℕ) → ((i : ℕ) → get_or xs i 0 < m) → x < m → (i : ℕ) → get_or (xs ++ x ∷ []) i 0 < m
one_more_below m [] x few low zero = low
one_more_below m [] x few low (suc i) = omega (arith, few 0)
one_more_below m (y ∷ xs) x few low zero = few 0
one_more_below m (y ∷ xs) x few low (suc i) = one_more_below m xs x (λ k. few (suc k)) low i

-- ---- mapping the first i items and one more item

module _ {X Y : Type 0} (f : X → Y) where
  mapped_last : (xs : List X) (x : X) → map f (xs ++ x ∷ []) ≡ map f xs ++ f x ∷ []
  mapped_last [] x = refl
  mapped_last (y ∷ xs) x = ap (λ (s : List Y). f y ∷ s) (mapped_last xs x)

  pub map_taken : (xs : List X) (i : ℕ) (d : X) → i < length xs → map f (take (i + 1) xs) ≡ map f (take i xs) ++ f (get_or xs i d) ∷ []
  map_taken xs i d low = ap (map f) (take_more xs i d low) ∙ mapped_last (take i xs) (get_or xs i d)

dropped : {X : Type 0} (xs : List X) (i : ℕ) (d : X) → i < length xs → drop i xs ≡ get_or xs i d ∷ drop (suc i) xs
dropped [] i d low = absurd (omega arith)
dropped (x ∷ xs) zero d low = refl
dropped (x ∷ xs) (suc i) d low = dropped xs i d (omega arith)

pub drop_one : {X : Type 0} (xs : List X) (i : ℕ) (d : X) → i < length xs → drop i xs ≡ get_or xs i d ∷ drop (i + 1) xs
drop_one xs i d low = dropped xs i d low ∙ ap (λ (k : ℕ). get_or xs i d ∷ drop k xs) (sym (add-one i))
